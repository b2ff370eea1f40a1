use Rattle.std.proofs.Common.{◌≡◌, true, List, length, subst, sym, rules}
use Rattle.std.specs.Prelude.{IsSome}
use Rattle.chem_model.specs.declared.name.Name.{Name}
use Rattle.env_store.specs.CodeFacts.{IsBodyAt}
use Rattle.loc_tree.specs.Tree.{spot}
use Rattle.site_solution.specs.Draws.{CanDraw}
use Rattle.site_solution.specs.InCode.{is_in_code}
use Rattle.site_solution.specs.InTree.{is_in_tree}
use Rattle.site_solution.specs.Pours.{CanPour}
use Rattle.worked_sites.proofs.Needs.{can_pour}
use Rattle.worked_sites.proofs.by_hand.pour_at.Goals as goal

pub pour-requires-clause-body : goal.pour-requires-clause-body
pour-requires-clause-body c =
    let one : IsBodyAt c.args.code.now 1 c.in-Some-default-eq1.body = search rules in
    subst (λ (ns : List Name). IsBodyAt c.args.code.now (length ns) c.in-Some-default-eq1.body)
    (sym c.in_ok-env.ensures) one

pub pour-requires-clause-can : goal.pour-requires-clause-can
pour-requires-clause-can c =
    let there : is_in_tree c.args.tree.now c.args.site.now ≡ true = search rules in
    let coded : is_in_code c.args.code.now c.args.tree.now c.args.site.now ≡ true = search rules in
    let drawn : CanDraw c.args.tree.now c.args.site.now = search rules in
    let held : IsSome (spot c.args.tree.now c.args.loc) = search rules in
    let can = can_pour c.args.code.now c.args.tree.now c.args.site.now c.args.loc there coded drawn
    held in
    subst (λ (ns : List Name). CanPour c.args.code.now c.args.tree.now ns c.args.site.now)
    (sym c.in_ok-env.ensures) can
