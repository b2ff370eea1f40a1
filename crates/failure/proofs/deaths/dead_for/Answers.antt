use Rattle.std.proofs.Common.{◌≡◌, Bool, true, false, cond, Some, None, sym, ap, subst, ◌∙◌}
use Rattle.std.specs.Prelude.{is_some}
use Rattle.chem_model.specs.declared.event.Event.TheVariants as event
use Rattle.site_solution.specs.Possible.{Foretells}
use Rattle.site_solution.specs.inside.InTree.{request_stands}
use Rattle.site_solution.proofs.Together.{in_tree_parts, asked_there, request_passes}
use Rattle.failure.specs.Deaths.{sees_death, dead_for}
use Rattle.failure.proofs.Requests.{detection_foretold}
use Rattle.failure.proofs.deaths.dead_for.Goals as goal

pub sees_death-requires-clause-loc : goal.sees_death-requires-clause-loc
sees_death-requires-clause-loc c =
    asked_there c.args.tree.now c.args.site.now c.args.atom.now c.in-Some.request.now
    c.site_is_kept.ensures.kept (in_tree_parts c.args.tree.now c.args.site.now c.requires)
    (sym c.in-Some.ensures)

pub sees_death-requires-clause-names : goal.sees_death-requires-clause-names
sees_death-requires-clause-names c =
    let parts = in_tree_parts c.args.tree.now c.args.site.now c.requires in
    request_passes (request_stands c.args.tree.now) c.args.site.now.requests c.args.atom.now
    c.in-Some.request.now parts.requests (sym c.in-Some.ensures)

pub returns-then-sees_death-clause-possible : goal.returns-then-sees_death-clause-possible
returns-then-sees_death-clause-possible c = λ rules_of.
    let sees : sees_death c.args.tree.now (Some c.in-Some.request.now) ≡ true =
    sym c.sees_death.ensures ∙ c.if-sees_death.true in
    let exact : is_some (dead_for c.args.tree.now c.args.atom.now c.args.site.now) ≡ true =
    ap
    (λ o. is_some (cond (sees_death c.args.tree.now o) (Some (event.Detect c.args.atom.now)) None))
    (sym c.in-Some.ensures)
    ∙ ap (λ (b : Bool). is_some (cond b (Some (event.Detect c.args.atom.now)) None)) sees in
    subst (λ (b : Bool). Foretells rules_of
    c.args.tree.now c.args.site.now c.args.atom.now (event.Detect c.args.atom.now) b) exact
    (detection_foretold rules_of c.args.tree.now c.args.site.now c.args.atom.now)

pub returns-else-sees_death-clause-possible : goal.returns-else-sees_death-clause-possible
returns-else-sees_death-clause-possible c = λ rules_of.
    let sees : sees_death c.args.tree.now (Some c.in-Some.request.now) ≡ false =
    sym c.sees_death.ensures ∙ c.if-sees_death.false in
    let exact : is_some (dead_for c.args.tree.now c.args.atom.now c.args.site.now) ≡ false =
    ap
    (λ o. is_some (cond (sees_death c.args.tree.now o) (Some (event.Detect c.args.atom.now)) None))
    (sym c.in-Some.ensures)
    ∙ ap (λ (b : Bool). is_some (cond b (Some (event.Detect c.args.atom.now)) None)) sees in
    subst (λ (b : Bool). Foretells rules_of
    c.args.tree.now c.args.site.now c.args.atom.now (event.Detect c.args.atom.now) b) exact
    (detection_foretold rules_of c.args.tree.now c.args.site.now c.args.atom.now)
