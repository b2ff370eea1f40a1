use Rattle.std.proofs.Common.{◌≡◌, Bool, sym, ap, subst, ◌∙◌}
use Rattle.chem_model.specs.declared.event.Event.TheVariants as event
use Rattle.site_solution.specs.Possible.{Foretells}
use Rattle.site_solution.proofs.Together.{in_tree_parts, asked_there}
use Rattle.failure.specs.Halts.{is_ready, can_halt}
use Rattle.failure.proofs.Requests.{halt_foretold}
use Rattle.failure.proofs.halting.halt_ready.Goals as goal

pub is_ready-requires : goal.is_ready-requires
is_ready-requires c =
    asked_there c.args.tree.now c.args.site.now c.args.atom.now c.in-Some.request.now
    c.site_is_kept.ensures.kept (in_tree_parts c.args.tree.now c.args.site.now c.requires)
    (sym c.in-Some.ensures)

pub returns-in-Some-clause-possible : goal.returns-in-Some-clause-possible
returns-in-Some-clause-possible c = λ rules_of.
    let exact : can_halt c.args.tree.now c.args.atom.now c.args.site.now ≡ c.is_ready.result =
    ap (is_ready c.args.tree.now) (sym c.in-Some.ensures) ∙ sym c.is_ready.ensures in
    subst (λ (b : Bool). Foretells rules_of
    c.args.tree.now c.args.site.now c.args.atom.now (event.Halt c.args.atom.now) b) exact
    (halt_foretold rules_of c.args.tree.now c.args.site.now c.args.atom.now)
