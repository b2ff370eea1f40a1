use Rattle.std.proofs.Common.{cond, Option, Some, None, sym, ap, ◌∙◌}
use Rattle.std.specs.Prelude.{is_some}
use Rattle.chem_model.specs.declared.event.Event.TheVariants as event
use Rattle.wire_packet.specs.GroupFacts.{RequestParts}
use Rattle.site_solution.specs.inside.InTree.{request_stands}
use Rattle.site_solution.proofs.Possible.{some_cond}
use Rattle.site_solution.proofs.Together.{in_tree_parts, asked_there, request_passes}
use Rattle.failure.specs.Deaths.{sees_death}
use Rattle.failure.proofs.deaths.request_sees_death.Goals as goal

pub sees_death-requires-clause-loc : goal.sees_death-requires-clause-loc
sees_death-requires-clause-loc c =
    asked_there c.args.tree.now c.args.site.now c.args.request.now.id c.args.request.now
    c.site_is_kept.ensures.kept (in_tree_parts c.args.tree.now c.args.site.now c.requires.tree)
    c.requires.here

pub sees_death-requires-clause-names : goal.sees_death-requires-clause-names
sees_death-requires-clause-names c =
    let parts = in_tree_parts c.args.tree.now c.args.site.now c.requires.tree in
    request_passes (request_stands c.args.tree.now) c.args.site.now.requests
    c.args.request.now.id c.args.request.now parts.requests c.requires.here

pub returns : goal.returns
returns c =
    let i = c.args.request.now.id in
    c.sees_death.ensures
    ∙ some_cond (sees_death c.args.tree.now (Some c.args.request.now)) (event.Detect i)
    ∙ ap (λ (o : Option RequestParts).
    is_some (cond (sees_death c.args.tree.now o) (Some (event.Detect i)) None))
    (sym c.requires.here)
