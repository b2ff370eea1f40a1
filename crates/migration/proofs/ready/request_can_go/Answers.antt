use Rattle.std.proofs.Common.{◌∙◌, sym, ap}
use Rattle.site_solution.specs.inside.InTree.{request_stands}
use Rattle.site_solution.proofs.Together.{in_tree_parts, asked_there, request_passes}
use Rattle.migration.specs.Moves.{is_ready}
use Rattle.migration.proofs.ready.request_can_go.Goals as goal

pub is_ready-requires-clause-loc : goal.is_ready-requires-clause-loc
is_ready-requires-clause-loc c =
    asked_there c.args.tree.now c.args.site.now c.args.request.now.id c.args.request.now
    c.site_is_kept.ensures.kept (in_tree_parts c.args.tree.now c.args.site.now c.requires.tree)
    c.requires.here

pub is_ready-requires-clause-names : goal.is_ready-requires-clause-names
is_ready-requires-clause-names c =
    let parts = in_tree_parts c.args.tree.now c.args.site.now c.requires.tree in
    request_passes (request_stands c.args.tree.now) c.args.site.now.requests
    c.args.request.now.id c.args.request.now parts.requests c.requires.here

pub returns : goal.returns
returns c =
    c.is_ready.ensures ∙ ap (is_ready c.args.version c.args.tree.now) (sym c.requires.here)
