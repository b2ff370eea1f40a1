use Rattle.std.proofs.Common.{◌∙◌, sym, ap}
use Rattle.site_solution.proofs.Together.{in_tree_parts, asked_there}
use Rattle.failure.specs.Halts.{is_ready}
use Rattle.failure.proofs.halting.request_can_halt.Goals as goal

pub is_ready-requires : goal.is_ready-requires
is_ready-requires c =
    asked_there c.args.tree.now c.args.site.now c.args.request.now.id c.args.request.now
    c.site_is_kept.ensures.kept (in_tree_parts c.args.tree.now c.args.site.now c.requires.tree)
    c.requires.here

pub returns : goal.returns
returns c = c.is_ready.ensures ∙ ap (is_ready c.args.tree.now) (sym c.requires.here)
