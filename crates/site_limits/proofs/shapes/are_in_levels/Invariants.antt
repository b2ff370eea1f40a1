use Rattle.std.proofs.Common.{◌≡◌, drop}
use Rattle.std.specs.List.{list_all}
use Rattle.site_limits.specs.Shapes.{is_in_levels}
use Rattle.site_limits.proofs.shapes.are_in_levels.Given as goal

abbrev pub invariant-loop-shape : goal.invariant-loop-shape
invariant-loop-shape l = list_all (is_in_levels l.code) (drop l.shape-index l.shapes)
    ≡ list_all (is_in_levels l.code) l.shapes
