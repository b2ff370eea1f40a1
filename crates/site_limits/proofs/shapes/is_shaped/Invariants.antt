use Rattle.std.proofs.Common.{◌≡◌, drop}
use Rattle.site_limits.specs.Shapes.{is_shaped}
use Rattle.site_limits.proofs.shapes.is_shaped.Given as goal

abbrev pub invariant-loop-shape : goal.invariant-loop-shape
invariant-loop-shape l =
    is_shaped (drop l.shape-index l.shapes) l.told ≡ is_shaped l.shapes l.told
