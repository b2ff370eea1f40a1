-- The fault that ends the reading of sort lines.
use Rattle.std.specs.Prelude.{◌≡◌}
use Rattle.sort_lines.specs.declared.read.SortEnd.{SortEnd}
use Rattle.sort_lines.specs.declared.read.SortEnd.TheVariants as sort_end
use Rattle.sort_check.specs.declared.judged.Judged.{Judged}
use Rattle.sort_check.specs.declared.judged.Judged.TheVariants.{No}

-- the verdict names the fault; none goes with want of memory
abbrev pub IsFaultOf : SortEnd → Judged → Type 0
IsFaultOf (sort_end.Fault kind place) verdict = verdict ≡ No kind place
IsFaultOf sort_end.Memory verdict = ⊥
