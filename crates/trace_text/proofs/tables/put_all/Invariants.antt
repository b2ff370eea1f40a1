use Rattle.std.proofs.Common.{◌≡◌, ◌≤◌, length, drop}
use Rattle.chem_model.specs.declared.name.Name.{Name}
use Rattle.chem_model.specs.Numbered.{binder_in}
use Rattle.trace_text.proofs.tables.put_all.Given as goal

abbrev pub decreases-loop-left : goal.decreases-loop-left
decreases-loop-left l = l.left

abbrev pub invariant-loop-left : goal.invariant-loop-left
invariant-loop-left l = (l.left ≤ length l.entries)
    × ((x : Name) → binder_in l.binders x ≡ binder_in (drop l.left l.entries) x)
