use Rattle.std.proofs.Common.{◌≡◌, ℕ, suc, ◌-◌, ◌+◌, ◌≤◌, List, length}
use Rattle.chem_model.specs.declared.event.AtomId.{AtomId}
use Rattle.trace_text.specs.LogText.{LogParts}
use Rattle.trace_text.specs.Fields.{Format}
use Rattle.trace_text.specs.LogFields.{taken, further}
use Rattle.trace_text.specs.inside.Reading.{read}
use Rattle.trace_text.proofs.read.taken_of.Given as goal

abbrev pub invariant-loop-after : goal.invariant-loop-after
invariant-loop-after l =
    ((n : ℕ) (next : List AtomId → Format LogParts) → length l.bytes ≤ n
    → read (taken n next) l.bytes ≡ read (further (suc n - length l.atoms) l.atoms next) l.rest)
    × (length l.atoms + length l.rest ≤ length l.bytes)

abbrev pub decreases-loop-after : goal.decreases-loop-after
decreases-loop-after l = length l.rest
