use Rattle.std.proofs.Common.{◌≡◌, ℕ, ◌-◌, ◌≤◌, List, length}
use Rattle.chem_model.specs.declared.event.Event.{Event}
use Rattle.trace_text.specs.LogText.{LogParts}
use Rattle.trace_text.specs.Fields.{Format}
use Rattle.trace_text.specs.LogFields.{lines}
use Rattle.trace_text.specs.inside.Reading.{read}
use Rattle.trace_text.proofs.read.more_lines.Given as goal

abbrev pub invariant-loop : goal.invariant-loop
invariant-loop l =
    ((n total : ℕ) (next : List Event → Format LogParts) → length l.bytes ≤ n → l.count ≤ total
    → read (lines n l.initial.events total next) l.bytes
    ≡ read (lines n l.events (total - l.counter) next) l.rest)
    × (length l.rest ≤ length l.bytes)
