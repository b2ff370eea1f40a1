use Rattle.std.proofs.Common.{◌≡◌, ℕ, [], ◌<◌, ◌≤◌, List, length}
use Rattle.chem_model.specs.declared.event.Event.{Event}
use Rattle.trace_text.specs.LogText.{LogParts}
use Rattle.trace_text.specs.Fields.{Format}
use Rattle.trace_text.specs.LogFields.{lines}
use Rattle.trace_text.specs.inside.Reading.{read}
use Rattle.trace_text.proofs.read.lines_of.Given as goal

abbrev pub invariant-loop-left : goal.invariant-loop-left
invariant-loop-left l =
    ((n : ℕ) (next : List Event → Format LogParts) → length l.fn.text ≤ n
    → read (lines n [] l.fn.count next) l.fn.text ≡ read (lines n l.events l.left next) l.rest)
    × (length l.rest ≤ length l.fn.text)
    × (0 < l.part)

abbrev pub decreases-loop-left : goal.decreases-loop-left
decreases-loop-left l = l.left
