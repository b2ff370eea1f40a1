use Rattle.std.proofs.Common.{◌≡◌, ◌++◌, drop}
use Rattle.chem_model.specs.Each.{Each}
use Rattle.trace_text.specs.LogText.{events_text}
use Rattle.trace_text.specs.Bounds.{IsBounded}
use Rattle.trace_text.proofs.log.push_events.Given as goal

abbrev pub invariant-loop-event : goal.invariant-loop-event
invariant-loop-event l = (l.text ++ events_text (drop l.event-index l.event-items)
    ≡ l.initial.text ++ events_text l.event-items)
    × (Each IsBounded (drop l.event-index l.event-items) → Each IsBounded l.event-items)
