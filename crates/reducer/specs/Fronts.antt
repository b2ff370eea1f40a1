-- The fronts of queues, and the event that takes them.
use Rattle.std.specs.Prelude.{ℕ, List, [], ◌∷◌, ◌++◌, take, slice_index_or}
use Rattle.chem_model.specs.declared.event.Event.{Event}
use Rattle.chem_model.specs.declared.event.Event.TheVariants as event
use Rattle.wire_packet.specs.MessageFacts.{MessageParts}
use Rattle.net_laws.specs.Changes.{ids}
use Rattle.reducer.specs.declared.pick.Pick.{Pick}
use Rattle.reducer.specs.Picks.{Picked, rule_of}

-- the front of each of these queues, in order; an empty queue has none
abbrev pub fronts_of : List (List MessageParts) → List ℕ → List MessageParts
fronts_of qs [] = []
fronts_of qs (c ∷ cs) = take 1 (slice_index_or qs c []) ++ fronts_of qs cs

-- the fronts of the guard's queues
abbrev pub taken_by : Picked → List MessageParts
taken_by x = fronts_of x.group.queues x.guard.chans

-- the reaction of a pick: its rule takes the fronts of its guard's queues
abbrev pub event_of : Pick → Picked → Event
event_of p x = event.React (rule_of p x) (ids (taken_by x))
