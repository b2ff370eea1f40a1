-- How many events a step over links adds.
use Rattle.std.proofs.Common.{◌≡◌, ℕ, ◌+◌, ◌≤◌, List, Option, Some, None, ap, refl, arith}
use Rattle.chem_model.specs.declared.event.Event.{Event}
use Rattle.net_core.specs.Drained.{AreHandedOut}
use Rattle.net_core.specs.Whole.{NetParts}
use Rattle.net_core.specs.declared.choice.Choice.{Choice}
use Rattle.net_core.specs.declared.drained.FlightFrom.{FlightFrom}
use Rattle.lossy_link.specs.declared.step.Step.{Step}
use Rattle.lossy_link.specs.Links.{Links, acts, sends, loses, repeats, takes, drops, learns}
use Rattle.lossy_link.specs.Over.{ActsOver, ReceivesOver, StepsTo}
use Rattle.lossy_link.specs.Whole.{HasStarted}

handed_on : (old : NetParts) (out : List FlightFrom) (new : NetParts) → AreHandedOut old out new
    → new.events ≡ old.events
handed_on old out new h = ap (λ (n : NetParts). n.events) h.left

pub none_started : (net : NetParts) (l : Links NetParts) → HasStarted net l
    → l.net.events ≡ net.events
none_started net l h = handed_on net h.packets l.net h.handed_out

one_acted : (old : NetParts) (x : Choice) (e : Event) (new : NetParts) (out : List FlightFrom)
    → ActsOver old x e new out → new.events ≤ old.events + 1
one_acted old x e new out a =
    omega (arith, handed_on a.mid out new a.handed_out, a.events)

none_received : (old : NetParts) (site : ℕ) (bytes : List ℕ) (new : NetParts)
    (out : List FlightFrom) → ReceivesOver old site bytes new out → new.events ≤ old.events + 1
none_received old site bytes new out r =
    omega (arith, handed_on r.mid out new r.handed_out, r.events)

pub one_stepped : (old : Links NetParts) (x : Step) (o : Option Event) (new : Links NetParts)
    → StepsTo old x o new → new.net.events ≤ old.net.events + 1
one_stepped old x o new (acts y e net out a) = one_acted old.net y e net out a
one_stepped old x o new (sends f t n bytes h) = omega arith
one_stepped old x o new (loses i y h) = omega arith
one_stepped old x o new (repeats i y h) = omega arith
one_stepped old x o new (takes i f t n bytes net out at is r) =
    none_received old.net t bytes net out r
one_stepped old x o new (drops i f t n bytes at other) = omega arith
one_stepped old x o new (learns i f t n at) = omega arith
