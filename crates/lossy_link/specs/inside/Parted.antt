-- What parts of a step do.
use Rattle.std.specs.Prelude.{◌≡◌, ℕ, ◌+◌, List, [], ◌∷◌, ◌++◌, Option, Some, None, length}
use Rattle.chem_model.specs.declared.event.Event.{Event}
use Rattle.net_core.specs.Whole.{NetParts}
use Rattle.net_core.specs.declared.drained.FlightFrom.{FlightFrom}
use Rattle.lossy_link.specs.declared.frame.Frame.{Frame}
use Rattle.lossy_link.specs.declared.frame.Frame.TheVariants.{Data, Ack}
use Rattle.lossy_link.specs.declared.step.Step.{Step}
use Rattle.lossy_link.specs.Lines.{line_of, all_sent, with_handed, with_acked}
use Rattle.lossy_link.specs.Links.{Links}
use Rattle.lossy_link.specs.Over.{ReceivesOver, StepsTo}

-- the next packet of a pair is received
pub record IsReceived (f t : ℕ) (bytes : List ℕ) (old new : Links NetParts) : Type 0 where
  pub out : List FlightFrom
  pub receives : ReceivesOver old.net t bytes new.net out
  pub wire : new.wire ≡ old.wire
  pub lines : new.lines ≡ all_sent out (with_handed f t bytes old.lines)

-- what becomes of a packet that was taken off the wire: it is received, or dropped
pub data ComesIn (f t n : ℕ) (bytes : List ℕ) (old new : Links NetParts) : Type 0 where
  takes :
      (out : List FlightFrom) → n ≡ length (line_of f t old.lines).history.handed
      → ReceivesOver old.net t bytes new.net out → new.wire ≡ old.wire ++ Ack f t (n + 1) ∷ []
      → new.lines ≡ all_sent out (with_handed f t bytes old.lines)
      → ComesIn f t n bytes old new
  drops :
      (n ≡ length (line_of f t old.lines).history.handed → ⊥) → new.net ≡ old.net
      → new.wire ≡ old.wire ++ Ack f t (length (line_of f t old.lines).history.handed) ∷ []
      → new.lines ≡ old.lines → ComesIn f t n bytes old new

-- and of any frame: an acknowledgement raises the number of its pair
pub record IsLearned (f t n : ℕ) (old new : Links NetParts) : Type 0 where
  pub net : new.net ≡ old.net
  pub wire : new.wire ≡ old.wire
  pub lines : new.lines ≡ with_acked f t n old.lines

abbrev pub Comes : Frame → Links NetParts → Links NetParts → Type 0
Comes (Data f t n bytes) old new = ComesIn f t n bytes old new
Comes (Ack f t n) old new = IsLearned f t n old new

-- ---- lists of steps

abbrev pub listed : Option Event → List Event
listed None = []
listed (Some e) = e ∷ []

-- one step more is made, and its event is behind the others
pub record MakesMore (old : Links NetParts) (es : List Event) (x : Step) (new : Links NetParts)
    (more : List Event) : Type 0 where
  pub outcome : Option Event
  pub steps : StepsTo old x outcome new
  pub events : more ≡ es ++ listed outcome
