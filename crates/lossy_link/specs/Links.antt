-- Links that lose, repeat and reorder packets, over any network.
use Rattle.std.specs.Prelude.{◌≡◌, ℕ, ◌+◌, ◌<◌, ◌≤◌, List, [], ◌∷◌, ◌++◌, length, slice_get}
use Rattle.std.specs.Prelude.{Option, Some, None, Bool, true, false, ◌⊎◌}
use Rattle.chem_model.specs.Each.{Each}
use Rattle.chem_model.specs.declared.event.Event.{Event}
use Rattle.net_core.specs.Parts.{without}
use Rattle.net_core.specs.declared.choice.Choice.{Choice}
use Rattle.net_core.specs.declared.drained.FlightFrom.{FlightFrom}
use Rattle.lossy_link.specs.declared.frame.Frame.{Frame}
use Rattle.lossy_link.specs.declared.frame.Frame.TheVariants.{Data, Ack}
use Rattle.lossy_link.specs.declared.line.Line.{Line}
use Rattle.lossy_link.specs.declared.step.Step.{Step}
use Rattle.lossy_link.specs.declared.step.Step.TheVariants.{Act, Send, Lose, Repeat, Arrive}
use Rattle.lossy_link.specs.Lines.{line_of, all_sent, with_handed, with_acked, AreFine}

-- a network, the frames on the wire, and the lines of the pairs in order of their first packets
pub record Links (Net : Type 0) : Type 0 where
  pub net : Net
  pub wire : List Frame
  pub lines : List Line

-- ---- frames

-- what a frame says is so: its packet is the one that the pair sent with this number; the number
-- that it acknowledges is at most the receiver's next one, and the pair sent a packet
abbrev pub IsTrueOf : List Line → Frame → Type 0
IsTrueOf ls (Data f t n bytes) = slice_get (line_of f t ls).history.sent n ≡ Some bytes
IsTrueOf ls (Ack f t n) =
    (n ≤ length (line_of f t ls).history.handed) × (0 < length (line_of f t ls).history.sent)

pub record AreSound (xs : List Frame) (ls : List Line) : Type 0 where
  pub fine : AreFine ls
  pub wire : Each (IsTrueOf ls) xs

-- ---- packets that aren't acknowledged

-- one of the line, with its number
pub record IsOpenIn (l : Line) (n : ℕ) (bytes : List ℕ) : Type 0 where
  pub from : l.acked ≤ n
  pub is : slice_get l.history.sent n ≡ Some bytes

abbrev pub IsOpen : List Line → ℕ → ℕ → ℕ → List ℕ → Type 0
IsOpen ls f t n bytes = IsOpenIn (line_of f t ls) n bytes

abbrev pub NoneOpenIn : Line → ℕ → Type 0
NoneOpenIn l n = (bytes : List ℕ) → IsOpenIn l n bytes → ⊥

-- no packet of the pair with this number is open
abbrev pub NoneOpen : ℕ → ℕ → ℕ → List Line → Type 0
NoneOpen f t n ls = NoneOpenIn (line_of f t ls) n

-- pairs in order: by the first, and then by the second
abbrev pub Precedes : ℕ → ℕ → ℕ → ℕ → Type 0
Precedes f t g u = (f < g) ⊎ ((f ≡ g) × (t < u))

-- the one of the least number of the least pair that has one
pub record IsLeastOpen (ls : List Line) (f t n : ℕ) (bytes : List ℕ) : Type 0 where
  pub at : n ≡ (line_of f t ls).acked
  pub is : slice_get (line_of f t ls).history.sent n ≡ Some bytes
  pub least :
      (g u : ℕ) → Precedes g u f t → length (line_of g u ls).history.sent ≤ (line_of g u ls).acked

abbrev pub NoneIsOpen : List Line → Type 0
NoneIsOpen ls = (f t : ℕ) → length (line_of f t ls).history.sent ≤ (line_of f t ls).acked

-- it, or none is open
abbrev pub HasLeast : List Line → Option (ℕ × ℕ × ℕ) → Type 0
HasLeast ls None = NoneIsOpen ls
HasLeast ls (Some x) = (bytes : List ℕ) × IsLeastOpen ls x.0 x.1 x.2 bytes

-- ---- steps

-- the step makes a choice of the network
abbrev pub is_act : Step → Bool
is_act (Act x) = true
is_act (Send f t n) = false
is_act (Lose i) = false
is_act (Repeat i) = false
is_act (Arrive i) = false

-- `Acts net x e new out`: a choice that is no delivery, its event, the network that it leaves and
-- the packets that leave. `Receives net into bytes new out`: a site receives a packet
module _ (Net : Type 0) (Acts : Net → Choice → Event → Net → List FlightFrom → Type 0)
    (Receives : Net → ℕ → List ℕ → Net → List FlightFrom → Type 0) where
  pub data Steps (l : Links Net) : Step → Option Event → Links Net → Type 0 where
    acts :
        (x : Choice) (e : Event) (net : Net) (out : List FlightFrom)
        → Acts l.net x e net out
        → Steps l (Act x) (Some e)
        (record { net = net; wire = l.wire; lines = all_sent out l.lines })
    sends :
        (f t n : ℕ) (bytes : List ℕ) → IsOpen l.lines f t n bytes
        → Steps l (Send f t n) None (record l { wire = l.wire ++ Data f t n bytes ∷ [] })
    loses :
        (i : ℕ) (x : Frame) → slice_get l.wire i ≡ Some x
        → Steps l (Lose i) None (record l { wire = without i l.wire })
    repeats :
        (i : ℕ) (x : Frame) → slice_get l.wire i ≡ Some x
        → Steps l (Repeat i) None (record l { wire = l.wire ++ x ∷ [] })
    -- a packet with the receiver's next number is received
    takes :
        (i f t n : ℕ) (bytes : List ℕ) (net : Net) (out : List FlightFrom)
        → slice_get l.wire i ≡ Some (Data f t n bytes)
        → n ≡ length (line_of f t l.lines).history.handed → Receives l.net t bytes net out
        → Steps l (Arrive i) None
        (record {
          net = net;
          wire = without i l.wire ++ Ack f t (n + 1) ∷ [];
          lines = all_sent out (with_handed f t bytes l.lines);
        })
    -- one with any other number is dropped
    drops :
        (i f t n : ℕ) (bytes : List ℕ)
        → slice_get l.wire i ≡ Some (Data f t n bytes)
        → (n ≡ length (line_of f t l.lines).history.handed → ⊥)
        → Steps l (Arrive i) None
        (record l {
          wire = without i l.wire ++ Ack f t (length (line_of f t l.lines).history.handed) ∷ [];
        })
    -- an acknowledgement raises the acknowledged number of its pair
    learns :
        (i f t n : ℕ)
        → slice_get l.wire i ≡ Some (Ack f t n)
        → Steps l (Arrive i) None
        (record l { wire = without i l.wire; lines = with_acked f t n l.lines })

  -- a list of steps, with their events
  pub data StepsAll : Links Net → List Step → List Event → Links Net → Type 0 where
    stops : (l : Links Net) → StepsAll l [] [] l
    makes :
        (l mid end : Links Net) (x : Step) (xs : List Step) (e : Event) (es : List Event)
        → Steps l x (Some e) mid → StepsAll mid xs es end → StepsAll l (x ∷ xs) (e ∷ es) end
    carries :
        (l mid end : Links Net) (x : Step) (xs : List Step) (es : List Event)
        → Steps l x None mid → StepsAll mid xs es end → StepsAll l (x ∷ xs) es end

-- which steps are enabled, where these choices of the network are
abbrev pub IsEnabledWhere : (Net : Type 0) → (Net → Choice → Type 0) → Links Net → Step → Type 0
IsEnabledWhere Net Allows l (Act x) = Allows l.net x
IsEnabledWhere Net Allows l (Send f t n) = (bytes : List ℕ) × IsOpen l.lines f t n bytes
IsEnabledWhere Net Allows l (Lose i) = i < length l.wire
IsEnabledWhere Net Allows l (Repeat i) = i < length l.wire
IsEnabledWhere Net Allows l (Arrive i) = i < length l.wire
