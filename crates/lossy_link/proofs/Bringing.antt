-- Packets that are delivered without links, each taken out of a list beside the network.
use Rattle.std.proofs.Common.{◌≡◌, ℕ, ◌+◌, ◌<◌, ◌≤◌, List, [], ◌∷◌, ◌++◌, cond, Some, slice_get}
use Rattle.chem_model.specs.declared.event.Event.{Event}
use Rattle.net_core.specs.declared.choice.Choice.{Choice}
use Rattle.net_core.specs.declared.drained.FlightFrom.{FlightFrom}
use Rattle.net_core.specs.Parts.{without}
use Rattle.lossy_link.specs.declared.line.Line.{Line}
use Rattle.lossy_link.specs.Lines.{is_between, line_of, undelivered}
use Rattle.lossy_link.specs.Links.{Precedes}

-- the first packet of the least pair that has one, and its place
pub record IsFirstIn (packets : List FlightFrom) (i : ℕ) (p : FlightFrom) : Type 0 where
  pub is : slice_get packets i ≡ Some p
  pub first :
      (j : ℕ) (q : FlightFrom) → j < i → slice_get packets j ≡ Some q
      → q.from ≡ p.from → q.flight.target ≡ p.flight.target → ⊥
  pub least :
      (j : ℕ) (q : FlightFrom) → slice_get packets j ≡ Some q
      → Precedes q.from q.flight.target p.from p.flight.target → ⊥

-- the bytes of the packets of a pair, in order
abbrev pub of_pair : ℕ → ℕ → List FlightFrom → List (List ℕ)
of_pair f t [] = []
of_pair f t (p ∷ ps) =
    cond (is_between f t p.from p.flight.target) (p.flight.bytes ∷ of_pair f t ps) (of_pair f t ps)

-- the packets are those of the lines that aren't delivered
abbrev pub AreSame : List Line → List FlightFrom → Type 0
AreSame ls packets = (f t : ℕ) → undelivered (line_of f t ls) ≡ of_pair f t packets

module _ (Net : Type 0) (Acts : Net → Choice → Event → Net → List FlightFrom → Type 0)
    (Receives : Net → ℕ → List ℕ → Net → List FlightFrom → Type 0)
    (IsNext : Net → Choice → Type 0) (Rests : Net → Type 0) (budget : ℕ) where
  -- without links, from a network with nothing under way and these packets, after so many events
  pub data Brings : ℕ → Net → List FlightFrom → List Event → Net → Type 0 where
    delivers :
        (k i : ℕ) (net mid end : Net) (packets out : List FlightFrom) (p : FlightFrom)
        (es : List Event)
        → IsFirstIn packets i p → Receives net p.flight.target p.flight.bytes mid out
        → Brings k mid (without i packets ++ out) es end → Brings k net packets es end
    ends :
        (k : ℕ) (net : Net) (packets : List FlightFrom)
        → packets ≡ [] → budget ≤ k → Brings k net packets [] net
    rests :
        (k : ℕ) (net : Net) (packets : List FlightFrom)
        → packets ≡ [] → k < budget → Rests net → Brings k net packets [] net
    makes :
        (k : ℕ) (net mid end : Net) (packets out : List FlightFrom) (x : Choice) (e : Event)
        (es : List Event)
        → packets ≡ [] → k < budget → IsNext net x → Acts net x e mid out
        → Brings (k + 1) mid out es end → Brings k net packets (e ∷ es) end
