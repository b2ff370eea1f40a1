-- Sites that are lent to workers, and what is taken back of them. No number of workers occurs here.
use Rattle.std.specs.Prelude.{◌≡◌, ℕ, ◌+◌, ◌*◌, ◌-◌, ◌<◌, ◌≤◌, ◌^◌, List, [], ◌∷◌, ◌++◌, length}
use Rattle.std.specs.Prelude.{Option, Some, None, replicate}
use Rattle.chem_model.specs.declared.event.Event.{Event}
use Rattle.chem_model.specs.declared.event.Out.{Out}
use Rattle.chem_model.specs.Each.{Each}
use Rattle.wire_packet.specs.declared.packet.Flight.{Flight}
use Rattle.env_store.specs.CodeParts.{CodeParts}
use Rattle.loc_tree.specs.Tree.{Tree, bare}
use Rattle.net_laws.specs.Site.{Site}
use Rattle.net_core.specs.declared.parts.Parts.{Parts}
use Rattle.net_core.specs.declared.senders.Run.{Run}
use Rattle.net_core.specs.declared.slots.Slot.{Slot}
use Rattle.net_core.specs.declared.turn.Work.{Work}
use Rattle.net_core.specs.inside.Alone.{IsAlone, IsWorked}
use Rattle.net_core.specs.inside.Runs.{spread}
use Rattle.net_core.specs.Lending.{mail_to, AreSentInTurn}
use Rattle.net_core.specs.Parts.{joined, all_carried, IsMessageFlight, net_of}
use Rattle.net_core.specs.Scheduling.{AreTurns, numbers}
use Rattle.net_core.specs.Whole.{IsWhole}

-- ---- lending

-- the site of the slot can have its turn, of these flights
pub record CanWork (c : CodeParts) (t : Tree) (flights : List Flight) (quota : ℕ) (slot : Slot)
    : Type 0 where
  pub spelled : Each IsMessageFlight flights
  pub events : ℕ
  pub few : events + quota < 2 ^ 32
  pub alone :
      IsAlone c t slot.site.number events slot.site
      (mail_to slot.site.number (all_carried flights))

-- it had its turn, unless it has no work, since memory ran out
abbrev pub IsServedAs : CodeParts → Tree → List Flight → ℕ → Site → Option Work → Site → Type 0
IsServedAs c t flights quota s None new = Unit {0}
IsServedAs c t flights quota s (Some w) new = IsWorked c t quota flights s w new

abbrev pub IsServed : CodeParts → Tree → List Flight → ℕ → Slot → Slot → Type 0
IsServed c t flights quota old new = IsServedAs c t flights quota old.site new.work new.site

-- two lists, member by member
abbrev pub Pairwise : {X Y : Type 0} → (X → Y → Type 0) → List X → List Y → Type 0
Pairwise R [] [] = Unit {0}
Pairwise R [] (y ∷ ys) = ⊥
Pairwise R (x ∷ xs) [] = ⊥
Pairwise R (x ∷ xs) (y ∷ ys) = R x y × Pairwise R xs ys

abbrev pub slot_of : Site → Slot
slot_of s = record { site = s; work = None }

-- ---- what slots hold, in their order

abbrev pub HasWork : Slot → Type 0
HasWork slot = (w : Work) × (slot.work ≡ Some w)

abbrev pub events_in : Option Work → List Event
events_in None = []
events_in (Some w) = w.made.events

abbrev pub outs_in : Option Work → List Out
outs_in None = []
outs_in (Some w) = w.made.outs

-- the packets that go on, before those that the site sends
abbrev pub flights_in : Option Work → List Flight
flights_in None = []
flights_in (Some w) = w.on ++ w.made.sends

abbrev pub sites_of : List Slot → List Site
sites_of [] = []
sites_of (s ∷ ss) = s.site ∷ sites_of ss

abbrev pub events_of : List Slot → List Event
events_of [] = []
events_of (s ∷ ss) = events_in s.work ++ events_of ss

abbrev pub outs_of : List Slot → List Out
outs_of [] = []
outs_of (s ∷ ss) = outs_in s.work ++ outs_of ss

abbrev pub flights_of : List Slot → List Flight
flights_of [] = []
flights_of (s ∷ ss) = flights_in s.work ++ flights_of ss

-- each of them from the site that leaves it
abbrev pub froms_of : List Slot → List ℕ
froms_of [] = []
froms_of (s ∷ ss) = replicate (length (flights_in s.work)) s.site.number ++ froms_of ss

-- ---- taking back

-- what the work of a turn left is behind what the parts and the journal had
pub record IsTaken (w : Work) (old : Parts) (before : List Event) (new : Parts)
    (after : List Event) : Type 0 where
  pub version : new.version ≡ old.version
  pub sites : new.sites.items ≡ old.sites.items
  pub tree : new.tree ≡ old.tree
  pub trace : joined new.trace.items ≡ joined old.trace.items ++ w.made.outs
  pub flights : new.flights.items ≡ old.flights.items ++ (w.on ++ w.made.sends)
  pub count : new.under_way ≡ old.under_way + length (w.on ++ w.made.sends)
  pub few : old.under_way < 2 ^ 32 → new.under_way < 2 ^ 32
  pub events : after ≡ before ++ w.made.events

-- what the slots hold is behind what the parts and the journal had
pub record AreBack (slots : List Slot) (old : Parts) (before : List Event) (new : Parts)
    (after : List Event) : Type 0 where
  pub worked : Each HasWork slots
  pub version : new.version ≡ old.version
  pub sites : new.sites.items ≡ old.sites.items ++ sites_of slots
  pub tree : new.tree ≡ old.tree
  pub trace : joined new.trace.items ≡ joined old.trace.items ++ outs_of slots
  pub flights : new.flights.items ≡ old.flights.items ++ flights_of slots
  pub count : new.under_way ≡ old.under_way + length (flights_of slots)
  pub few : old.under_way < 2 ^ 32 → new.under_way < 2 ^ 32
  pub events : after ≡ before ++ events_of slots

-- ---- a round

-- all sites had their turns, and the parts are whole again
pub record HasRound (c : CodeParts) (quota : ℕ) (old new : Parts) (es : List Event) : Type 0 where
  pub turns :
      let net = net_of c.seen old in
      AreTurns c quota (numbers net) (length net.packets) net es (net_of c.seen new)
  pub within : length es ≤ quota * length old.sites.items
  pub tree : bare new.tree ≡ bare old.tree
  pub sites : length new.sites.items ≡ length old.sites.items
  pub whole :
      (events : ℕ) → events + quota * length old.sites.items < 2 ^ 32 - 1 → IsWhole c old events
      → IsWhole c new (events + length es)

-- and each packet that is then under way is from the site that left it
pub record HasSent (c : CodeParts) (quota : ℕ) (old new : Parts) (senders : List Run) : Type 0
  where
    pub turns :
        let net = net_of c.seen old in
        AreSentInTurn c quota net.tree net.packets 0 net.sites (spread senders)
    pub many : length (spread senders) ≡ new.under_way
