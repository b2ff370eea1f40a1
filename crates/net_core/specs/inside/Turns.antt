-- Sites that have their turns where they stand, one after another.
use Rattle.std.specs.Prelude.{◌≡◌, ℕ, ◌+◌, ◌<◌, ◌≤◌, ◌^◌, List, Bool, true, ◌++◌, length, map}
use Rattle.std.specs.Prelude.{Some, replicate, slice_get, slice_set}
use Rattle.chem_model.specs.declared.event.Event.{Event}
use Rattle.chem_model.specs.Each.{Each}
use Rattle.wire_packet.specs.declared.packet.Flight.{Flight}
use Rattle.env_store.specs.CodeParts.{CodeParts}
use Rattle.loc_tree.specs.Tree.{Tree, bare}
use Rattle.net_laws.specs.Site.{Site}
use Rattle.net_core.specs.declared.parts.Parts.{Parts}
use Rattle.net_core.specs.declared.slots.Slot.{Slot}
use Rattle.net_core.specs.declared.turn.Work.{Work}
use Rattle.net_core.specs.inside.Alone.{IsWorked}
use Rattle.net_core.specs.inside.Idle.{AreIdle}
use Rattle.net_core.specs.inside.Slots.{IsServed, Pairwise, slot_of, HasWork, sites_of, events_of}
use Rattle.net_core.specs.inside.Slots.{outs_of, flights_of, froms_of}
use Rattle.net_core.specs.Parts.{joined}

-- ---- one turn

-- the site s, at this place, had its turn
pub record IsWorkedAt (c : CodeParts) (t : Tree) (quota : ℕ) (coming : List Flight) (i : ℕ)
    (s : Site) (w : Work) (old new : List Site) : Type 0 where
  pub site : Site
  pub worked : IsWorked c t quota coming s w site
  pub sites : new ≡ slice_set old i site

-- what stands beside the parts of a network in a round: its events, which site sent each packet
-- that is under way, and which sites are known to be idle
pub record Beside : Type 0 where
  pub events : List Event
  pub froms : List ℕ
  pub idle : List Bool

-- the site s, at this place, had its turn, and what that left is behind what there was
pub record HasTurned (c : CodeParts) (quota : ℕ) (coming : List Flight) (i : ℕ) (s : Site)
    (old : Parts) (before : Beside) (new : Parts) (after : Beside) : Type 0 where
  pub site : Site
  pub work : Work
  pub worked : IsWorked c old.tree quota coming s work site
  pub version : new.version ≡ old.version
  pub sites : new.sites.items ≡ slice_set old.sites.items i site
  pub tree : new.tree ≡ old.tree
  pub trace : joined new.trace.items ≡ joined old.trace.items ++ work.made.outs
  pub flights : new.flights.items ≡ old.flights.items ++ (work.on ++ work.made.sends)
  pub count : new.under_way ≡ old.under_way + length (work.on ++ work.made.sends)
  pub few : old.under_way < 2 ^ 32 → new.under_way < 2 ^ 32
  pub events : after.events ≡ before.events ++ work.made.events
  pub sent :
      after.froms
      ≡ before.froms ++ replicate (length (work.on ++ work.made.sends)) site.number
  pub idle : after.idle ≡ slice_set before.idle i work.idle

-- ---- several

-- Of the sites of the old parts the first n had their turns, and `done` is what slots of theirs
-- would hold; the others, `waiting`, stand as they did.
pub record AreThrough (c : CodeParts) (quota : ℕ) (coming : List Flight) (old : Parts)
    (before : Beside) (n : ℕ) (new : Parts) (after : Beside) : Type 0 where
  pub turned : List Site
  pub waiting : List Site
  pub done : List Slot
  pub all : old.sites.items ≡ turned ++ waiting
  pub many : length turned ≡ n
  pub served : Pairwise (IsServed c old.tree coming quota) (map slot_of turned) done
  pub worked : Each HasWork done
  pub version : new.version ≡ old.version
  pub sites : new.sites.items ≡ sites_of done ++ waiting
  pub tree : new.tree ≡ old.tree
  pub trace : joined new.trace.items ≡ joined old.trace.items ++ outs_of done
  pub flights : new.flights.items ≡ old.flights.items ++ flights_of done
  pub count : new.under_way ≡ old.under_way + length (flights_of done)
  pub few : old.under_way < 2 ^ 32 → new.under_way < 2 ^ 32
  pub events : after.events ≡ before.events ++ events_of done
  pub sent : after.froms ≡ before.froms ++ froms_of done
  pub idle : AreIdle c (bare old.tree) new.sites.items after.idle
  pub long : length after.idle ≡ length before.idle
  pub still :
      (i : ℕ) → n ≤ i → slice_get after.idle i ≡ Some true → slice_get before.idle i ≡ Some true
