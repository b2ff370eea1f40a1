-- A site that works while its network is elsewhere: it does what it would do in the network, where
-- all the others wait.
use Rattle.std.specs.Prelude.{◌≡◌, ℕ, ◌+◌, ◌<◌, ◌^◌, List, [], ◌∷◌, ◌++◌, length, true, Some}
use Rattle.std.specs.Prelude.{slice_get}
use Rattle.chem_model.specs.declared.event.Event.{Event}
use Rattle.chem_model.specs.Each.{Each}
use Rattle.wire_packet.specs.declared.packet.Flight.{Flight}
use Rattle.env_store.specs.CodeParts.{CodeParts}
use Rattle.loc_tree.specs.Tree.{Tree, bare}
use Rattle.net_laws.specs.Site.{Site}
use Rattle.net_laws.specs.Net.{Addressed, Net}
use Rattle.net_laws.specs.Rounds.{WorksOff}
use Rattle.site_solution.specs.declared.effects.Effects.{Effects}
use Rattle.reducer.specs.declared.pick.Pick.{Pick}
use Rattle.net_core.specs.declared.turn.Made.{Made}
use Rattle.net_core.specs.declared.turn.Work.{Work}
use Rattle.site_turn.specs.Reacting.{ReactsBy}
use Rattle.reducer.specs.Ready.{NoneFires}
use Rattle.net_core.specs.Lending.{mail_to, WorksAlone}
use Rattle.net_core.specs.Parts.{all_carried, IsMessageFlight}
use Rattle.net_core.specs.Whole.{IsRunning}

-- the site is the site i of a network with this tree that runs the code and had so many events, and
-- the packets under way to it there begin with this mail
pub record IsAlone (c : CodeParts) (t : Tree) (i events : ℕ) (s : Site) (mail : List Addressed)
    : Type 0 where
  pub net : Net
  pub running : IsRunning c net events
  pub tree : net.tree ≡ bare t
  pub here : slice_get net.sites i ≡ Some s
  pub later : List Addressed
  pub mail_is : mail_to i net.packets ≡ mail ++ later

-- ---- its mail

-- the mail among these flights was worked off, and these go on
pub record HasArrived (t : Tree) (i : ℕ) (flights : List Flight) (s : Site) (on : List Flight)
    (new : Site) : Type 0 where
  pub works : WorksOff (bare t) s (mail_to i (all_carried flights)) (all_carried on) new
  pub spelled : Each IsMessageFlight on

-- ---- its reactions

-- an event and its effects go behind what was made so far
pub record IsNoted (e : Event) (effects : Effects) (old new : Made) : Type 0 where
  pub events : new.events ≡ old.events ++ e ∷ []
  pub outs : new.outs ≡ old.outs ++ effects.outs
  pub sends : new.sends ≡ old.sends ++ effects.sends

-- the reaction of a pick was made, and what it leaves is noted
pub record ReactsAndNotes (c : CodeParts) (t : Tree) (s : Site) (q : Pick) (old : Made)
    (new : Site) (made : Made) : Type 0 where
  pub event : Event
  pub effects : Effects
  pub reacts : ReactsBy c t s q event effects new
  pub noted : IsNoted event effects old made

-- reactions up to a quota
pub record HasReacted (c : CodeParts) (t : Tree) (i quota : ℕ) (s : Site) (m : Made) (new : Site)
    : Type 0 where
  pub works : WorksAlone c (bare t) i quota s m.events m.outs (all_carried m.sends) new
  pub spelled : Each IsMessageFlight m.sends
  pub stays :
      (events : ℕ) → events + quota < 2 ^ 32 → IsAlone c t i events s []
      → IsAlone c t i (events + length m.events) new []

-- ---- its turn

pub record IsWorked (c : CodeParts) (t : Tree) (quota : ℕ) (flights : List Flight) (s : Site)
    (w : Work) (new : Site) : Type 0 where
  pub mid : Site
  pub arrives : HasArrived t s.number flights s w.on mid
  pub reacts : HasReacted c t s.number quota mid w.made new
  pub stays :
      (events : ℕ) → IsAlone c t s.number events s (mail_to s.number (all_carried flights))
      → IsAlone c t s.number events mid []
  pub idle : w.idle ≡ true → NoneFires c (bare t) new
