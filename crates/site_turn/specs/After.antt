-- The event of what a site does next, and what it leaves once it is known whether it was made.
use Rattle.std.specs.Prelude.{◌≡◌, ◌≤◌, ℕ, true, List, [], Some, length}
use Rattle.chem_model.specs.declared.event.AtomId.{AtomId}
use Rattle.chem_model.specs.declared.event.Event.{Event}
use Rattle.chem_model.specs.declared.event.Event.TheVariants as event
use Rattle.chem_model.specs.ProgramFacts.{ProgramTerms}
use Rattle.wire_packet.specs.declared.packet.Ask.{Ask}
use Rattle.wire_packet.specs.declared.packet.Ask.TheVariants as request
use Rattle.wire_packet.specs.GroupFacts.{RequestParts}
use Rattle.env_store.specs.CodeParts.{CodeParts}
use Rattle.loc_tree.specs.Tree.{Tree, with_room}
use Rattle.net_laws.specs.Site.{Site}
use Rattle.net_laws.specs.Net.{with_births}
use Rattle.net_laws.specs.Holding.{request_with, drop_request}
use Rattle.site_solution.specs.Held.{taken_at}
use Rattle.site_solution.specs.declared.effects.Effects.{Effects}
use Rattle.site_solution.specs.Staying.{CanAct}
use Rattle.reducer.specs.declared.pick.Pick.{Pick}
use Rattle.reducer.specs.Picks.{Picked, Picks}
use Rattle.reducer.specs.Fronts.{event_of}
use Rattle.reducer.specs.Reacting.{RunsProgram, ran_by}
use Rattle.reducer.specs.Reacted.{Reacts, StaysFit}
use Rattle.failure.specs.Halts.{IsHalt}
use Rattle.failure.specs.Detects.{IsDetection}
use Rattle.migration.specs.Within.{leads_into, IsMoveWithin}
use Rattle.migration.specs.Across.{can_join, IsMoveBetween}
use Rattle.site_turn.specs.declared.next.Chosen.{Chosen}
use Rattle.site_turn.specs.declared.next.Chosen.TheVariants as chosen
use Rattle.site_turn.specs.declared.turn.Turn.{Turn}
use Rattle.site_turn.specs.declared.turn.Turn.TheVariants.{Did, Passed, Nothing, NotEnabled, Full}

-- ---- the event of a choice

-- the event by which a request is met
abbrev pub event_for : Ask → AtomId → Event
event_for (request.Go b k) a = event.Move a
event_for (request.Fail b k) a = event.Detect a
event_for request.Halt a = event.Halt a

-- the pick's reaction; the Move, Halt or Detect of the request
abbrev pub IsEventOf : CodeParts → Site → Chosen → Event → Type 0
IsEventOf c s (chosen.Pick p) e = (x : Picked) × (Picks c s p x × (e ≡ event_of p x))
IsEventOf c s (chosen.Ask a) e =
    (q : RequestParts) × ((request_with a s.requests ≡ Some q) × (e ≡ event_for q.ask a))
IsEventOf c s chosen.Nothing e = ⊥

-- a site can make every event but the Move to a location that it doesn't host
abbrev pub FitsHere : Site → Event → Type 0
FitsHere s (event.React r took) = Unit {0}
FitsHere s (event.Move a) = leads_into a s s ≡ true
FitsHere s (event.Halt a) = Unit {0}
FitsHere s (event.Detect a) = Unit {0}

-- the request leads to a location of the second site, which has what the calls over it need, and to
-- which the request's location may come
pub record FitsAcross (c : CodeParts) (t : Tree) (from into : Site) (a : AtomId) : Type 0 where
  pub hosted : leads_into a from into ≡ true
  pub act : CanAct c t into
  pub joins : can_join a from into ≡ true

-- ---- trees and effects

-- the trees have the same locations; how much room is kept for births is memory
pub record IsSameTree (t u : Tree) : Type 0 where
  pub roots : u.roots ≡ t.roots
  pub entries : u.entries ≡ t.entries

-- the tree got room for the births of the pick's reaction
pub record HasRoomFor (c : CodeParts) (t : Tree) (s : Site) (p : Pick) (u : Tree) : Type 0 where
  pub room : ℕ
  pub tree : u ≡ with_room t room
  pub births : (x : Picked) → Picks c s p x → length (ran_by c s x).births ≤ room

-- the tree, once the event of what the site chose is ready
abbrev pub IsReadied : CodeParts → Tree → Site → Chosen → Tree → Type 0
IsReadied c t s (chosen.Pick p) u = HasRoomFor c t s p u
IsReadied c t s (chosen.Ask a) u = u ≡ t
IsReadied c t s chosen.Nothing u = ⊥

pub record AreNone (e : Effects) : Type 0 where
  pub sends : e.sends ≡ []
  pub outs : e.outs ≡ []
  pub births : e.births ≡ []

-- the new site is this one, and nothing is handed out
pub record IsLeft (s new : Site) (e : Effects) : Type 0 where
  pub site : new ≡ s
  pub none : AreNone e

-- ---- reactions

-- the pick's reaction where it was made; its messages are dropped where it isn't enabled, and in
-- all else the site is as it was
abbrev pub AfterPick : CodeParts → Tree → Site → Pick → Turn → Site → Effects → Type 0
AfterPick c t s p (Did place) new e = (x : Picked) → Picks c s p x → Reacts c t s p x new e
AfterPick c t s p NotEnabled new e =
    (x : Picked) → Picks c s p x → IsLeft (taken_at p.group x.guard.chans s) new e
AfterPick c t s p Nothing new e = IsLeft s new e
AfterPick c t s p Full new e = IsLeft s new e
AfterPick c t s p Passed new e = IsLeft s new e

-- where the event was made, all that the calls over the site need of it holds again once its births
-- are in the tree; only its count may have reached 2^63
abbrev pub StaysFitAt : CodeParts → Tree → ℕ → Turn → Site → Effects → Type 0
StaysFitAt c t i (Did place) new e = StaysFit c t i new e
StaysFitAt c t i NotEnabled new e = Unit {0}
StaysFitAt c t i Nothing new e = Unit {0}
StaysFitAt c t i Full new e = Unit {0}
StaysFitAt c t i Passed new e = Unit {0}

-- where the site runs a program, nothing is born
abbrev pub BearsNone : CodeParts → Site → Effects → Type 0
BearsNone c s e = (q : ProgramTerms) → RunsProgram q c s → e.births ≡ []

-- ---- requests

-- a request of this kind is met: by a move within the site, a detection or a halt
abbrev pub MeetsAsk : Ask → List ℕ → Tree → Site → AtomId → Tree → Site → Effects → Type 0
MeetsAsk (request.Go b k) seen t s a u new e = IsMoveWithin seen a t s u new e
MeetsAsk (request.Fail b k) seen t s a u new e = IsDetection seen a t s new e × (u ≡ t)
MeetsAsk request.Halt seen t s a u new e = IsHalt a t s u new × AreNone e

-- the request is met where the event was made; it is dropped where that isn't enabled, and in all
-- else site and tree are as they were
abbrev pub AfterAsk :
    Turn → Ask → List ℕ → Tree → Site → AtomId → Tree → Site → Effects → Type 0
AfterAsk (Did place) ask seen t s a u new e = MeetsAsk ask seen t s a u new e
AfterAsk NotEnabled ask seen t s a u new e = IsLeft (drop_request a s) new e × (u ≡ t)
AfterAsk Nothing ask seen t s a u new e = IsLeft s new e × (u ≡ t)
AfterAsk Full ask seen t s a u new e = IsLeft s new e × (u ≡ t)
AfterAsk Passed ask seen t s a u new e = IsLeft s new e × (u ≡ t)

-- ---- one site and the tree

-- what becomes of them; births are in the tree
abbrev pub AfterChosen :
    CodeParts → Tree → Site → Chosen → Turn → Tree → Site → Effects → Type 0
AfterChosen c t s (chosen.Pick p) turn u new e =
    AfterPick c t s p turn new e × IsSameTree (with_births t s.number e.births) u
AfterChosen c t s (chosen.Ask a) turn u new e =
    (q : RequestParts) → request_with a s.requests ≡ Some q
    → AfterAsk turn q.ask c.seen t s a u new e
AfterChosen c t s chosen.Nothing turn u new e = ⊥

-- ---- two sites and the tree

abbrev pub AfterCrossing :
    Turn → List ℕ → Tree → Site → Site → AtomId → Tree → Site → Site → Effects → Type 0
AfterCrossing (Did place) seen t from into a u left new e =
    IsMoveBetween seen a t from into u left new e
AfterCrossing NotEnabled seen t from into a u left new e =
    IsLeft (drop_request a from) left e × (new ≡ into) × (u ≡ t)
AfterCrossing Nothing seen t from into a u left new e =
    IsLeft from left e × (new ≡ into) × (u ≡ t)
AfterCrossing Full seen t from into a u left new e =
    IsLeft from left e × (new ≡ into) × (u ≡ t)
AfterCrossing Passed seen t from into a u left new e =
    IsLeft from left e × (new ≡ into) × (u ≡ t)
