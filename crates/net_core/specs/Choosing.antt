-- Which choice of a network is enabled, and which comes next.
use Rattle.std.specs.Prelude.{◌≡◌, ℕ, ◌<◌, [], false, Option, Some, None, slice_get}
use Rattle.chem_model.specs.declared.event.AtomId.{AtomId}
use Rattle.chem_model.specs.Each.{Each}
use Rattle.env_store.specs.CodeParts.{CodeParts}
use Rattle.reducer.specs.declared.pick.Pick.{Pick}
use Rattle.reducer.specs.Ready.{IsReady}
use Rattle.net_laws.specs.Site.{Site}
use Rattle.net_laws.specs.Net.{Addressed, Net}
use Rattle.net_laws.specs.Holding.{precedes}
use Rattle.net_core.specs.declared.choice.Choice.{Choice}
use Rattle.net_core.specs.declared.choice.Choice.TheVariants as choice
use Rattle.net_core.specs.Acting.{HasGuard, MayGo}
use Rattle.net_core.specs.Enabled.{HasFront, MayHalt, MayDetect}

-- ---- which one is enabled

-- the pick of the site i names a guard of a live location each of whose queues has a front
pub record MayReact (c : CodeParts) (net : Net) (i : ℕ) (p : Pick) : Type 0 where
  pub by : HasGuard c net i p.group p.guard
  pub fronts : Each (HasFront by.group.queues) by.guard.chans

-- a message is under way at this place
pub record MayDeliver (net : Net) (f : ℕ) : Type 0 where
  pub packet : Addressed
  pub packet_is : slice_get net.packets f ≡ Some packet

-- the choice is enabled
abbrev pub Allows : CodeParts → Net → Choice → Type 0
Allows c net (choice.React i p) = MayReact c net i p
Allows c net (choice.Deliver f) = MayDeliver net f
Allows c net (choice.Move a) = MayGo net a
Allows c net (choice.Halt a) = MayHalt net a
Allows c net (choice.Detect a) = MayDetect net a

-- ---- which one comes next

-- the request that it meets
abbrev pub request_of : Choice → Option AtomId
request_of (choice.React i p) = None
request_of (choice.Deliver f) = None
request_of (choice.Move a) = Some a
request_of (choice.Halt a) = Some a
request_of (choice.Detect a) = Some a

abbrev pub NoneReacts : CodeParts → Net → Type 0
NoneReacts c net = (i : ℕ) (p : Pick) → MayReact c net i p → ⊥

-- no request is met by a choice that is enabled
abbrev pub NoneMeetsAny : CodeParts → Net → Type 0
NoneMeetsAny c net =
    (x : Choice) (a : AtomId) → request_of x ≡ Some a → Allows c net x → ⊥

-- the reaction that is ready at the site i, where none of a site before it is enabled
pub record IsFirstReaction (c : CodeParts) (net : Net) (i : ℕ) (p : Pick) : Type 0 where
  pub site : Site
  pub site_is : slice_get net.sites i ≡ Some site
  pub ready : IsReady c net.tree site p
  pub first : (j : ℕ) (q : Pick) → j < i → MayReact c net j q → ⊥

-- it meets the request with this id, and none that is enabled meets one with a lesser id
pub record IsFirstRequest (c : CodeParts) (net : Net) (a : AtomId) (x : Choice) : Type 0 where
  pub meets : request_of x ≡ Some a
  pub allowed : Allows c net x
  pub least :
      (y : Choice) (b : AtomId) → request_of y ≡ Some b → Allows c net y → precedes b a ≡ false

-- the first packet under way; where there is none, the first reaction; and where there is none of
-- these either, the first request
pub data IsNext (c : CodeParts) (net : Net) : Choice → Type 0 where
  deliver : MayDeliver net 0 → IsNext c net (choice.Deliver 0)
  react :
      (i : ℕ) (p : Pick) → net.packets ≡ [] → IsFirstReaction c net i p
      → IsNext c net (choice.React i p)
  meet :
      (a : AtomId) (x : Choice) → net.packets ≡ [] → NoneReacts c net
      → IsFirstRequest c net a x → IsNext c net x
