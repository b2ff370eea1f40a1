-- What a search through the parts of a network finds.
use Rattle.std.specs.Prelude.{◌≡◌, ℕ, ◌<◌, List, Bool, true, false, Option, Some}
use Rattle.std.specs.Prelude.{None, cond, slice_get, is_some}
use Rattle.chem_model.specs.declared.event.AtomId.{AtomId}
use Rattle.wire_packet.specs.GroupFacts.{RequestParts}
use Rattle.env_store.specs.CodeParts.{CodeParts}
use Rattle.loc_tree.specs.Tree.{Tree, bare}
use Rattle.net_laws.specs.Site.{Site}
use Rattle.net_laws.specs.Net.{Net}
use Rattle.net_laws.specs.Holding.{precedes, request_with}
use Rattle.failure.specs.Halts.{can_halt}
use Rattle.failure.specs.Deaths.{dead_for}
use Rattle.migration.specs.Moves.{can_go}
use Rattle.net_core.specs.declared.choice.Choice.{Choice}
use Rattle.net_core.specs.declared.choice.Choice.TheVariants as choice
use Rattle.net_core.specs.Asking.{choice_by}
use Rattle.net_core.specs.Choosing.{IsFirstRequest}

-- these are the sites and, but for its room, the tree of the network
pub record HasSites (sites : List Site) (t : Tree) (net : Net) : Type 0 where
  pub sites_are : net.sites ≡ sites
  pub tree_is : net.tree ≡ bare t

-- ---- requests

-- the choice meets a request of the site, in a network of this version
abbrev pub meets : ℕ → Tree → Choice → Site → Bool
meets version t (choice.React i p) s = false
meets version t (choice.Deliver f) s = false
meets version t (choice.Move a) s = can_go version t a s
meets version t (choice.Halt a) s = can_halt t a s
meets version t (choice.Detect a) s = is_some (dead_for t a s)

-- the site at this place is one that meets it, and none does
pub record IsMet (version : ℕ) (sites : List Site) (t : Tree) (x : Choice) (i : ℕ) : Type 0 where
  pub site : Site
  pub site_is : slice_get sites i ≡ Some site
  pub met : meets version t x site ≡ true

abbrev pub NoneMeets : ℕ → List Site → Tree → Choice → ℕ → Type 0
NoneMeets version sites t x n =
    (i : ℕ) (s : Site) → i < n → slice_get sites i ≡ Some s → meets version t x s ≡ false

-- the choice that meets a request
abbrev pub choice_for : RequestParts → Choice
choice_for q = choice_by q.ask q.id

-- the site has the request, and the tree has what its rule needs
pub record IsMeetable (version : ℕ) (t : Tree) (s : Site) (q : RequestParts) : Type 0 where
  pub here : request_with q.id s.requests ≡ Some q
  pub met : meets version t (choice_for q) s ≡ true

-- the one with the least id
pub record IsLeastAt (version : ℕ) (t : Tree) (s : Site) (q : RequestParts) : Type 0 where
  pub meetable : IsMeetable version t s q
  pub least : (r : RequestParts) → IsMeetable version t s r → precedes r.id q.id ≡ false

-- of two the one with the lesser id, and else the first
abbrev pub lesser_of : Option RequestParts → Option RequestParts → Option RequestParts
lesser_of None o = o
lesser_of (Some q) None = Some q
lesser_of (Some q) (Some r) = cond (precedes r.id q.id) (Some r) (Some q)

-- of the first n sites' requests it is the one with the least id
pub record IsLeastOf (version : ℕ) (sites : List Site) (t : Tree) (n : ℕ) (q : RequestParts)
    : Type 0 where
  pub number : ℕ
  pub site : Site
  pub site_is : slice_get sites number ≡ Some site
  pub meetable : IsMeetable version t site q
  pub least :
      (i : ℕ) (s : Site) (r : RequestParts) → i < n → slice_get sites i ≡ Some s
      → IsMeetable version t s r → precedes r.id q.id ≡ false

abbrev pub IsLeast : ℕ → List Site → Tree → ℕ → Option RequestParts → Type 0
IsLeast version sites t n None =
    (i : ℕ) (s : Site) (r : RequestParts) → i < n → slice_get sites i ≡ Some s
    → IsMeetable version t s r → ⊥
IsLeast version sites t n (Some q) = IsLeastOf version sites t n q

-- ---- of a network

-- the choice that meets the request with the least id
abbrev pub IsFirstMeeting : CodeParts → Net → Choice → Type 0
IsFirstMeeting c net x = (a : AtomId) × IsFirstRequest c net a x
