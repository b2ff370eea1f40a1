-- What a network knows of its requests: where none may be met, how many each site then has.
use Rattle.std.specs.Prelude.{◌≡◌, ◌≤◌, ◌⊎◌, ℕ, List, [], Bool, Some, length, map, slice_get}
use Rattle.env_store.specs.CodeParts.{CodeParts}
use Rattle.loc_tree.specs.Tree.{bare}
use Rattle.net_laws.specs.Site.{Site}
use Rattle.net_laws.specs.Net.{Net}
use Rattle.net_core.specs.declared.parts.Parts.{Parts}
use Rattle.net_core.specs.declared.senders.Run.{Run}
use Rattle.net_core.specs.Choosing.{NoneMeetsAny}
use Rattle.net_core.specs.Parts.{net_of}
use Rattle.net_core.specs.Whole.{IsNetWhole}
use Rattle.net_core.specs.inside.Idle.{AreIdle}

-- how many requests each of these sites has
abbrev pub asked_by : List Site → List ℕ
asked_by sites = map (λ (s : Site). length s.requests) sites

-- none may be met, and each site has so many
pub record Rests (c : CodeParts) (net : Net) (asked : List ℕ) : Type 0 where
  pub asked_is : asked ≡ asked_by net.sites
  pub none : NoneMeetsAny c net

-- that, or nothing is known
abbrev pub MayRest : CodeParts → Net → List ℕ → Type 0
MayRest c net asked = (asked ≡ []) ⊎ Rests c net asked

-- the network is whole, and what it knows of its requests and of its idle sites is so
pub record IsKept (c : CodeParts) (p : Parts) (senders : List Run) (events : ℕ) (asked : List ℕ)
    (idle : List Bool) : Type 0 where
  pub net : IsNetWhole c p senders events
  pub rests : MayRest c (net_of c.seen p) asked
  pub quiet : AreIdle c (bare p.tree) p.sites.items idle

-- no site has more requests than its number says
abbrev pub AskNoMore : List Site → List ℕ → Type 0
AskNoMore sites asked =
    (i : ℕ) (s : Site) (n : ℕ) → slice_get sites i ≡ Some s → slice_get asked i ≡ Some n
    → length s.requests ≤ n

-- these numbers are as before, where no site has more requests than they say; or none are left
abbrev pub AreStill : List Site → List ℕ → List ℕ → Type 0
AreStill sites old new = (new ≡ []) ⊎ ((new ≡ old) × AskNoMore sites old)
