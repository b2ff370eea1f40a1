-- What becomes of a message that is brought to a site.
use Rattle.std.specs.Prelude.{◌≡◌, ℕ, List, [], ◌∷◌, ◌++◌, Option, Some, None, true, false}
use Rattle.wire_packet.specs.MessageFacts.{MessageParts}
use Rattle.wire_packet.specs.declared.packet.Flight.{Flight}
use Rattle.loc_tree.specs.Tree.{Tree}
use Rattle.net_laws.specs.Site.{Site}
use Rattle.net_laws.specs.Net.{among, address}
use Rattle.net_laws.specs.Holding.{put}
use Rattle.env_store.specs.CodeParts.{CodeParts}
use Rattle.site_solution.specs.Staying.{CanAct}
use Rattle.router.specs.Delivering.{home_at}

-- it was put at its home at the site, or it goes on from there to another site
abbrev pub IsBroughtTo : Tree → Site → MessageParts → Option ℕ → Site → Type 0
IsBroughtTo t s m None new = (among s.locs (home_at s m) ≡ true) × (new ≡ put (home_at s m) m s)
IsBroughtTo t s m (Some target) new =
    (among s.locs (home_at s m) ≡ false) × (target ≡ address t (home_at s m)) × (new ≡ s)

-- the flight with these bytes to the site to which it goes on, if it does
abbrev pub GoesOn : List ℕ → Option ℕ → List Flight → Type 0
GoesOn bytes None more = more ≡ []
GoesOn bytes (Some target) more = more ≡ record { target = target; bytes = bytes } ∷ []

-- it was put at the site, or its flight goes on behind the others
pub record Brings (t : Tree) (s : Site) (m : MessageParts) (bytes : List ℕ) (before : List Flight)
    (new : Site) (after : List Flight) : Type 0 where
  pub target : Option ℕ
  pub more : List Flight
  pub brought : IsBroughtTo t s m target new
  pub goes : GoesOn bytes target more
  pub on_is : after ≡ before ++ more

-- where the site had what the calls over it need, it has it still
abbrev pub StillActs : Tree → Site → Site → Type 0
StillActs t s new = (c : CodeParts) → CanAct c t s → CanAct c t new
