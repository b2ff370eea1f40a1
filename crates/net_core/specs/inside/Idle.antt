-- Idle sites, at which no guard of a live location is covered.
use Rattle.std.specs.Prelude.{◌≡◌, ℕ, List, [], Bool, true, false, Some, slice_get}
use Rattle.std.specs.Prelude.{slice_set}
use Rattle.wire_packet.specs.declared.packet.Flight.{Flight}
use Rattle.env_store.specs.CodeParts.{CodeParts}
use Rattle.loc_tree.specs.Tree.{Tree, bare}
use Rattle.net_laws.specs.Site.{Site}
use Rattle.reducer.specs.Ready.{NoneFires}
use Rattle.net_core.specs.declared.choice.Choice.{Choice}
use Rattle.net_core.specs.declared.choice.Choice.TheVariants as choice
use Rattle.net_core.specs.Lending.{mail_to}
use Rattle.net_core.specs.Parts.{all_carried}

-- where the list says yes, nothing may fire at the site of that place
abbrev pub AreIdle : CodeParts → Tree → List Site → List Bool → Type 0
AreIdle c t sites idle =
    (i : ℕ) (s : Site) → slice_get idle i ≡ Some true → slice_get sites i ≡ Some s
    → NoneFires c t s

-- where it says yes, none of these packets goes to the site at that place
abbrev pub AreUncalled : List Flight → List Bool → Type 0
AreUncalled flights idle =
    (i j : ℕ) (f : Flight) → slice_get idle i ≡ Some true → slice_get flights j ≡ Some f
    → f.target ≡ i → ⊥

-- it says yes at no place at which it didn't before
abbrev pub AreFewer : List Bool → List Bool → Type 0
AreFewer old new = (i : ℕ) → slice_get new i ≡ Some true → slice_get old i ≡ Some true

-- a site that needs no turn: none of these packets goes to it, and nothing may fire there
pub record CanPass (c : CodeParts) (t : Tree) (flights : List Flight) (s : Site) : Type 0 where
  pub mail : mail_to s.number (all_carried flights) ≡ []
  pub idle : NoneFires c (bare t) s

-- what is still known after a choice: a reaction changes no site but its own, and lets no location
-- of another one come to life
abbrev pub still_idle : Choice → List Bool → List Bool
still_idle (choice.React i p) idle = slice_set idle i false
still_idle (choice.Deliver f) idle = []
still_idle (choice.Move a) idle = []
still_idle (choice.Halt a) idle = []
still_idle (choice.Detect a) idle = []
