-- That a search came so far and found nothing.
use Rattle.std.specs.Prelude.{◌≡◌, ℕ, ◌<◌, List, Some, slice_get}
use Rattle.env_store.specs.CodeParts.{CodeParts}
use Rattle.loc_tree.specs.Tree.{Tree}
use Rattle.net_laws.specs.Site.{Site}
use Rattle.reducer.specs.Ready.{NoneFires}

-- of the first n sites none is ready
abbrev pub NoneReady : CodeParts → List Site → Tree → ℕ → Type 0
NoneReady c sites t n =
    (i : ℕ) (s : Site) → i < n → slice_get sites i ≡ Some s → NoneFires c t s
