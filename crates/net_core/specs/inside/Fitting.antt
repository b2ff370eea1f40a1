-- Each site has the number of its place.
use Rattle.std.specs.Prelude.{◌≡◌, ℕ, List, Some, slice_get}
use Rattle.net_laws.specs.Site.{Site}

abbrev pub AreNumbered : List Site → Type 0
AreNumbered sites = (j : ℕ) (s : Site) → slice_get sites j ≡ Some s → s.number ≡ j
