-- Candidates: rules that may be ready, and requests that may be met, by the sites at which they are
-- and by their locations.
use Rattle.std.specs.Prelude.{◌≡◌, ℕ}
use Rattle.chem_model.specs.declared.name.Loc.{Loc}
use Rattle.chem_model.specs.Each.{IsIn}
use Rattle.chem_model.specs.Solution.{Places, root}
use Rattle.book_store.specs.Keys.{Key, KeepsKeys, place_number}
use Rattle.book_store.specs.declared.candidates.Candidates.{Candidates}

-- what has this number and stands at the location has a key at its site, and one at its location
pub record IsCandidate (pl : Places) (c : Candidates) (l : Loc) (i : ℕ × ℕ) : Type 0 where
  pub at_site : IsIn {X = Key} ((root pl l).site, i) c.sites.keys
  pub at_place : IsIn {X = Key} (place_number l, i) c.places.keys

-- none is lost
pub record KeepsCandidates (old new : Candidates) : Type 0 where
  pub sites : KeepsKeys old.sites.keys new.sites.keys
  pub places : KeepsKeys old.places.keys new.places.keys

-- those of a location have a key at a site too
abbrev pub AreAtSite : Candidates → Loc → ℕ → Type 0
AreAtSite c l s = (k : Key) → IsIn k c.places.keys → k.0 ≡ place_number l
    → IsIn {X = Key} (s, k.1) c.sites.keys
