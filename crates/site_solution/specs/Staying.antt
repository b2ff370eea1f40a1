-- What the tests of a site say after a change of the site or of the tree.
use Rattle.std.specs.Prelude.{◌≡◌, ℕ, List, true, false, is_some, IsTrue}
use Rattle.chem_model.specs.declared.name.Loc.{Loc}
use Rattle.chem_model.specs.Each.{Each}
use Rattle.chem_model.specs.Solution.{same_loc}
use Rattle.env_store.specs.CodeParts.{CodeParts}
use Rattle.loc_tree.specs.Tree.{Tree, spot, number_in, IsFresh}
use Rattle.net_laws.specs.Site.{Site}
use Rattle.net_laws.specs.Net.{with_births}
use Rattle.site_shelves.specs.InTree.{is_in_tree}
use Rattle.site_shelves.specs.InCode.{is_in_code}
use Rattle.site_shelves.specs.Draws.{all_drawn, CanDraw}

-- what the calls over a site need of it
pub record CanAct (c : CodeParts) (t : Tree) (s : Site) : Type 0 where
  pub in_tree : IsTrue (is_in_tree t s)
  pub in_code : IsTrue (is_in_code c t s)
  pub draws : CanDraw t s

-- both trees have the same locations, and all but this one have the same number in both
pub record AgreeBut (l : Loc) (t u : Tree) : Type 0 where
  pub there : (x : Loc) → is_some (spot t x) ≡ is_some (spot u x)
  pub numbers : (x : Loc) → same_loc l x ≡ false → number_in (spot t x) ≡ number_in (spot u x)

-- what the tests say of a site with one tree, they say of another site with another tree
pub record StillFits (c : CodeParts) (t : Tree) (old : Site) (u : Tree) (new : Site) : Type 0 where
  pub in_tree : is_in_tree t old ≡ true → is_in_tree u new ≡ true
  pub in_code : is_in_code c t old ≡ true → is_in_code c u new ≡ true
  pub draws : CanDraw t old → CanDraw u new

-- all that a call needs of a site holds of it; only its count may have reached 2^63
pub record HasReceived (c : CodeParts) (t : Tree) (s : Site) : Type 0 where
  pub all_there : is_in_tree t s ≡ true
  pub in_code : is_in_code c t s ≡ true
  pub drawn : all_drawn s ≡ true
  pub fresh : IsFresh t s.number s.made

-- ---- what a change of the tree leaves as it is

-- trees with the same numbers say the same of each site
abbrev pub SameNumbersKeep : Type 0
SameNumbersKeep =
    (c : CodeParts) (t u : Tree) (s : Site)
    → ((l : Loc) → number_in (spot t l) ≡ number_in (spot u l)) → StillFits c t s u s

-- locations that a site has born change nothing for a site with another number
abbrev pub BirthsKeepOthers : Type 0
BirthsKeepOthers =
    (c : CodeParts) (t : Tree) (i : ℕ) (births : List Loc) (s : Site)
    → Each (λ (b : Loc). b.site ≡ i) births → (s.number ≡ i → ⊥)
    → StillFits c t s (with_births t i births) s
