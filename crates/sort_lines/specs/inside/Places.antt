-- Names in order, and where each stands first.
use Rattle.std.specs.Prelude.{◌≡◌, ℕ, List, [], ◌∷◌}
use Rattle.std.specs.Ordering.{nat_cmp}
use Rattle.std.specs.Cmp.Lexicographic.{slice_cmp}
use Rattle.std.specs.BTreeMap.{BTreeMap, get_by}
use denote.Ref.{Bor}
use Rattle.sort_lines.specs.Faults.{first_place}

abbrev pub texts : List (Bor (List ℕ)) → List (List ℕ)
texts [] = []
texts (n ∷ ns) = n.now ∷ texts ns

abbrev pub KnowsPlaces : BTreeMap (Bor (List ℕ)) ℕ → List (List ℕ) → Type 0
KnowsPlaces places names =
    (q : List ℕ) → get_by (λ k. slice_cmp nat_cmp q k.now) places ≡ first_place q names
