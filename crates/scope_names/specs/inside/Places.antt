-- Where each spelling of a scope stands.
use Rattle.std.specs.Prelude.{◌≡◌, ℕ, suc, List, [], ◌∷◌, Option, Some, None, if◌then◌else◌, Vec}
use Rattle.std.specs.Ordering.{nat_cmp}
use Rattle.std.specs.Cmp.Lexicographic.{slice_cmp}
use Rattle.std.specs.Str.{bytes_eq}
use Rattle.std.specs.BTreeMap.{BTreeMap, get_by}
use Rattle.std.specs.declared.alloc.Global.{Global}
use Rattle.scope_names.specs.declared.scope.Entry.{Entry}

abbrev pub one_further : Option ℕ → Option ℕ
one_further None = None
one_further (Some i) = Some (suc i)

-- the first place with that spelling, counted from 0
abbrev pub place_of : List ℕ → List (List ℕ × Entry) → Option ℕ
place_of name [] = None
place_of name (e ∷ frame) =
    if bytes_eq name e.0 then Some 0 else one_further (place_of name frame)

-- the map has the place of each spelling
abbrev pub KnowsPlaces : BTreeMap (Vec ℕ Global) ℕ → List (List ℕ × Entry) → Type 0
KnowsPlaces places frame =
    (name : List ℕ) → get_by (λ k. slice_cmp nat_cmp name k.items) places ≡ place_of name frame
