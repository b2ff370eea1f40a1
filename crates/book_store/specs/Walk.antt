-- The first of some by an order; a search along keys in order, each of which stands for a member or
-- for none.
use Rattle.std.specs.Prelude.{◌≡◌, List, [], ◌∷◌, Option, Some, None, Bool, true, false}
use Rattle.chem_model.specs.Each.{Each, IsIn}

-- among the members that pass a test, one before which none comes; or there is none
abbrev pub IsFirstOf : {X : Type 0} → (X → Bool) → (X → X → Bool) → List X → Option X → Type 0
IsFirstOf test before xs None = Each (λ x. test x ≡ false) xs
IsFirstOf test before xs (Some y) =
    IsIn y xs × (test y ≡ true) × Each (λ x. test x ≡ true → before x y ≡ false) xs

abbrev pub or_else : {X : Type 0} → Option X → Option X → Option X
or_else (Some x) o = Some x
or_else None o = o

-- the member for which the first key stands that stands for one
abbrev pub walk : {K X : Type 0} → (K → Option X) → List K → Option X
walk find [] = None
walk find (k ∷ ks) = or_else (find k) (walk find ks)
