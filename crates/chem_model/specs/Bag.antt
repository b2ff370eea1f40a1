-- Multisets: how often each value stands in one.
use Rattle.std.specs.Prelude.{ℕ, ◌+◌, Bool, true, false, ◌&&◌, cond, List, [], ◌∷◌, ◌==◌}
use Rattle.std.specs.Coded.{Coded}
use base.Stored.{Gv, gnil, gnum, gcons}

-- how often each value stands in the multiset
abbrev pub Bag : Type 0 → Type 0
Bag X = X → ℕ

-- whether two values have the same code, a tree of numbers by which the logic stores values
abbrev pub same_code : Gv → Gv → Bool
same_code gnil gnil = true
same_code (gnum m) (gnum n) = m == n
same_code (gcons a b) (gcons c d) = same_code a c && same_code b d
same_code _ _ = false

-- the multiset of one value
unfoldable pub one : {X : Type 0} → Coded X → X → Bag X
one c x y = cond (same_code (c.code x) (c.code y)) 1 0

infixr 5 ◌⊕◌
-- both multisets together
abbrev pub ◌⊕◌ : {X : Type 0} → Bag X → Bag X → Bag X
(a ⊕ b) y = a y + b y

-- the empty multiset
abbrev pub nothing : {X : Type 0} → Bag X
nothing y = 0

-- the members of a list
abbrev pub bag : {X : Type 0} → Coded X → List X → Bag X
bag c [] = nothing
bag c (x ∷ xs) = one c x ⊕ bag c xs
