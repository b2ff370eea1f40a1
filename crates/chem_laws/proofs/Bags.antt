-- Laws of multisets.
use Rattle.std.proofs.Common.{◌≡◌, ◌+◌, ◌<◌, true, ◌&&◌, cond, List, [], ◌∷◌, ◌++◌, refl, ap, ◌∙◌}
use Rattle.std.proofs.Common.{arith, eqb-true, eq-eqb}
use Rattle.std.proofs.lemmas.Bool.{and_parts}
use Rattle.std.specs.Coded.{Coded}
use Rattle.chem_laws.proofs.Lists.{cond_above}
use base.Stored.{Gv, gnil, gnum, gcons}
use Rattle.chem_model.specs.Bag.{one, bag, same_code}

pub same_code_refl : (a : Gv) → same_code a a ≡ true
same_code_refl gnil = refl
same_code_refl (gnum n) = eq-eqb n n refl
same_code_refl (gcons a b) = ap (λ t. t && same_code b b) (same_code_refl a) ∙ same_code_refl b

pub same_code_is : (a b : Gv) → same_code a b ≡ true → a ≡ b
same_code_is gnil gnil e = refl
same_code_is (gnum m) (gnum n) e = ap gnum (eqb-true m n e)
same_code_is (gcons a b) (gcons c d) e =
    let h = and_parts (same_code a c) (same_code b d) e in
    λ i. gcons (same_code_is a c h.0 i) (same_code_is b d h.1 i)
same_code_is _ _ e = cc

pub one_self : {X : Type 0} (c : Coded X) (x : X) → one c x x ≡ 1
unfolding one
one_self c x = ap (λ t. cond t 1 0) (same_code_refl (c.code x))

pub one_is : {X : Type 0} (c : Coded X) (x y : X) → 0 < one c x y → x ≡ y
unfolding one
one_is c x y h =
    c.inj x y (same_code_is (c.code x) (c.code y) (cond_above (same_code (c.code x) (c.code y)) h))

pub bag-append : {X : Type 0} (c : Coded X) (xs ys : List X) (z : X)
    → bag c (xs ++ ys) z ≡ bag c xs z + bag c ys z
bag-append c [] ys z = omega arith
bag-append c (x ∷ xs) ys z = omega (arith, bag-append c xs ys z)
