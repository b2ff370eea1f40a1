-- The binders of a tree, in their order, have the numbers 0, 1, 2 and so on.
use Rattle.std.proofs.Common.{◌≡◌, ◌+◌, Bool, true, false, cond, eqb, ◌||◌, ◌&&◌, List, [], ◌∷◌}
use Rattle.std.proofs.Common.{◌++◌, length, refl, sym, ap, ◌∙◌, subst, arith, append_assoc}
use Rattle.std.proofs.Common.{length-append}
use Rattle.std.specs.List.{list_any}
use Rattle.std.specs.Str.{bytes_eq}
use Rattle.std.specs.Cmp.Lexicographic.{bytes_decides}
use Rattle.std.proofs.lemmas.Bool.{or_parts}
use Rattle.std.proofs.lemmas.Bool.Decides.{nat_tests}
use Rattle.scope_check.specs.Numbers.{Binder, is_same, firsts_after, index_of}
use Rattle.scope_check.proofs.Lists.{any-append}
use Rattle.scope_check.proofs.Counting.{Consecutive}

pub same-self : (b : Binder) → is_same b b ≡ true
same-self b = grind (arith, nat_tests, (bytes_decides b.text b.text).1 refl)

-- a binder that isn't in the front stands right behind it
pub index-behind : (front rest : List Binder) (b : Binder) → list_any (is_same b) front ≡ false
    → index_of (front ++ b ∷ rest) b ≡ length front
index-behind [] rest b e = ap (λ v. cond v 0 (1 + index_of rest b)) (same-self b)
index-behind (c ∷ front) rest b e =
    ap (λ v. cond v 0 (1 + index_of (front ++ b ∷ rest) b))
    (or_parts (is_same b c) (list_any (is_same b) front) e).0
    ∙ omega
    (arith, index-behind front rest b (or_parts (is_same b c) (list_any (is_same b) front) e).1)

-- what isn't among those that came isn't in the list so far
abbrev pub Covers : List Binder → List Binder → Type 0
Covers before out =
    (b : Binder) → list_any (is_same b) before ≡ false → list_any (is_same b) out ≡ false

pub counted : (bs before out rest : List Binder) → Covers before out
    → Consecutive (index_of (out ++ (firsts_after before bs ++ rest))) (length out)
    (firsts_after before bs)
counted [] before out rest cover = tt
counted (b ∷ bs) before out rest cover =
    by (list_any (is_same b) before) refl (counted bs (before ++ b ∷ []) out rest wider)
    (counted bs (before ++ b ∷ []) (out ++ b ∷ []) rest both)
  where
    wider : Covers (before ++ b ∷ []) out
    wider = λ c e. cover c (or_parts (list_any (is_same c) before) (list_any (is_same c) (b ∷ []))
        (sym (any-append (is_same c) before (b ∷ [])) ∙ e)).0

    both : Covers (before ++ b ∷ []) (out ++ b ∷ [])
    both = λ c e.
        let a = or_parts (list_any (is_same c) before) (list_any (is_same c) (b ∷ []))
        (sym (any-append (is_same c) before (b ∷ [])) ∙ e) in
        any-append (is_same c) out (b ∷ []) ∙ (λ i. cover c a.0 i || a.1 i)

    by : (v : Bool) → list_any (is_same b) before ≡ v
        → Consecutive (index_of (out ++ (firsts_after (before ++ b ∷ []) bs ++ rest))) (length out)
        (firsts_after (before ++ b ∷ []) bs)
        → Consecutive (index_of ((out ++ b ∷ []) ++ (firsts_after (before ++ b ∷ []) bs ++ rest)))
        (length (out ++ b ∷ [])) (firsts_after (before ++ b ∷ []) bs)
        → Consecutive (index_of (out
        ++ (cond v (firsts_after (before ++ b ∷ []) bs) (b ∷ firsts_after (before ++ b ∷ []) bs)
        ++ rest))) (length out)
        (cond v (firsts_after (before ++ b ∷ []) bs) (b ∷ firsts_after (before ++ b ∷ []) bs))
    by true e again new = again
    by false e again new =
        let more = firsts_after (before ++ b ∷ []) bs in (
          index-behind out (more ++ rest) b (cover b e),
          subst (λ l. Consecutive (index_of l) (length out + 1) more)
              (append_assoc out (b ∷ []) (more ++ rest))
              (subst (λ n. Consecutive (index_of ((out ++ b ∷ []) ++ (more ++ rest))) n more)
              (omega (arith, length-append out (b ∷ []))) new),
        )

and-left : (a b : Bool) → (a && b) ≡ true → a ≡ true
and-left true b e = refl
and-left false b e = absurd cc

and-right : (a b : Bool) → (a && b) ≡ true → b ≡ true
and-right true b e = e
and-right false b e = absurd cc

pub same-is : (a b : Binder) → is_same a b ≡ true → a ≡ b
same-is a b e =
    let first = and-left (eqb a.scope b.scope) (bytes_eq a.text b.text) e in
    let k : a.scope ≡ b.scope = grind (arith, nat_tests) in
    let t : a.text ≡ b.text =
    (bytes_decides a.text b.text).0 (and-right (eqb a.scope b.scope) (bytes_eq a.text b.text) e) in
    λ i. record { scope = k i; text = t i }

-- The numbers of a list tell its members from all other binders.
pub index-tells : (bs : List Binder) (a b : Binder) → list_any (is_same a) bs ≡ true
    → index_of bs a ≡ index_of bs b → a ≡ b
index-tells [] a b there e = absurd cc
index-tells (c ∷ bs) a b there e =
    by (is_same a c) (is_same b c) refl refl there e (index-tells bs a b)
  where
    by : (x y : Bool) → is_same a c ≡ x → is_same b c ≡ y → (x || list_any (is_same a) bs) ≡ true
        → cond x 0 (1 + index_of bs a) ≡ cond y 0 (1 + index_of bs b)
        → (list_any (is_same a) bs ≡ true → index_of bs a ≡ index_of bs b → a ≡ b) → a ≡ b
    by true true p q t e ih = same-is a c p ∙ sym (same-is b c q)
    by true false p q t e ih = absurd (omega arith)
    by false true p q t e ih = absurd (omega arith)
    by false false p q t e ih = ih t (omega arith)
