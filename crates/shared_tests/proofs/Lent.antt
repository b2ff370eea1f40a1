-- Passes that were lent are those of the same workers, so that their run may be closed.
use Rattle.std.proofs.Common.{◌≡◌, ◌≢◌, ℕ, zero, suc, ◌+◌, ◌<◌, List, [], ◌∷◌, ◌++◌, length, take}
use Rattle.std.proofs.Common.{drop, map, refl, ap, sym, ◌∙◌, subst, arith}
use Rattle.std.specs.Prelude.{slice_set, slice_index_or}
use Rattle.chem_model.specs.Each.{Each}
use Rattle.shared_net.specs.Agrees.{row_of}
use Rattle.shared_net.specs.Causes.{DifferInNumber}
use Rattle.shared_net.specs.Closes.{HaveBudget}
use Rattle.shared_net.specs.Passes.{PassKept, new_passes}
use Rattle.shared_net.specs.Turning.{owner, HaveSameOwners}

-- ---- the loan ends

lent_whole : (old w : List PassKept) → length w ≡ length old
    → take (length old) (w ++ drop (length w) old) ≡ w
lent_whole [] [] l = refl
lent_whole [] (x ∷ xs) l = absurd (omega arith)
lent_whole (o ∷ os) [] l = absurd (omega arith)
lent_whole (o ∷ os) (x ∷ xs) l =
    ap (λ (ys : List PassKept). x ∷ ys) (lent_whole os xs (omega arith))

head_same : (a b : ℕ × ℕ) (cs ds : List (ℕ × ℕ)) → a ∷ cs ≡ b ∷ ds → a ≡ b
head_same a b cs ds e = cc

tail_same : (a b : ℕ × ℕ) (cs ds : List (ℕ × ℕ)) → a ∷ cs ≡ b ∷ ds → cs ≡ ds
tail_same a b cs ds e = cc

no_cons : (a : ℕ × ℕ) (cs : List (ℕ × ℕ)) → [] ≡ a ∷ cs → ⊥
no_cons a cs e = cc

same_length : (xs ys : List PassKept) → HaveSameOwners xs ys → length ys ≡ length xs
same_length [] [] e = refl
same_length [] (y ∷ ys) e = absurd (no_cons _ _ (sym e))
same_length (x ∷ xs) [] e = absurd (no_cons _ _ e)
same_length (x ∷ xs) (y ∷ ys) e = let rest = same_length xs ys (tail_same _ _ _ _ e) in omega arith

pub same_back : (old w : List PassKept) → HaveSameOwners old w
    → HaveSameOwners old (take (length old) (w ++ drop (length w) old))
same_back old w same = subst (λ (ps : List PassKept). HaveSameOwners old ps)
    (sym (lent_whole old w (same_length old w same))) same

-- ---- what a close needs

same_budgets : (budget : ℕ) (xs ys : List PassKept) → HaveSameOwners xs ys → HaveBudget budget xs
    → HaveBudget budget ys
same_budgets budget [] [] e each = tt
same_budgets budget [] (y ∷ ys) e each = absurd (no_cons _ _ (sym e))
same_budgets budget (x ∷ xs) [] e each = tt
same_budgets budget (x ∷ xs) (y ∷ ys) e each = (
  ap (λ (o : ℕ × ℕ). o.1) (head_same _ _ _ _ e) ∙ each.0,
  same_budgets budget xs ys (tail_same _ _ _ _ e) each.1,
)

others : (n : ℕ) (xs ys : List PassKept) → HaveSameOwners xs ys
    → Each (λ v. v.number ≢ n) (map row_of xs) → Each (λ v. v.number ≢ n) (map row_of ys)
others n [] [] e each = tt
others n [] (y ∷ ys) e each = absurd (no_cons _ _ (sym e))
others n (x ∷ xs) [] e each = tt
others n (x ∷ xs) (y ∷ ys) e each = (
  (λ is. each.0 (ap (λ (o : ℕ × ℕ). o.0) (sym (head_same _ _ _ _ e)) ∙ is)),
  others n xs ys (tail_same _ _ _ _ e) each.1,
)

same_apart : (xs ys : List PassKept) → HaveSameOwners xs ys → DifferInNumber (map row_of xs)
    → DifferInNumber (map row_of ys)
same_apart [] [] e apart = tt
same_apart [] (y ∷ ys) e apart = absurd (no_cons _ _ (sym e))
same_apart (x ∷ xs) [] e apart = tt
same_apart (x ∷ xs) (y ∷ ys) e apart =
    let is : x.number ≡ y.number = ap (λ (o : ℕ × ℕ). o.0) (sym (head_same _ _ _ _ e)) in (
      subst (λ (n : ℕ). Each (λ v. v.number ≢ n) (map row_of ys)) is
          (others x.number xs ys (tail_same _ _ _ _ e) apart.0),
      same_apart xs ys (tail_same _ _ _ _ e) apart.1,
    )

-- ---- new passes

new_long : (budget from count : ℕ) → length (new_passes budget from count) ≡ count
new_long budget from zero = refl
new_long budget from (suc count) = ap suc (new_long budget (from + 1) count)

new_budgets : (budget from count : ℕ) → HaveBudget budget (new_passes budget from count)
new_budgets budget from zero = tt
new_budgets budget from (suc count) = (refl, new_budgets budget (from + 1) count)

new_above : (n budget from count : ℕ) → n < from
    → Each (λ v. v.number ≢ n) (map row_of (new_passes budget from count))
new_above n budget from zero l = tt
new_above n budget from (suc count) l =
    ((λ (e : from ≡ n). omega (arith, l, e)), new_above n budget (from + 1) count (omega arith))

new_apart : (budget from count : ℕ) → DifferInNumber (map row_of (new_passes budget from count))
new_apart budget from zero = tt
new_apart budget from (suc count) =
    (new_above from budget (from + 1) count (omega arith), new_apart budget (from + 1) count)

-- what a close needs, of passes of the same workers as new ones
pub record MayClose (budget parts : ℕ) (passes : List PassKept) : Type 0 where
  pub whole : length passes ≡ parts
  pub apart : DifferInNumber (map row_of passes)
  pub budgets : HaveBudget budget passes

pub may_close : (budget parts : ℕ) (passes : List PassKept)
    → HaveSameOwners (new_passes budget 1 parts) passes → MayClose budget parts passes
may_close budget parts passes same = record {
  whole = same_length _ passes same ∙ new_long budget 1 parts;
  apart = same_apart _ passes same (new_apart budget 1 parts);
  budgets = same_budgets budget _ passes same (new_budgets budget 1 parts);
}

-- ---- one pass

pub set_owners : (xs : List PassKept) (i : ℕ) (p d : PassKept) → i < length xs
    → owner p ≡ owner (slice_index_or xs i d) → HaveSameOwners xs (slice_set xs i p)
set_owners [] i p d l e = absurd (omega arith)
set_owners (x ∷ xs) zero p d l e = ap (λ (o : ℕ × ℕ). o ∷ map owner xs) e
set_owners (x ∷ xs) (suc i) p d l e =
    ap (λ (os : List (ℕ × ℕ)). owner x ∷ os) (set_owners xs i p d (omega arith) e)

pub one_apart : (passes : List PassKept) → length passes ≡ 1 → DifferInNumber (map row_of passes)
one_apart [] l = tt
one_apart (p ∷ []) l = (tt, tt)
one_apart (p ∷ q ∷ ps) l = absurd (omega arith)
