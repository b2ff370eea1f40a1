-- Two lists of sorts, compared one member after another.
use Rattle.std.proofs.Common.{◌≡◌, ℕ, ◌+◌, ◌<◌, ◌≤◌, List, Bool, true, false, drop, get_or, refl}
use Rattle.std.proofs.Common.{sym, ap, ◌∙◌, arith, length, ◌&&◌}
use Rattle.sort_laws.specs.declared.sorts.SortArg.{SortArg}
use Rattle.sort_check.specs.inside.First.{same_sort, same_sorts}
use Rattle.sort_check.proofs.Beside.{read_at, drop_past}
use Rattle.sort_check.proofs.Firsts.{same_sorts-is}

pub other_length : (xs ys : List SortArg) → (length xs ≡ length ys → ⊥) → same_sorts xs ys ≡ false
other_length xs ys h = go (same_sorts xs ys) refl
  where
    go : (b : Bool) → same_sorts xs ys ≡ b → b ≡ false
    go true e = absurd (h (ap length (same_sorts-is xs ys e)))
    go false e = refl

next : (xs ys : List SortArg) (i : ℕ) (x y : SortArg) → i < length xs → i < length ys
    → x ≡ get_or xs i x → y ≡ get_or ys i y
    → same_sorts (drop i xs) (drop i ys)
    ≡ same_sort x y && same_sorts (drop (i + 1) xs) (drop (i + 1) ys)
next xs ys i x y h g e f = λ j. same_sorts (read_at xs i x h e j) (read_at ys i y g f j)

pub same_next : (xs ys : List SortArg) (i : ℕ) (x y : SortArg) → i < length xs
    → length xs ≡ length ys → x ≡ get_or xs i x → y ≡ get_or ys i y → same_sort x y ≡ true
    → same_sorts (drop i xs) (drop i ys) ≡ same_sorts xs ys
    → same_sorts (drop (i + 1) xs) (drop (i + 1) ys) ≡ same_sorts xs ys
same_next xs ys i x y h long e f alike rest =
    sym (next xs ys i x y h (omega (arith, h, long)) e f
    ∙ ap (λ b. b && same_sorts (drop (i + 1) xs) (drop (i + 1) ys)) alike) ∙ rest

pub not_same : (xs ys : List SortArg) (i : ℕ) (x y : SortArg) → i < length xs
    → length xs ≡ length ys → x ≡ get_or xs i x → y ≡ get_or ys i y → same_sort x y ≡ false
    → same_sorts (drop i xs) (drop i ys) ≡ same_sorts xs ys → same_sorts xs ys ≡ false
not_same xs ys i x y h long e f apart rest =
    sym rest ∙ next xs ys i x y h (omega (arith, h, long)) e f
    ∙ ap (λ b. b && same_sorts (drop (i + 1) xs) (drop (i + 1) ys)) apart

pub all_same : (xs ys : List SortArg) (i : ℕ) → length xs ≤ i → length xs ≡ length ys
    → same_sorts (drop i xs) (drop i ys) ≡ same_sorts xs ys → same_sorts xs ys ≡ true
all_same xs ys i h long rest =
    sym rest
    ∙ (λ j. same_sorts ((drop_past xs i h).0 j) ((drop_past ys i (omega (arith, h, long))).0 j))
