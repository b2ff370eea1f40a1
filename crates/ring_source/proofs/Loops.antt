-- Loops that append a piece for each member of a list.
use Rattle.std.proofs.Common.{◌≡◌, ◌<◌, ℕ, suc, ◌+◌, ◌-◌, List, ◌∷◌, ◌++◌, ap, sym, ◌∙◌}
use Rattle.std.proofs.Common.{append_assoc, replicate, arith}
use Rattle.std.specs.Prelude.{flat_map}
use Rattle.std.specs.List.{range_with_len}

-- the piece of one member more
next : (f : ℕ → List ℕ) (now new whole : List ℕ) (x : ℕ) (xs : List ℕ) → new ≡ now ++ f x
    → now ++ flat_map f (x ∷ xs) ≡ whole → new ++ flat_map f xs ≡ whole
next f now new whole x xs piece before = ap (λ (text : List ℕ). text ++ flat_map f xs) piece
    ∙ (append_assoc now (f x) (flat_map f xs) ∙ before)

-- the piece of one number more
pub next_number : (f : ℕ → List ℕ) (now new whole : List ℕ) (i n : ℕ) → i < n → new ≡ now ++ f i
    → now ++ flat_map f (range_with_len i (n - i)) ≡ whole
    → new ++ flat_map f (range_with_len (i + 1) (n - (i + 1))) ≡ whole
next_number f now new whole i n below piece before =
    let left : n - i ≡ suc (n - (i + 1)) = omega arith in
    next f now new whole i (range_with_len (i + 1) (n - (i + 1))) piece
    (ap (λ (k : ℕ). now ++ flat_map f (range_with_len i k)) (sym left) ∙ before)

-- the piece of the same member once more, where this many were there of n
pub once_more : (f : ℕ → List ℕ) (now new whole : List ℕ) (x k n : ℕ) → k < n → new ≡ now ++ f x
    → now ++ flat_map f (replicate (n - k) x) ≡ whole
    → new ++ flat_map f (replicate (n - (k + 1)) x) ≡ whole
once_more f now new whole x k n below piece before =
    let left : n - k ≡ suc (n - (k + 1)) = omega arith in
    next f now new whole x (replicate (n - (k + 1)) x) piece
    (ap (λ (j : ℕ). now ++ flat_map f (replicate j x)) (sym left) ∙ before)
