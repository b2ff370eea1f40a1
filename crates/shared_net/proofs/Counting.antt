-- As many receipts as places, none twice and all of them below: so each place has its receipt.
use Rattle.std.proofs.Common.{◌≡◌, ℕ, zero, suc, ◌+◌, ◌<◌, ◌≤◌, List, [], ◌∷◌, length, Bool, true}
use Rattle.std.proofs.Common.{false, cond, ◌==◌, nat_lt, add-one, refl, ap, ◌∙◌, arith, ◌⊎◌, inl}
use Rattle.std.proofs.Common.{inr}
use Rattle.std.proofs.lemmas.Bool.Decides.{nat_tests}
use Rattle.chem_model.specs.Each.{Each}
use Rattle.shared_net.specs.declared.receipt.Receipt.{Receipt}
use Rattle.shared_net.specs.Agrees.{times_at}

-- how many receipts have a place below n
abbrev pub below : ℕ → List Receipt → ℕ
below n [] = 0
below n (r ∷ rs) = cond (nat_lt r.place n) 1 0 + below n rs

one-more : (n : ℕ) (rs : List Receipt) → below (n + 1) rs ≡ below n rs + times_at n rs
one-more n [] = refl
one-more n (r ∷ rs) =
    let rest = one-more n rs in
    let here : cond (nat_lt r.place (n + 1)) 1 0
    ≡ cond (nat_lt r.place n) 1 0 + cond (r.place == n) 1 0 = grind (arith, nat_tests) in
    omega arith

none-below : (rs : List Receipt) → below 0 rs ≡ 0
none-below [] = refl
none-below (r ∷ rs) = let rest = none-below rs in grind (arith, nat_tests)

at-most : (n : ℕ) (rs : List Receipt) → ((k : ℕ) → times_at k rs ≤ 1) → below n rs ≤ n
at-most zero rs once = omega (arith, none-below rs)
at-most (suc n) rs once =
    let more : below (suc n) rs ≡ below n rs + times_at n rs = rw add-one at (one-more n rs) in
    omega (arith, at-most n rs once, once n)

all-below : (n : ℕ) (rs : List Receipt) → Each (λ r. r.place < n) rs → below n rs ≡ length rs
all-below n [] each = refl
all-below n (r ∷ rs) each =
    let rest = all-below n rs each.1 in
    let h = each.0 in
    grind (arith, nat_tests)

-- a number at most n is n or below it
split : (a b : ℕ) → a ≤ b → (e : Bool) → (a == b) ≡ e → (a ≡ b) ⊎ (a < b)
split a b l true is = inl (grind (arith, nat_tests))
split a b l false is = inr (grind (arith, nat_tests))

full : (n : ℕ) (rs : List Receipt) → ((k : ℕ) → times_at k rs ≤ 1) → below n rs ≡ n → (k : ℕ)
    → k < n → times_at k rs ≡ 1
full zero rs once is k l = absurd (omega arith)
full (suc n) rs once is k l =
    let more : below (suc n) rs ≡ below n rs + times_at n rs = rw add-one at (one-more n rs) in
    let most = at-most n rs once in
    let all : below n rs ≡ n = omega (arith, once n) in
    let here : times_at n rs ≡ 1 = omega arith in
    go here (full n rs once all k) (split k n (omega arith) (k == n) refl)
  where
    go : times_at n rs ≡ 1 → (k < n → times_at k rs ≡ 1) → (k ≡ n) ⊎ (k < n) → times_at k rs ≡ 1
    go here later (inl e) = ap (λ (j : ℕ). times_at j rs) e ∙ here
    go here later (inr m) = later m

pub each_place : (n : ℕ) (rs : List Receipt) → ((k : ℕ) → times_at k rs ≤ 1)
    → Each (λ r. r.place < n) rs → length rs ≡ n → (k : ℕ) → k < n → times_at k rs ≡ 1
each_place n rs once each is = full n rs once (all-below n rs each ∙ is)
