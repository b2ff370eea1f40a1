-- The order of numbers: by a site, then by a number there.
use Rattle.std.proofs.Common.{◌≡◌, ℕ, ◌<◌, ◌≤◌, Bool, true, false, sym, arith, ◌&&◌, ◌||◌, ◌==◌}
use Rattle.std.specs.Prelude.{nat_lt}
use Rattle.std.proofs.lemmas.Bool.Decides.{nat_tests}

abbrev pub less : ℕ → ℕ → ℕ → ℕ → Bool
less s k t j = nat_lt s t || ((s == t) && nat_lt k j)

-- what a test by two numbers says, and what it takes
pub less_not : (s k t j : ℕ) → less s k t j ≡ false → (t ≤ s) × (s ≡ t → j ≤ k)
less_not s k t j h = (grind (arith, nat_tests), λ e. grind (arith, nat_tests))

pub not_less : (s k t j : ℕ) → t ≤ s → (s ≡ t → j ≤ k) → less s k t j ≡ false
not_less s k t j h f = grind (arith, nat_tests)

pub less_is : (s k t j : ℕ) → less s k t j ≡ true → (s ≤ t) × (s ≡ t → k < j)
less_is s k t j h = (grind (arith, nat_tests), λ e. grind (arith, nat_tests))

pub less_asym : (s k t j : ℕ) → less s k t j ≡ true → less t j s k ≡ false
less_asym s k t j h =
    let f = less_is s k t j h in
    not_less t j s k f.0 (λ e. let g = f.1 (sym e) in omega arith)

pub less_trans : (s k t j u i : ℕ) → less s k t j ≡ false → less t j u i ≡ false
    → less s k u i ≡ false
less_trans s k t j u i f g =
    let a = less_not s k t j f in
    let b = less_not t j u i g in
    not_less s k u i (omega arith) (λ e. let c : s ≡ t = omega arith in
    let d : t ≡ u = omega arith in let x = a.1 c in let y = b.1 d in omega arith)

-- two that come not before one another are the same
pub less_same : (s k t j : ℕ) → less s k t j ≡ false → less t j s k ≡ false → (s ≡ t) × (k ≡ j)
less_same s k t j f g =
    let a = less_not s k t j f in
    let b = less_not t j s k g in
    let e : s ≡ t = omega arith in
    let x = a.1 e in
    let y = b.1 (sym e) in
    (e, omega arith)
