-- The orders of rules and of requests: by a turn first.
use Rattle.std.proofs.Common.{◌≡◌, ℕ, ◌≤◌, Bool, true, false, refl, arith, ◌&&◌, ◌||◌, ◌==◌}
use Rattle.std.specs.Prelude.{nat_lt}
use Rattle.std.proofs.lemmas.Bool.Decides.{nat_tests}

abbrev pub sooner : ℕ → Bool → ℕ → Bool
sooner t b u = nat_lt t u || ((t == u) && b)

pub sooner_not : (t u : ℕ) (b : Bool) → sooner t b u ≡ false → (u ≤ t) × (t ≡ u → b ≡ false)
sooner_not t u true h = (grind (arith, nat_tests), λ e. absurd (grind (arith, nat_tests)))
sooner_not t u false h = (grind (arith, nat_tests), λ e. refl)

pub not_sooner : (t u : ℕ) (b : Bool) → u ≤ t → (t ≡ u → b ≡ false) → sooner t b u ≡ false
not_sooner t u true h f = go
  where
    go : sooner t true u ≡ false
    go = let g : t ≡ u → ⊥ = λ e. let no = f e in cc in grind (arith, nat_tests)
not_sooner t u false h f = grind (arith, nat_tests)

pub sooner_is : (t u : ℕ) (b : Bool) → sooner t b u ≡ true → (t ≤ u) × (t ≡ u → b ≡ true)
sooner_is t u true h = (grind (arith, nat_tests), λ e. refl)
sooner_is t u false h = (grind (arith, nat_tests), λ e. absurd (grind (arith, nat_tests)))
