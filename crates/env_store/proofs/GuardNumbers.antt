-- A level's guards have numbers of 32 bits.
use Rattle.std.proofs.Common.{◌≡◌, ℕ, zero, suc, ◌+◌, ◌-◌, ◌<◌, ◌≤◌, List, length, get_or, Some}
use Rattle.std.proofs.Common.{refl, sym, ap, ◌∙◌, arith}
use Rattle.std.specs.Prelude.{slice_get, ◌^◌}
use Rattle.std.proofs.lemmas.Option.{slice_get_within, slice_get-get_or}
use Rattle.env_store.specs.declared.code.Level.{Level}
use Rattle.env_store.specs.CodeParts.{CodeParts}
use Rattle.env_store.specs.CodeFacts.{IsCode}

level_long : (c : CodeParts) (n : ℕ) (v : Level) → IsCode c → slice_get c.levels n ≡ Some v
    → 0 < v.guards → v.first + v.guards ≤ length c.guards
level_long c n v code e some =
    let own = (code.levels n v e).guards (v.first + v.guards - 1) (omega arith) (omega arith) in
    omega (arith, slice_get_within c.guards (v.first + v.guards - 1) own.0 own.1)

pub level_fits : (c : CodeParts) (n : ℕ) (v : Level) → IsCode c → slice_get c.levels n ≡ Some v
    → v.first < 2 ^ 32 → length c.guards < 2 ^ 32 → v.first + v.guards < 2 ^ 32
level_fits c n v code e first many = go v.guards refl
  where
    go : (k : ℕ) → v.guards ≡ k → v.first + v.guards < 2 ^ 32
    go zero same = omega arith
    go (suc k) same = omega (arith, level_long c n v code e (omega arith))

-- what is read of a list
pub reads : {X : Type 0} (xs ys : List X) (i : ℕ) (x : X) → xs ≡ ys → i < length ys
    → x ≡ get_or xs i x → slice_get ys i ≡ Some x
reads xs ys i x same below is =
    slice_get-get_or ys i x below ∙ ap Some (ap (λ zs. get_or zs i x) (sym same) ∙ sym is)
