-- What holds of the limits of a program, whatever its version.
use Rattle.std.proofs.Common.{ℕ, ◌≤◌, ◌==◌, Bool, true, false, cond, arith}
use Rattle.chem_model.specs.ProgramFacts.{most_sites}

pub sites-few : (version : ℕ) → most_sites version ≤ 256
sites-few version = go (version == 2)
  where
    go : (second : Bool) → cond second 256 64 ≤ 256
    go true = omega arith
    go false = omega arith
