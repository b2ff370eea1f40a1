-- When two pairs of numbers are the same key of a location.
use Rattle.std.specs.Prelude.{ℕ, Bool, ◌&&◌, nat_eq}

-- the key of a location
abbrev pub same_pair_as : ℕ × ℕ → ℕ × ℕ → Bool
same_pair_as p q = nat_eq p.0 q.0 && nat_eq p.1 q.1
