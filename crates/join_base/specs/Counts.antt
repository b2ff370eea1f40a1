-- Counts of calls and faults.
use Rattle.std.specs.Prelude.{ℕ, ◌+◌, ◌-◌, ◌^◌, ◌≤◌, min}

-- one more, in a u64 that stays at its last value
abbrev pub one_more : ℕ → ℕ
one_more n = min (n + 1) (2 ^ 64 - 1)

-- the count rose, or stands at a u64's last value
abbrev pub Rose : ℕ → ℕ → Type 0
Rose old new = one_more old ≤ new
