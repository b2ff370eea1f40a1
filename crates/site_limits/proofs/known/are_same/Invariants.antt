use Rattle.std.proofs.Common.{◌≡◌, drop}
use Rattle.site_limits.proofs.known.are_same.Given as goal

abbrev pub invariant-loop-place : goal.invariant-loop-place
invariant-loop-place l = drop l.place l.env ≡ drop l.place l.before → l.env ≡ l.before
