use Rattle.std.proofs.Common.{◌≡◌, ◌<◌, ◌≤◌, ℕ, Some, slice_get, length}
use Rattle.net_laws.specs.Site.{Site}
use Rattle.net_core.proofs.asking.ask_no_more.Given as goal

abbrev pub invariant-loop-at : goal.invariant-loop-at
invariant-loop-at l =
    (i : ℕ) (s : Site) (n : ℕ) → i < l.at → slice_get l.sites i ≡ Some s
    → slice_get l.asked i ≡ Some n → length s.requests ≤ n
