use Rattle.std.proofs.Common.{◌≡◌, ◌++◌, drop}
use Rattle.net_core.proofs.asking.add_requests.Given as goal

abbrev pub invariant-loop-place : goal.invariant-loop-place
invariant-loop-place l = l.requests.items ++ drop l.place l.site.requests
    ≡ l.initial.requests.items ++ l.site.requests
