use Rattle.std.proofs.Common.{◌≡◌, ◌++◌, drop}
use Rattle.net_core.proofs.Requests.{listed}
use Rattle.net_core.proofs.asking.all_requests.Given as goal

abbrev pub invariant-loop-site : goal.invariant-loop-site
invariant-loop-site l =
    l.requests.items ++ listed (drop l.site-index l.sites) ≡ listed l.sites
