use Rattle.std.proofs.Common.{◌≡◌, ◌++◌, drop}
use Rattle.net_laws.specs.Parcels.{requests_at}
use Rattle.site_solution.proofs.asked.copy_requests_at.Given as goal

abbrev pub invariant-loop-request : goal.invariant-loop-request
invariant-loop-request l =
    l.members ++ requests_at l.loc (drop l.request-index l.requests) ≡ requests_at l.loc l.requests
