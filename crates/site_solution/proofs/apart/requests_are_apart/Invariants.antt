use Rattle.std.proofs.Common.{◌≡◌, drop}
use Rattle.std.specs.List.{list_all}
use Rattle.site_solution.specs.inside.Parted.{request_parted}
use Rattle.site_solution.proofs.apart.requests_are_apart.Given as goal

abbrev pub invariant-loop-request : goal.invariant-loop-request
invariant-loop-request l =
    list_all (request_parted l.site l.but l.loc) (drop l.request-index l.requests)
    ≡ list_all (request_parted l.site l.but l.loc) l.requests
