use Rattle.std.proofs.Common.{◌≡◌, drop}
use Rattle.std.specs.List.{list_all}
use Rattle.site_shelves.specs.inside.InTree.{request_stands}
use Rattle.site_solution.proofs.asked.requests_are_there.Given as goal

abbrev pub invariant-loop-request : goal.invariant-loop-request
invariant-loop-request l = list_all (request_stands l.tree) (drop l.request-index l.requests)
    ≡ list_all (request_stands l.tree) l.requests
