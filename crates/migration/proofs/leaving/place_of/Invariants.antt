use Rattle.std.proofs.Common.{◌≡◌, ◌++◌, take, drop}
use Rattle.net_laws.specs.Holding.{without_request}
use Rattle.migration.proofs.leaving.place_of.Given as goal

abbrev pub invariant-loop-index : goal.invariant-loop-index
invariant-loop-index l = take l.index l.requests ++ without_request l.atom (drop l.index l.requests)
    ≡ without_request l.atom l.requests
