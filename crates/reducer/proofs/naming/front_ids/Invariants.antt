use Rattle.std.proofs.Common.{◌≡◌, ◌++◌, drop}
use Rattle.net_laws.specs.Changes.{ids}
use Rattle.site_solution.specs.Held.{queues_of}
use Rattle.reducer.specs.Fronts.{fronts_of}
use Rattle.reducer.proofs.naming.front_ids.Given as goal

abbrev pub invariant-loop-chan : goal.invariant-loop-chan
invariant-loop-chan l =
    l.took ++ ids (fronts_of (queues_of l.site.groups l.group) (drop l.chan-index l.chans))
    ≡ ids (fronts_of (queues_of l.site.groups l.group) l.chans)
