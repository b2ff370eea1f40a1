use Rattle.std.proofs.Common.{◌≡◌, ◌++◌, drop}
use Rattle.net_laws.specs.Parcels.{stuck_at}
use Rattle.site_shelves.proofs.packing.copy_stuck.Given as goal

abbrev pub invariant-loop-waiting : goal.invariant-loop-waiting
invariant-loop-waiting l =
    l.list ++ stuck_at l.loc (drop l.waiting-index l.stuck) ≡ l.fn.list ++ stuck_at l.loc l.stuck
