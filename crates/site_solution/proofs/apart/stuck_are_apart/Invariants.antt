use Rattle.std.proofs.Common.{◌≡◌, drop}
use Rattle.std.specs.List.{list_all}
use Rattle.site_solution.specs.inside.Parted.{stuck_parted}
use Rattle.site_solution.proofs.apart.stuck_are_apart.Given as goal

abbrev pub invariant-loop-waiting : goal.invariant-loop-waiting
invariant-loop-waiting l = list_all (stuck_parted l.site l.but l.loc) (drop l.waiting-index l.stuck)
    ≡ list_all (stuck_parted l.site l.but l.loc) l.stuck
