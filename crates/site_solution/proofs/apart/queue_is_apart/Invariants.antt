use Rattle.std.proofs.Common.{◌≡◌}
use Rattle.std.specs.List.{list_all}
use Rattle.site_solution.specs.inside.Parted.{message_apart}
use Rattle.site_solution.proofs.apart.queue_is_apart.Given as goal

abbrev pub invariant-loop-msg : goal.invariant-loop-msg
invariant-loop-msg l = list_all (message_apart l.site l.but) l.msg-iterator
    ≡ list_all (message_apart l.site l.but) l.fn.queue
