use Rattle.std.proofs.Common.{◌≡◌}
use Rattle.std.specs.List.{list_all}
use Rattle.site_shelves.specs.Draws.{message_drawn}
use Rattle.site_shelves.proofs.testing.queue_is_drawn.Given as goal

abbrev pub invariant-loop-msg : goal.invariant-loop-msg
invariant-loop-msg l = list_all (message_drawn l.count.number l.count.made) l.msg-iterator
    ≡ list_all (message_drawn l.count.number l.count.made) l.fn.queue
