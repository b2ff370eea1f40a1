use Rattle.std.proofs.Common.{◌≡◌}
use Rattle.std.specs.List.{list_all}
use Rattle.site_shelves.specs.InTree.{message_stands}
use Rattle.site_shelves.proofs.walking.queue_is_there.Given as goal

abbrev pub invariant-loop-msg : goal.invariant-loop-msg
invariant-loop-msg l =
    list_all (message_stands l.tree) l.msg-iterator ≡ list_all (message_stands l.tree) l.fn.queue
