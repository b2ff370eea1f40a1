use Rattle.std.proofs.Common.{◌≡◌}
use Rattle.std.specs.List.{list_any}
use Rattle.site_shelves.specs.Held.{is_id_of}
use Rattle.site_shelves.proofs.walking.in_queue.Given as goal

abbrev pub invariant-loop-msg : goal.invariant-loop-msg
invariant-loop-msg l =
    list_any (is_id_of l.atom) l.msg-iterator ≡ list_any (is_id_of l.atom) l.fn.queue
