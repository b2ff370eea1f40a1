use Rattle.std.proofs.Common.{◌≡◌, drop}
use Rattle.std.specs.List.{list_all}
use Rattle.site_shelves.specs.Draws.{message_drawn}
use Rattle.wire_packet.specs.declared.packet.Waiting.{Waiting}
use Rattle.site_shelves.proofs.testing.stuck_are_drawn.Given as goal

abbrev pub invariant-loop-waiting : goal.invariant-loop-waiting
invariant-loop-waiting l =
    list_all (λ (w : Waiting). message_drawn l.count.number l.count.made w.msg)
    (drop l.waiting-index l.stuck)
    ≡ list_all (λ (w : Waiting). message_drawn l.count.number l.count.made w.msg) l.stuck
