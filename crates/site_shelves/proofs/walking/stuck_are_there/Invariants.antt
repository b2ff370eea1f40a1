use Rattle.std.proofs.Common.{◌≡◌, drop}
use Rattle.std.specs.List.{list_all}
use Rattle.site_shelves.specs.InTree.{message_stands}
use Rattle.wire_packet.specs.declared.packet.Waiting.{Waiting}
use Rattle.site_shelves.proofs.walking.stuck_are_there.Given as goal

abbrev pub invariant-loop-waiting : goal.invariant-loop-waiting
invariant-loop-waiting l =
    list_all (λ (w : Waiting). message_stands l.tree w.msg) (drop l.waiting-index l.stuck)
    ≡ list_all (λ (w : Waiting). message_stands l.tree w.msg) l.stuck
