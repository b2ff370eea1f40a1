use Rattle.wire_packet.specs.declared.packet.Waiting.{Waiting}
use Rattle.site_limits.specs.Limits.{Limits, message_within}
use Rattle.site_limits.specs.Knows.{Noted}
use Rattle.site_limits.proofs.Learned.{Left}
use Rattle.site_limits.proofs.known.note_waiting.Given as goal

abbrev pub invariant-loop-one : goal.invariant-loop-one
invariant-loop-one l = Noted l.fn.known l.known
    (Left (λ (d : Limits) (w : Waiting). message_within d w.msg) l.waiting 0 l.one-index)
