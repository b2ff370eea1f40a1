use Rattle.wire_packet.specs.declared.packet.Waiting.{Waiting}
use Rattle.site_shelves.proofs.Drops.{slice_get-read}
use Rattle.site_limits.specs.Limits.{Limits, message_within}
use Rattle.site_limits.proofs.Learned.{left-first, left-next, left-none}
use Rattle.site_limits.proofs.Stays.{message-stays}
use Rattle.site_limits.proofs.known.note_waiting.Goals as goal

pub loop-one-init : goal.loop-one-init
loop-one-init c = left-first (λ (d : Limits) (w : Waiting). message_within d w.msg)
    c.args.waiting.now 0 c.args.known.now

pub loop-one-preserved : goal.loop-one-preserved
loop-one-preserved c =
    let at = slice_get-read c.args.waiting.now c.loop-one.one-index c.one-item.result
    c.loop-one-test.true c.one-item.is in
    left-next (λ (d : Limits) (w : Waiting). message_within d w.msg) c.args.waiting.now 0
    c.loop-one.one-index c.one-item.result c.args.known.now c.loop-one.known c.note_msg.new.known
    (message-stays c.one-item.result.msg) at c.loop-one.invariant c.note_msg.ensures

pub returns : goal.returns
returns c =
    left-none (λ (d : Limits) (w : Waiting). message_within d w.msg) c.args.waiting.now 0
    c.loop-one.one-index c.args.known.now c.loop-one.known c.loop-one-test.false
    c.loop-one.invariant
