use Rattle.std.proofs.Common.{◌++◌, ap, subst, ◌∙◌}
use Rattle.wire_packet.specs.Spelling.{waiting_message}
use Rattle.wire_packet.specs.Allowed.{IsWaitingValue}
use Rattle.wire_packet.proofs.Appends.{member_put}
use Rattle.wire_packet.proofs.writing.put_waiting.Goals as goal

pub loop-one-preserved : goal.loop-one-preserved
loop-one-preserved c =
    member_put waiting_message IsWaitingValue c.args.out.now c.loop-one.out _
    c.args.waiting.now c.loop-one.one-index _ c.loop-one-test.true c.loop-one.invariant
    (c.in_ok-put_message.ensures.is ∙ ap (λ w. c.loop-one.out ++ waiting_message w) c.one-item.is)
    (subst IsWaitingValue c.one-item.is c.in_ok-put_message.ensures.fits)
