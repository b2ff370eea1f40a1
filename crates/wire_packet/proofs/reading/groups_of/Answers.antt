use Rattle.std.proofs.Common.{◌∙◌}
use Rattle.std.proofs.lemmas.Result.{err_from_is_err_and}
use Rattle.wire_packet.specs.Packets.{group_member}
use Rattle.wire_packet.proofs.Loop.{steps, ends, is_done}
use Rattle.wire_packet.proofs.reading.groups_of.Goals as goal

pub returns-in_err-group : goal.returns-in_err-group
returns-in_err-group c =
    let p = err_from_is_err_and c.from_residual.result c.from_residual.ensures.1 in
    rw (p.1, p.2) (λ next. rw (c.loop.invariant next)
    (ends (group_member c.args.loc) c.loop.groups c.args.count c.loop.counter c.loop.rest.now
    c.in_err-group.field-0.0 next c.loop-test.true c.in_err-group.ensures))

pub loop-preserved : goal.loop-preserved
loop-preserved c = λ next. c.loop.invariant next
    ∙ rw c.in_ok-push.ensures.ok
    (steps (group_member c.args.loc) c.loop.groups c.args.count c.loop.counter c.loop.rest.now
    c.in_ok-group.after.now c.in_ok-group.group next c.loop-test.true c.in_ok-group.ensures)

pub returns : goal.returns
returns c = λ next. c.loop.invariant next
    ∙ is_done (group_member c.args.loc)
    c.loop.groups c.args.count c.loop.counter c.loop.rest.now next c.loop-test.false
