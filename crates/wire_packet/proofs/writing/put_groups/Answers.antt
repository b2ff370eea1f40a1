use Rattle.std.proofs.Common.{◌++◌, ap, subst, ◌∙◌}
use Rattle.wire_packet.specs.Spelling.{group}
use Rattle.wire_packet.specs.Allowed.{IsGroupValue}
use Rattle.wire_packet.proofs.Appends.{member_put}
use Rattle.wire_packet.proofs.writing.put_groups.Goals as goal

pub loop-one-preserved : goal.loop-one-preserved
loop-one-preserved c =
    member_put group IsGroupValue c.args.out.now c.loop-one.out _
    c.args.groups.now c.loop-one.one-index _ c.loop-one-test.true c.loop-one.invariant
    (c.in_ok-put_group.ensures.is ∙ ap (λ g. c.loop-one.out ++ group g) c.one-item.is)
    (subst IsGroupValue c.one-item.is c.in_ok-put_group.ensures.fits)
