use Rattle.std.proofs.lemmas.Result.{on_ok_weaker}
use Rattle.lossy_link.specs.Whole.{links_of}
use Rattle.lossy_link.proofs.Making.{received, receive_site, receive_spelled, receive_stands}
use Rattle.lossy_link.proofs.Making.{sent_some}
use Rattle.lossy_link.proofs.steps.receive.Goals as goal

pub receive-requires-clause-site : goal.receive-requires-clause-site
receive-requires-clause-site c =
    receive_site (links_of c.args.parts.now) c.args.from c.args.into c.args.bytes c.requires.whole
    c.requires.next

pub receive-requires-clause-spelled : goal.receive-requires-clause-spelled
receive-requires-clause-spelled c =
    receive_spelled (links_of c.args.parts.now) c.args.from c.args.into c.args.bytes
    c.as_slice.result.now c.requires.whole c.requires.next c.as_slice.ensures.members

pub receive-requires-clause-stands : goal.receive-requires-clause-stands
receive-requires-clause-stands c =
    receive_stands (links_of c.args.parts.now) c.args.from c.args.into c.args.bytes
    c.as_slice.result.now c.requires.whole c.requires.next c.as_slice.ensures.members

pub hand-requires : goal.hand-requires
hand-requires c = sent_some c.args.parts.now.lines c.args.from c.args.into _ c.args.bytes
    c.requires.next

pub returns : goal.returns
returns c = on_ok_weaker c.leave_all.result (λ lines. received (links_of c.args.parts.now)
    c.args.from c.args.into c.args.bytes c.receive.new.self c.drain-packets.new.self
    c.as_slice.result.now c.drain-packets.result c.hand.new.self c.leave_all.new.lines
    c.as_slice.ensures.members c.in_ok-receive.ensures.ok c.drain-packets.ensures
    c.in_ok-hand.ensures lines) c.leave_all.ensures.sent
