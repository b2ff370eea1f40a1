use Rattle.std.proofs.lemmas.Result.{on_ok_weaker}
use Rattle.std.proofs.Common.{◌∙◌}
use Rattle.lossy_link.specs.Whole.{links_of}
use Rattle.lossy_link.proofs.Making.{dropped, taken}
use Rattle.lossy_link.proofs.Stepping.{next_there}
use Rattle.lossy_link.proofs.steps.take_in.Goals as goal

pub returns-then-number-next : goal.returns-then-number-next
returns-then-number-next c = on_ok_weaker c.put.result (λ is. dropped (links_of c.args.parts.now)
    c.put.new.self c.args.from c.args.into c.args.number c.next_number-next.result c.args.bytes
    c.next_number-next.ensures.is c.if-number-next.true is) c.put.ensures

pub receive-requires-clause-next : goal.receive-requires-clause-next
receive-requires-clause-next c =
    next_there c.args.parts.now.lines c.args.from c.args.into c.args.number c.args.bytes
    (c.if-number-next.false ∙ c.next_number-next.ensures.is) c.requires.there

pub returns : goal.returns
returns c = on_ok_weaker c.put-2.result (λ is. taken (links_of c.args.parts.now)
    (links_of c.receive.new.parts) c.put-2.new.self c.args.from c.args.into c.args.number
    c.next_number-next.result c.args.bytes c.next_number-next.ensures.is c.if-number-next.false
    c.in_ok-receive.ensures is) c.put-2.ensures
