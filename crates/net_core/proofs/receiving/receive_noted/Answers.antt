use Rattle.net_core.proofs.FromOutside.{received_from}
use Rattle.net_core.proofs.receiving.receive_noted.Goals as goal

pub receive_text-requires-clause-whole : goal.receive_text-requires-clause-whole
receive_text-requires-clause-whole c =
    (c.requires.whole.0, c.requires.whole.1, c.requires.whole.2.whole, c.requires.whole.3)

pub returns-clause-ok : goal.returns-clause-ok
returns-clause-ok c = λ code events whole some.
    received_from code c.args.parts.now c.receive_text.new.parts c.args.senders.now.items
    c.reserve.new.self.items c.add_run.new.runs.items c.args.site c.args.bytes.now events
    c.in_ok-count.count whole (c.in_ok-count.ensures.ok code events whole.whole some)
    c.in_ok-reserve.ensures.items c.in_ok-count.ensures.count c.add_run.ensures
