use Rattle.std.proofs.Common.{refl}
use Rattle.wire_packet.specs.Packets.{waiting_list}
use Rattle.wire_packet.specs.inside.Reading.{all_waiting}
use Rattle.wire_packet.proofs.Loop.{behind}
use Rattle.wire_packet.proofs.reading.all_waiting_of.Goals as goal

pub returns-clause-reads : goal.returns-clause-reads
returns-clause-reads c =
    behind _ _ (λ next. waiting_list c.args.loc c.in_ok-count.count next) (all_waiting c.args.loc)
    c.in_ok-count.rest.now c.args.bytes.now (λ next. rw c.in_ok-count.ensures refl)
    c.waiting_list_of.result c.waiting_list_of.ensures.reads
