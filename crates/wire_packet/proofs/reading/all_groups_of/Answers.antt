use Rattle.std.proofs.Common.{refl}
use Rattle.wire_packet.specs.Packets.{group_list}
use Rattle.wire_packet.specs.inside.Reading.{all_groups}
use Rattle.wire_packet.proofs.Loop.{behind}
use Rattle.wire_packet.proofs.reading.all_groups_of.Goals as goal

pub returns : goal.returns
returns c =
    behind _ _ (λ next. group_list c.args.loc c.in_ok-count.count next) (all_groups c.args.loc)
    c.in_ok-count.rest.now c.args.bytes.now (λ next. rw c.in_ok-count.ensures refl)
    c.groups_of.result c.groups_of.ensures
