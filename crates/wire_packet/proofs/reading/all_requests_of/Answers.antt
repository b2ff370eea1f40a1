use Rattle.std.proofs.Common.{refl}
use Rattle.wire_packet.specs.Packets.{request_list}
use Rattle.wire_packet.specs.inside.Ids.{holds}
use Rattle.wire_packet.specs.inside.Reading.{all_requests}
use Rattle.wire_packet.proofs.Loop.{behind}
use Rattle.wire_packet.proofs.reading.all_requests_of.Goals as goal

pub returns : goal.returns
returns c =
    behind _ _ (λ next. request_list c.args.loc (holds c.args.ids.now) c.in_ok-count.count next)
    (all_requests c.args.loc (holds c.args.ids.now)) c.in_ok-count.rest.now c.args.bytes.now
    (λ next. rw c.in_ok-count.ensures refl) c.requests_of.result c.requests_of.ensures
