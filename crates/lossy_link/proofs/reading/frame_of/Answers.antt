use Rattle.std.proofs.Common.{◌+◌, ◌≤◌, length, subst, arith}
use Rattle.wire_packet.specs.Format.{WrongAt}
use Rattle.wire_packet.specs.declared.fault.DecodeEnd.{DecodeEnd}
use Rattle.lossy_link.specs.FrameFormat.{behind_head, NamesWrongIn}
use Rattle.lossy_link.proofs.Heads.{wrong_behind}
use Rattle.lossy_link.proofs.Exact.{far_enough}
use Rattle.lossy_link.proofs.reading.frame_of.Goals as goal

pub overflow_add-result : goal.overflow_add-result
overflow_add-result c =
    let h = c.in-Ok in
    let place = c.in-Err-Bad.place in
    let at : WrongAt (behind_head h.tag h.from h.into h.number) h.rest.now place =
    subst (λ (e : DecodeEnd). NamesWrongIn (behind_head h.tag h.from h.into h.number) e h.rest.now)
    c.in-Err-Bad.field-0-is c.in-Err-Bad.ensures in
    let far : place + 17 ≤ length c.args.bytes.now =
    far_enough h.tag h.from h.into h.number h.rest.now c.args.bytes.now place h.ensures at in
    let count = c.count_of-count.ensures.is in
    let few = c.count_of-count.ensures.fits in
    omega arith

pub returns-in-Err-Bad : goal.returns-in-Err-Bad
returns-in-Err-Bad c =
    let h = c.in-Ok in
    let place = c.in-Err-Bad.place in
    let at : WrongAt (behind_head h.tag h.from h.into h.number) h.rest.now place =
    subst (λ (e : DecodeEnd). NamesWrongIn (behind_head h.tag h.from h.into h.number) e h.rest.now)
    c.in-Err-Bad.field-0-is c.in-Err-Bad.ensures in
    wrong_behind h.tag h.from h.into h.number h.rest.now c.args.bytes.now h.ensures place at
