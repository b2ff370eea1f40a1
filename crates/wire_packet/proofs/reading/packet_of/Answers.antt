use Rattle.std.proofs.Common.{◌≡◌, Ok, arith}
use Rattle.std.proofs.lemmas.Result.{err_from_is_err_and}
use Rattle.wire_packet.specs.declared.parcel.Packet.TheVariants as packet
use Rattle.wire_packet.specs.Format.{whole}
use Rattle.wire_packet.specs.Packets.{packets}
use Rattle.wire_packet.specs.Reading.{read}
use Rattle.wire_packet.specs.inside.Reading.{drafted}
use Rattle.wire_packet.proofs.Whole.{found}
use Rattle.wire_packet.proofs.reading.packet_of.Goals as goal

pub returns-in_err-msg : goal.returns-in_err-msg
unfolding packets
returns-in_err-msg c =
    let p =
    err_from_is_err_and c.from_residual-in_err-msg.result c.from_residual-in_err-msg.ensures.1 in
    let one : c.in_ok-kind.kind ≡ 1 = omega (arith, c.if-kind-eq1.true) in
    rw (p.1, p.2, c.in_ok-kind.ensures, one) (c.in_err-msg.ensures (λ m. whole (packet.Message m)))

pub returns-in_err-ended : goal.returns-in_err-ended
unfolding packets
returns-in_err-ended c =
    let p = err_from_is_err_and c.from_residual-in_err-ended.result
    c.from_residual-in_err-ended.ensures.1 in
    let one : c.in_ok-kind.kind ≡ 1 = omega (arith, c.if-kind-eq1.true) in
    rw (p.1, p.2, c.in_ok-kind.ensures, one, c.in_ok-msg.ensures (λ m. whole (packet.Message m)))
    (c.in_err-ended.ensures (packet.Message c.in_ok-msg.msg))

pub returns-then-kind-eq1 : goal.returns-then-kind-eq1
unfolding packets
returns-then-kind-eq1 c =
    let one : c.in_ok-kind.kind ≡ 1 = omega (arith, c.if-kind-eq1.true) in
    rw (c.in_ok-kind.ensures, one, c.in_ok-msg.ensures (λ m. whole (packet.Message m)))
    (c.in_ok-ended.ensures (packet.Message c.in_ok-msg.msg))

pub returns-in_err-draft : goal.returns-in_err-draft
unfolding packets
returns-in_err-draft c =
    let p = err_from_is_err_and c.from_residual-in_err-draft.result
    c.from_residual-in_err-draft.ensures.1 in
    let two : c.in_ok-kind.kind ≡ 2 = omega (arith, c.if-kind-ne2.false) in
    rw (p.1, p.2, c.in_ok-kind.ensures, two) (c.in_err-draft.ensures (λ m. whole (packet.Parcel m)))

pub returns-in_err-ended-2 : goal.returns-in_err-ended-2
unfolding packets
returns-in_err-ended-2 c =
    let p = err_from_is_err_and c.from_residual-in_err-ended-2.result
    c.from_residual-in_err-ended-2.ensures.1 in
    let two : c.in_ok-kind.kind ≡ 2 = omega (arith, c.if-kind-ne2.false) in
    rw (p.1, p.2, c.in_ok-kind.ensures, two, c.in_ok-draft.ensures (λ m. whole (packet.Parcel m)))
    (c.in_err-ended-2.ensures (packet.Parcel (drafted c.in_ok-draft.draft)))

pub parcel-requires : goal.parcel-requires
unfolding packets
parcel-requires c =
    let two : c.in_ok-kind.kind ≡ 2 = omega (arith, c.if-kind-ne2.false) in
    let all : read packets c.args.bytes.now ≡ Ok (packet.Parcel (drafted c.in_ok-draft.draft)) =
    rw (c.in_ok-kind.ensures, two, c.in_ok-draft.ensures (λ m. whole (packet.Parcel m)))
    (c.in_ok-ended-2.ensures (packet.Parcel (drafted c.in_ok-draft.draft))) in
    (found c.args.bytes.now (packet.Parcel (drafted c.in_ok-draft.draft))
    (λ i. omega (arith, c.type_inv.bytes i)) all).0.kept

pub returns : goal.returns
unfolding packets
returns c =
    let two : c.in_ok-kind.kind ≡ 2 = omega (arith, c.if-kind-ne2.false) in
    rw (
      c.parcel.ensures,
      c.in_ok-kind.ensures,
      two,
      c.in_ok-draft.ensures (λ m. whole (packet.Parcel m)),
    ) (c.in_ok-ended-2.ensures (packet.Parcel (drafted c.in_ok-draft.draft)))
