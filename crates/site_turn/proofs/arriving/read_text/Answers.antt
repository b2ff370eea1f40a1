use Rattle.std.proofs.Common.{refl}
use Rattle.wire_packet.specs.MessageFacts.{MessageParts}
use Rattle.wire_packet.specs.declared.parcel.Packet.TheVariants as packet
use Rattle.wire_packet.specs.Codec.{IsSpelledBy}
use Rattle.std.proofs.Common.{sym, subst}
use Rattle.site_turn.proofs.Coming.{read_found, read_bad}
use Rattle.site_turn.proofs.arriving.read_text.Goals as goal

pub message_of-requires : goal.message_of-requires
message_of-requires c = (
  c.requires.0,
  read_found c.requires.0 c.args.bytes.now c.args.bytes.now c.in-Ok.packet c.requires.1 refl
      c.in-Ok.ensures.reads,
)

pub unreachable-requires : goal.unreachable-requires
unreachable-requires c = read_bad c.requires.0 c.args.bytes.now c.args.bytes.now
    c.in-Err-Bad.field-0 c.in-Err-Bad.field-0-0 c.in-Err-Bad.field-0-is c.requires.1 refl
    c.in-Err-Bad.ensures.reads

pub returns-in-Ok : goal.returns-in-Ok
returns-in-Ok c =
    let m = c.requires.0 in
    let is = c.message_of.ensures m (read_found m c.args.bytes.now c.args.bytes.now c.in-Ok.packet
    c.requires.1 refl c.in-Ok.ensures.reads) in
    subst (λ (x : MessageParts). IsSpelledBy (packet.Message x) c.args.bytes.now) (sym is)
    c.requires.1
