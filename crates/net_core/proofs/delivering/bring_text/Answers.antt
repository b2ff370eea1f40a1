use Rattle.std.proofs.Common.{◌≡◌, true, sym, ap, ◌∙◌, subst}
use Rattle.wire_packet.specs.MessageFacts.{MessageParts}
use Rattle.router.specs.Delivering.{can_deliver}
use Rattle.site_turn.specs.Bringing.{Brings}
use Rattle.net_core.specs.Parts.{message_in}
use Rattle.net_core.proofs.Carrying.{message_spelled}
use Rattle.net_core.proofs.Fitting.{on_ok}
use Rattle.net_core.proofs.delivering.bring_text.Goals as goal

pub read_text-requires : goal.read_text-requires
read_text-requires c = (message_in c.args.bytes.now, c.requires.spelled)

pub bring-requires : goal.bring-requires
bring-requires c = subst
    (λ (m : MessageParts). can_deliver c.args.tree.now c.args.site.now m ≡ true)
    (message_spelled c.in_ok-msg.msg c.args.bytes.now c.in_ok-msg.ensures) c.requires.can

pub returns-clause-ok : goal.returns-clause-ok
returns-clause-ok c =
    let bytes = c.args.bytes.now in
    let msg = c.in_ok-msg.msg in
    on_ok (Brings c.args.tree.now c.args.site.now msg bytes c.args.on.now c.bring.new.site
    c.bring.new.on)
    (Brings c.args.tree.now c.args.site.now (message_in bytes) bytes c.args.on.now c.bring.new.site
    c.bring.new.on)
    c.bring.result
    (subst (λ (m : MessageParts). Brings c.args.tree.now c.args.site.now m bytes c.args.on.now
    c.bring.new.site c.bring.new.on)
    (sym (message_spelled msg bytes c.in_ok-msg.ensures)))
    c.bring.ensures.ok
