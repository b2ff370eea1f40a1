-- The first message, and one more behind ` | `.
use Rattle.std.proofs.Common.{ℕ, List, ◌++◌, ◌∙◌, ap, codes, replicate, append_assoc}
use Rattle.std.specs.Prelude.{flat_map}
use Rattle.ring_source.specs.Ring.{message_text, messages_text}
use Rattle.ring_source.proofs.Appends.{two}
use Rattle.ring_source.proofs.Loops.{once_more}
use Rattle.ring_source.proofs.ring.push_messages.Goals as goal

pub loop-message-init : goal.loop-message-init
loop-message-init c =
    let later = flat_map (λ (i : ℕ). codes " | " ++ message_text i) (replicate 7 c.args.i) in
    ap (λ (text : List ℕ). text ++ later) c.in_ok-push_message.ensures
    ∙ append_assoc c.args.text.now (message_text c.args.i) later

pub loop-message-preserved : goal.loop-message-preserved
loop-message-preserved c =
    let piece = ap (λ (text : List ℕ). text ++ message_text c.args.i) c.in_ok-push_all.ensures.ok in
    let joined = two c.loop-message.text (codes " | ") (message_text c.args.i)
    (c.in_ok-push_message-2.ensures ∙ piece) in
    once_more (λ (i : ℕ). codes " | " ++ message_text i) c.loop-message.text
    c.push_message-in-loop-message.new.text (c.args.text.now ++ messages_text c.args.i)
    c.args.i c.loop-message._message 8 c.loop-message-test.true joined c.loop-message.invariant
