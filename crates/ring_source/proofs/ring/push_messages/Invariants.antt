use Rattle.std.proofs.Common.{◌≡◌, ◌-◌, ◌++◌, codes, replicate}
use Rattle.std.specs.Prelude.{flat_map}
use Rattle.ring_source.specs.Ring.{message_text, messages_text}
use Rattle.ring_source.proofs.ring.push_messages.Given as goal

abbrev pub invariant-loop-message : goal.invariant-loop-message
invariant-loop-message l =
    l.text ++ flat_map (λ i. codes " | " ++ message_text i) (replicate (8 - l._message) l.i)
    ≡ l.fn.text ++ messages_text l.i
