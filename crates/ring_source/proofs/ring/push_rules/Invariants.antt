use Rattle.std.proofs.Common.{◌≡◌, ◌-◌, ◌++◌}
use Rattle.std.specs.Prelude.{flat_map}
use Rattle.std.specs.List.{range_with_len}
use Rattle.ring_source.specs.Ring.{rule_text, rules_text}
use Rattle.ring_source.proofs.ring.push_rules.Given as goal

abbrev pub invariant-loop-j : goal.invariant-loop-j
invariant-loop-j l = l.text ++ flat_map (rule_text l.n) (range_with_len l.j (l.n - l.j))
    ≡ l.initial.text ++ rules_text l.n
