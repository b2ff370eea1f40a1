-- The rule at one site more.
use Rattle.std.proofs.Common.{◌++◌}
use Rattle.ring_source.specs.Ring.{rule_text, rules_text}
use Rattle.ring_source.proofs.Loops.{next_number}
use Rattle.ring_source.proofs.ring.push_rules.Goals as goal

pub loop-j-preserved : goal.loop-j-preserved
loop-j-preserved c = next_number (rule_text c.args.n)
    c.loop-j.text c.push_rule.new.text (c.args.text.now ++ rules_text c.args.n)
    c.loop-j.j c.args.n c.loop-j-test.true c.in_ok-push_rule.ensures c.loop-j.invariant
