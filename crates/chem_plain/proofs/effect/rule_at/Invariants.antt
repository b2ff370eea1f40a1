use Rattle.std.proofs.Common.{◌≡◌, drop}
use Rattle.chem_model.specs.Apply.{rule_at}
use Rattle.chem_plain.proofs.effect.rule_at.Given as goal

abbrev pub invariant-loop-rule : goal.invariant-loop-rule
invariant-loop-rule l = rule_at (drop l.rule-index l.rule-items) l.id ≡ rule_at l.rule-items l.id
