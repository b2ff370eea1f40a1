use Rattle.std.proofs.Common.{drop}
use Rattle.std.specs.List.{list_any}
use Rattle.chem_model.specs.declared.numbered.NumberedRule.{NumberedRule}
use Rattle.chem_causes.specs.Cause.{waits_for}
use Rattle.chem_causes.proofs.KeyLaws.{IsLeft}
use Rattle.trace_history.specs.inside.Causes.{found_up}
use Rattle.trace_history.proofs.all_causes.sort_rules.Given as goal

abbrev pub invariant-loop-rule : goal.invariant-loop-rule
invariant-loop-rule l =
    IsLeft (λ y d (r : NumberedRule). list_any (waits_for y d) r.pats)
    (drop l.rule-index l.rule-items)
    l.rule-items l.sorted.waited.keys.keys l.initial.sorted.waited.keys.keys
    × IsLeft (found_up l.met.keys.keys l.numbered) (drop l.rule-index l.rule-items)
    l.rule-items l.sorted.ready.keys.keys l.initial.sorted.ready.keys.keys
