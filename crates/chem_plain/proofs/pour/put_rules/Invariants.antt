use Rattle.std.proofs.Common.{◌≡◌, ◌++◌, drop}
use Rattle.chem_model.specs.Process.{definitions}
use Rattle.chem_plain.specs.inside.PouredBy.{rules_by}
use Rattle.chem_plain.proofs.pour.put_rules.Given as goal

abbrev pub invariant-loop-definition : goal.invariant-loop-definition
invariant-loop-definition l =
    let rest = rules_by l.by l.made.next
    (definitions (drop l.definition-index l.definition-items)) in
    let all = rules_by l.by l.initial.made.next (definitions l.definition-items) in
    (rest.next ≡ all.next)
    × (l.made.births ++ rest.births ≡ l.initial.made.births ++ all.births)
    × (l.made.named ++ rest.named ≡ l.initial.made.named ++ all.named)
    × (l.made.rules ++ rest.rules ≡ l.initial.made.rules ++ all.rules)
    × (l.made.atoms ++ rest.atoms ≡ l.initial.made.atoms ++ all.atoms)
    × (l.made.outs ++ rest.outs ≡ l.initial.made.outs ++ all.outs)
