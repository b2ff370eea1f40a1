use Rattle.std.proofs.Common.{◌≡◌, drop}
use Rattle.scope_check.specs.inside.Naming.{name_patterns}
use Rattle.scope_check.proofs.naming.name_patterns.Given as goal

abbrev pub invariant-loop-pat : goal.invariant-loop-pat
invariant-loop-pat l = name_patterns l.at l.spell l.own l.params (drop l.pat-index l.pats)
    ≡ name_patterns l.at l.initial.spell l.initial.own l.initial.params l.pats
