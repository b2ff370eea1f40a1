use Rattle.chem_model.specs.declared.numbered.NumberedAtom.{NumberedAtom}
use Rattle.chem_causes.specs.Channels.{is_on}
use Rattle.chem_causes.proofs.KeyLaws.{IsLeft}
use Rattle.trace_history.proofs.all_causes.add_table.Given as goal

abbrev pub invariant-loop-atom : goal.invariant-loop-atom
invariant-loop-atom l = IsLeft (λ y d (a : NumberedAtom). is_on y d a.term)
    l.atom-iterator l.table l.met.keys.keys l.initial.met.keys.keys
