use Rattle.std.proofs.Common.{◌≡◌, ◌++◌, drop}
use Rattle.chem_model.specs.Each.{Each}
use Rattle.trace_text.specs.LogText.{IsAtom, atoms_text}
use Rattle.trace_text.proofs.log.push_atoms.Given as goal

abbrev pub invariant-loop-atom : goal.invariant-loop-atom
invariant-loop-atom l = (l.text ++ atoms_text (drop l.atom-index l.atom-items)
    ≡ l.initial.text ++ atoms_text l.atom-items)
    × (Each IsAtom (drop l.atom-index l.atom-items) → Each IsAtom l.atom-items)
