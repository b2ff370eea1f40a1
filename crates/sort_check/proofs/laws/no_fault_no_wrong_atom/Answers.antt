use Rattle.sort_check.proofs.Passes.{no_fault_no_wrong_atom}
use Rattle.sort_check.proofs.laws.no_fault_no_wrong_atom.Goals as goal

pub returns : goal.returns
returns c = no_fault_no_wrong_atom
