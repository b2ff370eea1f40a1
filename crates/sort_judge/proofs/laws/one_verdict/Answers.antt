use Rattle.sort_judge.proofs.OneVerdict.{one_verdict}
use Rattle.sort_judge.proofs.laws.one_verdict.Goals as goal

pub returns : goal.returns
returns c = one_verdict c.one_outcome-2.ensures c.one_outcome-3.ensures c.one_outcome.ensures
    c.one_outcome-4.ensures c.one_judgement.ensures c.no_fault_no_wrong_atom.ensures
