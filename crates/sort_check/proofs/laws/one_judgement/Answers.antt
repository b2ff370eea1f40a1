use Rattle.sort_check.proofs.Answer.{one_judgement}
use Rattle.sort_check.proofs.laws.one_judgement.Goals as goal

pub returns : goal.returns
returns c = one_judgement
