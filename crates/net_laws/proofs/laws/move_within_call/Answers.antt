use Rattle.net_laws.proofs.CallLaws.{move_within_call}
use Rattle.net_laws.proofs.laws.move_within_call.Goals as goal

pub returns : goal.returns
returns c = λ rules_of. move_within_call rules_of
