use Rattle.net_laws.proofs.CallLaws.{move_between_call}
use Rattle.net_laws.proofs.laws.move_between_call.Goals as goal

pub returns : goal.returns
returns c = λ rules_of. move_between_call rules_of
