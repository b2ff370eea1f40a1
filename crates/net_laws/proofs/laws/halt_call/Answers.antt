use Rattle.net_laws.proofs.CallLaws.{halt_call}
use Rattle.net_laws.proofs.laws.halt_call.Goals as goal

pub returns : goal.returns
returns c = λ rules_of. halt_call rules_of
