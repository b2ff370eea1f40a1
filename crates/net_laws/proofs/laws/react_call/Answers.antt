use Rattle.net_laws.proofs.CallLaws.{react_call}
use Rattle.net_laws.proofs.laws.react_call.Goals as goal

pub returns : goal.returns
returns c = λ rules_of. react_call rules_of
