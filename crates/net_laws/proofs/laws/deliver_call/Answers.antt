use Rattle.net_laws.proofs.CallLaws.{deliver_call}
use Rattle.net_laws.proofs.laws.deliver_call.Goals as goal

pub returns : goal.returns
returns c = λ rules_of. deliver_call rules_of
