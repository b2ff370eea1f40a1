use Rattle.net_laws.proofs.CallLaws.{detect_call}
use Rattle.net_laws.proofs.laws.detect_call.Goals as goal

pub returns : goal.returns
returns c = λ rules_of. detect_call rules_of
