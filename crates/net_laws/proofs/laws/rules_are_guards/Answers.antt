use Rattle.net_laws.proofs.ByCode.{rules_are_guards}
use Rattle.net_laws.proofs.laws.rules_are_guards.Goals as goal

pub returns : goal.returns
returns c = rules_are_guards
