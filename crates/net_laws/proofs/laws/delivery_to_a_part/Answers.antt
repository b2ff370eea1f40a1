use Rattle.net_laws.proofs.Parts.{delivery_to_a_part}
use Rattle.net_laws.proofs.laws.delivery_to_a_part.Goals as goal

pub returns : goal.returns
returns c = λ rules_of. delivery_to_a_part rules_of
