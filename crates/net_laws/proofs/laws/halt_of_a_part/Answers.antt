use Rattle.net_laws.proofs.Parts.{halt_of_a_part}
use Rattle.net_laws.proofs.laws.halt_of_a_part.Goals as goal

pub returns : goal.returns
returns c = λ rules_of. halt_of_a_part rules_of
