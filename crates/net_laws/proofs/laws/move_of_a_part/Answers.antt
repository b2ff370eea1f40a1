use Rattle.net_laws.proofs.Parts.{move_of_a_part}
use Rattle.net_laws.proofs.laws.move_of_a_part.Goals as goal

pub returns : goal.returns
returns c = λ rules_of. move_of_a_part rules_of
