use Rattle.net_laws.proofs.Parts.{move_of_two_parts}
use Rattle.net_laws.proofs.laws.move_of_two_parts.Goals as goal

pub returns : goal.returns
returns c = λ rules_of. move_of_two_parts rules_of
