use Rattle.net_laws.proofs.Parts.{reaction_of_a_part}
use Rattle.net_laws.proofs.laws.reaction_of_a_part.Goals as goal

pub returns : goal.returns
returns c = λ rules_of. reaction_of_a_part rules_of
