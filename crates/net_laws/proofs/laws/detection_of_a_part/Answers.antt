use Rattle.net_laws.proofs.Parts.{detection_of_a_part}
use Rattle.net_laws.proofs.laws.detection_of_a_part.Goals as goal

pub returns : goal.returns
returns c = λ rules_of. detection_of_a_part rules_of
