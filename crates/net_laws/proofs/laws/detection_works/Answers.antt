use Rattle.net_laws.proofs.Meeting.{detection_works}
use Rattle.net_laws.proofs.laws.detection_works.Goals as goal

pub returns : goal.returns
returns c = λ rules_of. detection_works rules_of
