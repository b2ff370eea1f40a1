use Rattle.net_laws.proofs.Meeting.{detection_is_one_event}
use Rattle.net_laws.proofs.laws.detection_is_one_event.Goals as goal

pub returns : goal.returns
returns c = λ rules_of. detection_is_one_event rules_of
