use Rattle.net_laws.proofs.Meeting.{move_within_works}
use Rattle.net_laws.proofs.laws.move_within_works.Goals as goal

pub returns : goal.returns
returns c = λ rules_of. move_within_works rules_of
