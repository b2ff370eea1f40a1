use Rattle.net_laws.proofs.Meeting.{move_between_works}
use Rattle.net_laws.proofs.laws.move_between_works.Goals as goal

pub returns : goal.returns
returns c = λ rules_of. move_between_works rules_of
