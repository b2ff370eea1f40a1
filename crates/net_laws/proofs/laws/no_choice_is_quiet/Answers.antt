use Rattle.net_laws.proofs.Quiet.{no_choice_is_quiet}
use Rattle.net_laws.proofs.laws.no_choice_is_quiet.Goals as goal

pub returns : goal.returns
returns c = λ rules_of. no_choice_is_quiet rules_of
