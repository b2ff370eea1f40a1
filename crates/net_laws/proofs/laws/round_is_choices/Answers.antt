use Rattle.net_laws.proofs.Rounds.{round_is_choices}
use Rattle.net_laws.proofs.laws.round_is_choices.Goals as goal

pub returns : goal.returns
returns c = λ rules_of. round_is_choices rules_of
