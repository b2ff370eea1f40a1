use Rattle.net_laws.proofs.Choices.{works_lead}
use Rattle.net_laws.proofs.laws.choice_is_one_event.Goals as goal

pub returns : goal.returns
returns c = λ rules_of. works_lead rules_of
