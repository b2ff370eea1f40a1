use Rattle.net_laws.proofs.Choosing.{choices_can_be_made}
use Rattle.net_laws.proofs.laws.choices_can_be_made.Goals as goal

pub returns : goal.returns
returns c = λ rules_of. choices_can_be_made rules_of
