use Rattle.net_laws.proofs.Rounds.{lent_site_is_back}
use Rattle.net_laws.proofs.laws.lent_site_is_back.Goals as goal

pub returns : goal.returns
returns c = λ rules_of. lent_site_is_back rules_of
