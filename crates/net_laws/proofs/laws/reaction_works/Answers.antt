use Rattle.net_laws.proofs.ByCode.{reaction_works}
use Rattle.net_laws.proofs.laws.reaction_works.Goals as goal

pub returns : goal.returns
returns c = reaction_works
