use Rattle.net_core.proofs.Lending.{lent_sites_have_turns}
use Rattle.net_core.proofs.scheduling.lent_sites_have_turns.Goals as goal

pub returns : goal.returns
returns c = lent_sites_have_turns
