use Rattle.net_laws.proofs.Opened.{tops_are_of_sites}
use Rattle.net_laws.proofs.laws.tops_are_of_sites.Goals as goal

pub returns : goal.returns
returns c = tops_are_of_sites
