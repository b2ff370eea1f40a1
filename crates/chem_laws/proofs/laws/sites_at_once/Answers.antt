use Rattle.chem_laws.proofs.Tied.{sites_at_once}
use Rattle.chem_laws.proofs.laws.sites_at_once.Goals as goal

pub returns : goal.returns
returns c = sites_at_once
