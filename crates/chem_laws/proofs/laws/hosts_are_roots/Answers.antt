use Rattle.chem_laws.proofs.Hosts.{hosts_are_roots}
use Rattle.chem_laws.proofs.laws.hosts_are_roots.Goals as goal

pub returns : goal.returns
returns c = hosts_are_roots
