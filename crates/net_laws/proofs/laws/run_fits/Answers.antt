use Rattle.net_laws.proofs.ByCode.{run_fits}
use Rattle.net_laws.proofs.laws.run_fits.Goals as goal

pub returns : goal.returns
returns c = run_fits
