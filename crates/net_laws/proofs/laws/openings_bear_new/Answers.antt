use Rattle.net_laws.proofs.Opened.{openings_bear_new}
use Rattle.net_laws.proofs.laws.openings_bear_new.Goals as goal

pub returns : goal.returns
returns c = openings_bear_new
