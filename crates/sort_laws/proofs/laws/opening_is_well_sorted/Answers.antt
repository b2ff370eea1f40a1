use Rattle.sort_laws.proofs.Opening.{opening_keeps}
use Rattle.sort_laws.proofs.laws.opening_is_well_sorted.Goals as goal

pub returns : goal.returns
returns c = opening_keeps
