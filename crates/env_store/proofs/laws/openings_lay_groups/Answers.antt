use Rattle.env_store.proofs.Tied.{openings_lay_groups}
use Rattle.env_store.proofs.laws.openings_lay_groups.Goals as goal

pub returns : goal.returns
returns c = openings_lay_groups
