use Rattle.env_store.proofs.Tied.{opening_is_pouring}
use Rattle.env_store.proofs.laws.opening_is_pouring.Goals as goal

pub returns : goal.returns
returns c = opening_is_pouring
