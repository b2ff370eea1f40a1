use Rattle.env_store.proofs.Tied.{running_is_pouring}
use Rattle.env_store.proofs.laws.running_is_pouring.Goals as goal

pub returns : goal.returns
returns c = running_is_pouring
