use Rattle.env_store.proofs.Tied.{reads_under_each}
use Rattle.env_store.proofs.laws.reads_under_each.Goals as goal

pub returns : goal.returns
returns c = reads_under_each
