use Rattle.env_store.proofs.RuleGuards.{reacting_is_pouring}
use Rattle.env_store.proofs.laws.reacting_is_pouring.Goals as goal

pub returns : goal.returns
returns c = reacting_is_pouring
