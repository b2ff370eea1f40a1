use Rattle.reducer.proofs.Events.{reaction_is_event}
use Rattle.reducer.proofs.laws.reaction_is_one_event.Goals as goal

pub returns : goal.returns
returns c = reaction_is_event
