-- The names that a run gives are locations and channels.
use Rattle.trace_history.proofs.GivenLaws.{only_made_names_have_binders}
use Rattle.trace_history.proofs.binders.only_made_names_have_binders.Goals as goal

pub returns : goal.returns
returns c = only_made_names_have_binders
