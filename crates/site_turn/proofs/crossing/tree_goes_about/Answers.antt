-- What is owned names no thread, and nothing is left.
use Rattle.site_turn.proofs.crossing.tree_goes_about.Goals as goal

pub returns-clause-crosses : goal.returns-clause-crosses
returns-clause-crosses c = record { owned = c.crosses.ensures.owned; leaving = λ k d w. tt }
