-- What is owned names no thread, and nothing is left.
use Rattle.site_turn.proofs.crossing.site_crosses.Goals as goal

pub returns : goal.returns
returns c = record { owned = c.crosses.ensures.owned; leaving = λ k d w. tt }
