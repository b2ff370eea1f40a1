use Rattle.net_laws.proofs.Play.{choices_replay}
use Rattle.net_laws.proofs.laws.choices_replay.Goals as goal

pub returns : goal.returns
returns c = λ rules_of. choices_replay rules_of
