use Rattle.join_parse.proofs.Laws as law
use Rattle.join_parse.proofs.parser.one_level.Goals as goal

pub returns : goal.returns
returns c = law.one_level
