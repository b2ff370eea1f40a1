use Rattle.join_parse.proofs.Laws as law
use Rattle.join_parse.proofs.parser.beginnings.Goals as goal

pub returns-clause-completed : goal.returns-clause-completed
returns-clause-completed c = law.completed

pub returns-clause-prefix : goal.returns-clause-prefix
returns-clause-prefix c = law.prefixes
