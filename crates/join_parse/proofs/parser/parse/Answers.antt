use Rattle.join_lex.specs.Versions.{says_second}
use Rattle.join_parse.specs.Levels.{most_levels}
use Rattle.join_parse.proofs.Laws as law
use Rattle.join_parse.proofs.parser.parse.Goals as goal

pub returns-clause-reads : goal.returns-clause-reads
returns-clause-reads c =
    let second = says_second c.args.tokens.now.list in
    law.reads second (most_levels second) c.args.tokens.now.length c.args.tokens.now.list _
    c.tree_of.ensures.tree c.tree_of.ensures.fault

pub returns-clause-refuses : goal.returns-clause-refuses
returns-clause-refuses c =
    let second = says_second c.args.tokens.now.list in
    law.refuses second (most_levels second) c.args.tokens.now.length c.args.tokens.now.list _
    c.tree_of.ensures.tree c.tree_of.ensures.fault
