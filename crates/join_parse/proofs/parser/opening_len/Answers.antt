use Rattle.std.proofs.Common.{◌∙◌, sym}
use Rattle.join_parse.proofs.Expansions.{opening-runs}
use Rattle.join_parse.proofs.Placed.{opening-spelled}
use Rattle.join_parse.proofs.parser.opening_len.Goals as goal

pub returns-then-says_second-clause-runs : goal.returns-then-says_second-clause-runs
returns-then-says_second-clause-runs c =
    opening-runs c.args.b c.args.tokens.now (c.requires.second ∙ sym c.if-says_second.ensures)
    (sym c.if-says_second.ensures)

pub returns-then-says_second-clause-spelled : goal.returns-then-says_second-clause-spelled
returns-then-says_second-clause-spelled c = opening-spelled c.args.tokens.now c.args.b.second
    (c.requires.second ∙ sym c.if-says_second.ensures) (sym c.if-says_second.ensures)
