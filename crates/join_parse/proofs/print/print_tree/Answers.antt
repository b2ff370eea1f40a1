use Rattle.join_parse.proofs.Again.{prints-again}
use Rattle.join_parse.proofs.print.print_tree.Goals as goal

pub returns-clause-again : goal.returns-clause-again
returns-clause-again c =
    prints-again c.args.tree.now c.text_of.result c.text_of.ensures.text c.text_of.ensures.kept
