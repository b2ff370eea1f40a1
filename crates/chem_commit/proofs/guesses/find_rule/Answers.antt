-- The rules of a sound solution differ.
use Rattle.chem_commit.proofs.Founds.{rules_differ}
use Rattle.chem_commit.proofs.guesses.find_rule.Goals as goal

pub guessed_rule-requires : goal.guessed_rule-requires
guessed_rule-requires c = rules_differ c.args.solution.now c.requires
