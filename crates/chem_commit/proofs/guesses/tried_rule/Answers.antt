-- The rule at this place has the number.
use Rattle.std.proofs.Common.{◌≡◌, true, rules}
use Rattle.chem_model.specs.Apply.{same_rule}
use Rattle.chem_commit.proofs.Founds.{found_rule_in}
use Rattle.chem_commit.proofs.guesses.tried_rule.Goals as goal

pub returns-then-same_rule : goal.returns-then-same_rule
returns-then-same_rule c =
    let same : same_rule c.in-Some.rule.now.id c.args.id ≡ true = search rules in
    found_rule_in c.args.rules.now c.as_slice.result.now c.as_slice.ensures.members c.requires
    c.args.index c.in-Some.rule.now c.args.id c.in-Some.ensures.lookup.3.0
    c.in-Some.ensures.lookup.1 same
