-- A fault of the parser or of the checker is the refusal of the text.
use Rattle.std.proofs.Common.{rules}
use Rattle.std.proofs.lemmas.Result.{IfErr-weaker}
use Rattle.scope_check.specs.Checked as scope
use Rattle.text_program.specs.inside.Text.{NamesRefusal}
use Rattle.text_program.proofs.Refusals.{by_tokens, by_tree}
use Rattle.text_program.proofs.text.program_of.Goals as goal

pub returns-in_err-tree-clause-refusal : goal.returns-in_err-tree-clause-refusal
returns-in_err-tree-clause-refusal c =
    let named = by_tokens c.args.text.now c.in_ok-tokens.tokens c.in_err-tree.field-0.0
    c.in_ok-tokens.ensures.tokens in
    search (rules, named)

pub returns-clause-refusal : goal.returns-clause-refusal
returns-clause-refusal c =
    IfErr-weaker c.check.result (scope.IsRefusedAs c.in_ok-tree.tree) (NamesRefusal c.args.text.now)
    (λ e h. by_tree c.args.text.now c.in_ok-tokens.tokens c.in_ok-tree.tree e
    c.in_ok-tokens.ensures.tokens c.in_ok-tree.ensures.tree h) c.check.ensures.fault
