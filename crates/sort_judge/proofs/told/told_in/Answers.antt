-- A fault of the parser or of the checker is the refusal of the text.
use Rattle.std.proofs.Common.{rules}
use Rattle.text_program.proofs.Refusals.{by_tokens, by_tree}
use Rattle.sort_judge.proofs.told.told_in.Goals as goal

pub returns-in_err-tree-clause-refusal : goal.returns-in_err-tree-clause-refusal
returns-in_err-tree-clause-refusal c =
    let named = by_tokens c.args.text.now c.in_ok-tokens.tokens c.in_err-tree.field-0.0
    c.in_ok-tokens.ensures.tokens in
    search (rules, named)

pub returns-in_err-program-clause-refusal : goal.returns-in_err-program-clause-refusal
returns-in_err-program-clause-refusal c =
    let named = by_tree c.args.text.now c.in_ok-tokens.tokens c.in_ok-tree.tree
    c.in_err-program.field-0.0 c.in_ok-tokens.ensures.tokens c.in_ok-tree.ensures.tree in
    search (rules, named)

pub returns-clause-told : goal.returns-clause-told
returns-clause-told c = record {
  verdict = c.in_ok-verdict.verdict;
  is = record {
    program = c.in_ok-program.program;
    is_program = record {
      tokens = c.in_ok-tokens.tokens;
      tree = c.in_ok-tree.tree;
      are_tokens = c.in_ok-tokens.ensures.tokens;
      is_tree = c.in_ok-tree.ensures.tree;
      is_program = c.in_ok-program.ensures.program;
    };
    is = c.in_ok-verdict.ensures.verdict;
    keeps = c.in_ok-verdict.ensures.keeps;
  };
  told_is = c.in_ok-tell.ensures.text;
  status_is = c.in_ok-tell.ensures.status;
}
