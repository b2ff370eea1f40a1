use Rattle.std.proofs.Common.{◌++◌, ◌∙◌, ap, sym, append-nil}
use Rattle.join_lex.specs.Spelling.{version_at}
use Rattle.join_lex.proofs.StepLaws.{stepped, tokens_at-some, tokens_at-none}
use Rattle.join_lex.proofs.lexer.step.Goals as goal

pub returns-in_ok-push-clause-further : goal.returns-in_ok-push-clause-further
returns-in_ok-push-clause-further c =
    let scanned = rw c.split_at.ensures.back at c.in_ok-kind.ensures.scanned in
    let short = rw c.split_at.ensures.back at c.in_ok-kind.ensures.bound in
    stepped (version_at c.args.second) _ _ _ _ _ _ c.requires.within short scanned
    (c.in_ok-push.ensures.ok
    ∙ ap (λ ts. c.args.tokens.now ++ ts) (sym (tokens_at-some _ _ _ _ _ c.in-Some.is short)))

pub returns-in_default-clause-further : goal.returns-in_default-clause-further
returns-in_default-clause-further c =
    let scanned = rw c.split_at.ensures.back at c.in_ok-kind.ensures.scanned in
    let short = rw c.split_at.ensures.back at c.in_ok-kind.ensures.bound in
    stepped (version_at c.args.second) _ _ _ _ _ _ c.requires.within short scanned
    (rw (tokens_at-none _ _ _ _ c.in_default.is) (sym (append-nil c.args.tokens.now)))
