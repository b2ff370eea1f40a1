use Rattle.std.proofs.Common.{◌∷◌, [], ◌∙◌, sym}
use Rattle.join_lex.specs.declared.token.Key.TheVariants as key
use Rattle.join_lex.specs.declared.token.Sign.TheVariants as sign
use Rattle.join_parse.specs.Begins.{AName, AKey, ASign, ACount, Program}
use Rattle.join_parse.specs.inside.Parsed.{AtMost}
use Rattle.join_parse.proofs.Moves.{exit-before}
use Rattle.join_parse.proofs.Expansions.{program-observe}
use Rattle.join_parse.proofs.Lists.{declarations-more, declarations-all}
use Rattle.join_parse.proofs.program.declarations.Goals as goal

pub returns-in_err-more-clause-fails : goal.returns-in_err-more-clause-fails
returns-in_err-more-clause-fails c =
    exit-before c.args.b (AtMost c.args.b.levels) c.args.tokens.now c.args.at (Program ∷ [])
    (AtMost c.args.b.levels) c.observed.end
    (AKey key.Observe ∷ AName ∷ ASign sign.Slash ∷ ACount ∷ ASign sign.Semicolon ∷ [])
    (λ stack. Program ∷ stack)
    (λ stack h. c.observed.invariant.runs stack h
    ∙ program-observe c.args.b _ stack (sym c.observed-test.ensures.is))
    (λ stack h. h) c.from_residual.result _ c.from_residual.ensures.1 c.in_err-more.ensures.fails

pub observed-preserved : goal.observed-preserved
observed-preserved c = rw c.in_ok-push.ensures.ok (record {
  runs = λ stack h. c.observed.invariant.runs stack h
      ∙ program-observe c.args.b _ stack (sym c.observed-test.ensures.is)
      ∙ c.in_ok-more.ensures.reads.runs (Program ∷ stack) h;
  within = c.in_ok-more.ensures.reads.within;
  listed = declarations-more c.args.tokens.now c.args.at _ _ _ _
      c.observed.invariant.listed c.in_ok-more.ensures.small c.in_ok-more.ensures.spelled;
})

pub returns-clause-small : goal.returns-clause-small
returns-clause-small c =
    (declarations-all c.args.tokens.now c.args.at _ _ c.observed.invariant.listed).0

pub returns-clause-spelled : goal.returns-clause-spelled
returns-clause-spelled c =
    (declarations-all c.args.tokens.now c.args.at _ _ c.observed.invariant.listed).1
