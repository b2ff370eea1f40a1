use Rattle.std.proofs.Common.{◌+◌, ◌∷◌, [], ◌∙◌, refl, sym, arith}
use Rattle.join_lex.specs.declared.token.Sign.TheVariants as sign
use Rattle.join_parse.specs.Begins.{AName, ASign, Names, MorePatterns}
use Rattle.join_parse.specs.inside.Parsed.{AtMost}
use Rattle.join_parse.proofs.Moves.{sign-reads, exit-before}
use Rattle.join_parse.proofs.Expansions.{more_patterns-bar, more_patterns-arrow}
use Rattle.join_parse.proofs.Lists.{patterns-first, patterns-more, patterns-all}
use Rattle.join_parse.proofs.names.patterns.Goals as goal

pub returns-in_err-first-clause-fails : goal.returns-in_err-first-clause-fails
returns-in_err-first-clause-fails c =
    exit-before c.args.b (AtMost c.args.b.levels) c.args.tokens.now c.args.at
    (AName ∷ ASign sign.ParenLeft ∷ Names ∷ MorePatterns ∷ []) (AtMost c.args.b.levels)
    c.args.at (AName ∷ ASign sign.ParenLeft ∷ Names ∷ []) (λ stack. MorePatterns ∷ stack)
    (λ stack h. refl) (λ stack h. h) c.from_residual.result _
    c.from_residual.ensures.1 c.in_err-first.ensures.fails

pub bars-init : goal.bars-init
bars-init c = rw (c.in_ok-push.ensures.ok, c.new-list.ensures) (record {
  reads = record {
    runs = λ stack h. c.in_ok-first.ensures.reads.runs (MorePatterns ∷ stack) h;
    further = c.in_ok-first.ensures.reads.further;
    within = c.in_ok-first.ensures.reads.within;
  };
  listed = patterns-first c.args.tokens.now _ _ _
      c.in_ok-first.ensures.few c.in_ok-first.ensures.spelled;
})

pub returns-in_err-more-clause-fails : goal.returns-in_err-more-clause-fails
returns-in_err-more-clause-fails c =
    exit-before c.args.b (AtMost c.args.b.levels) c.args.tokens.now c.args.at
    (AName ∷ ASign sign.ParenLeft ∷ Names ∷ MorePatterns ∷ []) (AtMost c.args.b.levels)
    (c.bars.end + 1) (AName ∷ ASign sign.ParenLeft ∷ Names ∷ []) (λ stack. MorePatterns ∷ stack)
    (λ stack h. c.bars.invariant.reads.runs stack h
    ∙ more_patterns-bar c.args.b _ stack (sym c.bars-test.ensures.is)
    ∙ (sign-reads c.args.b sign.Bar c.args.tokens.now c.bars.end (sym c.bars-test.ensures.is)
    c.bars-test.ensures.within).runs (AName ∷ ASign sign.ParenLeft ∷ Names ∷ MorePatterns ∷ stack)
    h)
    (λ stack h. h) c.from_residual-in_err-more.result _
    c.from_residual-in_err-more.ensures.1 c.in_err-more.ensures.fails

pub bars-preserved : goal.bars-preserved
bars-preserved c = rw c.in_ok-push-2.ensures.ok (record {
  reads = record {
    runs = λ stack h. c.bars.invariant.reads.runs stack h
        ∙ more_patterns-bar c.args.b _ stack (sym c.bars-test.ensures.is)
        ∙ (sign-reads c.args.b sign.Bar c.args.tokens.now c.bars.end (sym c.bars-test.ensures.is)
        c.bars-test.ensures.within).runs
        (AName ∷ ASign sign.ParenLeft ∷ Names ∷ MorePatterns ∷ stack) h
        ∙ c.in_ok-more.ensures.reads.runs (MorePatterns ∷ stack) h;
    further = omega (arith, c.bars.invariant.reads.further, c.in_ok-more.ensures.reads.further);
    within = c.in_ok-more.ensures.reads.within;
  };
  listed = patterns-more c.args.tokens.now _ _ _ _ _ _ c.bars.invariant.listed
      c.bars-test.ensures.spelled c.in_ok-more.ensures.few c.in_ok-more.ensures.spelled;
})

pub returns-in_err-end-clause-fails : goal.returns-in_err-end-clause-fails
returns-in_err-end-clause-fails c =
    exit-before c.args.b (AtMost c.args.b.levels)
    c.args.tokens.now c.args.at (AName ∷ ASign sign.ParenLeft ∷ Names ∷ MorePatterns ∷ [])
    (AtMost c.args.b.levels) c.bars.end (ASign sign.Arrow ∷ []) (λ stack. stack)
    (λ stack h. c.bars.invariant.reads.runs stack h
    ∙ more_patterns-arrow c.args.b _ stack (sym c.bars-test.ensures.is))
    (λ stack h. h) c.from_residual-in_err-end.result _
    c.from_residual-in_err-end.ensures.1 c.in_err-end.ensures.fails

pub returns-clause-reads : goal.returns-clause-reads
returns-clause-reads c = record {
  runs = λ stack h. c.bars.invariant.reads.runs stack h
      ∙ more_patterns-arrow c.args.b _ stack (sym c.bars-test.ensures.is)
      ∙ c.in_ok-end.ensures.reads.runs stack h;
  further = omega (arith, c.bars.invariant.reads.further, c.in_ok-end.ensures.reads.further);
  within = c.in_ok-end.ensures.reads.within;
}

pub returns-clause-some : goal.returns-clause-some
returns-clause-some c =
    (patterns-all c.args.tokens.now _ _ _ _ c.bars.invariant.listed c.in_ok-end.ensures.spelled).0

pub returns-clause-short : goal.returns-clause-short
returns-clause-short c =
    (patterns-all c.args.tokens.now _ _ _ _ c.bars.invariant.listed c.in_ok-end.ensures.spelled).1

pub returns-clause-spelled : goal.returns-clause-spelled
returns-clause-spelled c =
    (patterns-all c.args.tokens.now _ _ _ _ c.bars.invariant.listed c.in_ok-end.ensures.spelled).2
