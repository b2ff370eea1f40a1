use Rattle.std.proofs.Common.{◌≡◌, ◌≤◌, ◌<◌, ◌⊎◌, false, drop, inl, inr, ◌+◌, ◌∷◌, [], ◌∙◌, sym}
use Rattle.std.proofs.Common.{arith, length}
use Rattle.join_lex.specs.declared.token.Sign.TheVariants as sign
use Rattle.join_parse.specs.Begins.{AnArg, ASign, Args, MoreArgs}
use Rattle.join_parse.specs.inside.Parsed.{AtMost, next_is_sign}
use Rattle.join_parse.proofs.Moves.{sign-reads, exit-before}
use Rattle.join_parse.proofs.Expansions.{args-none, args-some, more_args-comma, more_args-close}
use Rattle.join_parse.proofs.Lists.{args-first, args-more, args-all, length-push}
use Rattle.join_parse.proofs.names.args.Goals as goal
use Rattle.join_parse.proofs.names.args.Goals.{then-commas-test+else-is_sign_at-2, else-commas-test}

pub returns-then-is_sign_at-clause-reads : goal.returns-then-is_sign_at-clause-reads
returns-then-is_sign_at-clause-reads c = record {
  runs = λ stack h. args-none c.args.b _ stack (sym c.if-is_sign_at.ensures.is)
      ∙ (sign-reads c.args.b sign.ParenRight c.args.tokens.now c.args.at
      (sym c.if-is_sign_at.ensures.is) c.if-is_sign_at.ensures.within).runs stack h;
  further = omega arith;
  within = c.if-is_sign_at.ensures.within;
}

pub returns-in_err-first-clause-fails : goal.returns-in_err-first-clause-fails
returns-in_err-first-clause-fails c =
    exit-before c.args.b (AtMost c.args.b.levels) c.args.tokens.now c.args.at (Args ∷ [])
    (AtMost c.args.b.levels) c.args.at (AnArg ∷ []) (λ stack. MoreArgs 1 ∷ stack)
    (λ stack h. args-some c.args.b _ stack (sym c.if-is_sign_at.ensures.is)) (λ stack h. h)
    c.from_residual.result _ c.from_residual.ensures.1 c.in_err-first.ensures.fails

pub commas-init : goal.commas-init
commas-init c = rw (c.in_ok-push.ensures.ok, c.new-list.ensures) (record {
  reads = record {
    runs = λ stack h. args-some c.args.b _ stack (sym c.if-is_sign_at.ensures.is)
        ∙ c.in_ok-first.ensures.reads.runs (MoreArgs 1 ∷ stack) h;
    further = c.in_ok-first.ensures.reads.further;
    within = c.in_ok-first.ensures.reads.within;
  };
  listed = args-first c.args.b.second c.args.tokens.now _ _ _
      c.in_ok-first.ensures.of c.in_ok-first.ensures.spelled;
  few = omega arith;
})

pub returns-in_err-more-clause-fails : goal.returns-in_err-more-clause-fails
returns-in_err-more-clause-fails c =
    exit-before c.args.b (AtMost c.args.b.levels) c.args.tokens.now c.args.at (Args ∷ [])
    (AtMost c.args.b.levels) (c.commas.end + 1) (AnArg ∷ [])
    (λ stack. MoreArgs (length c.commas.list + 1) ∷ stack)
    (λ stack h. c.commas.invariant.reads.runs stack h
    ∙ more_args-comma c.args.b _ _ stack (omega arith) (sym c.if-is_sign_at-2.ensures.is)
    ∙ (sign-reads c.args.b sign.Comma c.args.tokens.now c.commas.end
    (sym c.if-is_sign_at-2.ensures.is) c.if-is_sign_at-2.ensures.within).runs
    (AnArg ∷ MoreArgs (length c.commas.list + 1) ∷ stack) h)
    (λ stack h. h) c.from_residual-in_err-more.result _
    c.from_residual-in_err-more.ensures.1 c.in_err-more.ensures.fails

pub commas-preserved : goal.commas-preserved
commas-preserved c =
    let few : length c.commas.list < 255 = omega arith in
    rw (c.in_ok-push-2.ensures.ok, length-push c.commas.list c.in_ok-more.more) (record {
      reads = record {
        runs = λ stack h. c.commas.invariant.reads.runs stack h
            ∙ more_args-comma c.args.b _ _ stack few (sym c.if-is_sign_at-2.ensures.is)
            ∙ (sign-reads c.args.b sign.Comma c.args.tokens.now c.commas.end
            (sym c.if-is_sign_at-2.ensures.is) c.if-is_sign_at-2.ensures.within).runs
            (AnArg ∷ MoreArgs (length c.commas.list + 1) ∷ stack) h
            ∙ c.in_ok-more.ensures.reads.runs (MoreArgs (length c.commas.list + 1) ∷ stack) h;
        further =
            omega (arith, c.commas.invariant.reads.further, c.in_ok-more.ensures.reads.further);
        within = c.in_ok-more.ensures.reads.within;
      };
      listed = args-more c.args.b.second c.args.tokens.now _ _ _ _ _ _ c.commas.invariant.listed
          c.if-is_sign_at-2.ensures.spelled c.in_ok-more.ensures.of c.in_ok-more.ensures.spelled;
      few = omega arith;
    })

pub returns-in_err-end-clause-fails : goal.returns-in_err-end-clause-fails
returns-in_err-end-clause-fails c =
    let closes = elim c.commas-test.branch as (λ _.
    next_is_sign sign.Comma (drop c.commas.end c.args.tokens.now) ≡ false
    ⊎ 255 ≤ length c.commas.list) [
      | then-commas-test+else-is_sign_at-2 w ↦ inl (sym w.if-is_sign_at-2.ensures.is)
      | else-commas-test w ↦ inr (omega arith)
    ] in
    exit-before c.args.b (AtMost c.args.b.levels) c.args.tokens.now c.args.at (Args ∷ [])
    (AtMost c.args.b.levels) c.commas.end (ASign sign.ParenRight ∷ []) (λ stack. stack)
    (λ stack h. c.commas.invariant.reads.runs stack h ∙ more_args-close c.args.b _ _ stack closes)
    (λ stack h. h) c.from_residual-in_err-end.result _
    c.from_residual-in_err-end.ensures.1 c.in_err-end.ensures.fails

pub returns-clause-reads : goal.returns-clause-reads
returns-clause-reads c =
    let closes = elim c.commas-test.branch as (λ _.
    next_is_sign sign.Comma (drop c.commas.end c.args.tokens.now) ≡ false
    ⊎ 255 ≤ length c.commas.list) [
      | then-commas-test+else-is_sign_at-2 w ↦ inl (sym w.if-is_sign_at-2.ensures.is)
      | else-commas-test w ↦ inr (omega arith)
    ] in
    record {
      runs = λ stack h. c.commas.invariant.reads.runs stack h
          ∙ more_args-close c.args.b _ _ stack closes ∙ c.in_ok-end.ensures.reads.runs stack h;
      further = omega (arith, c.commas.invariant.reads.further, c.in_ok-end.ensures.reads.further);
      within = c.in_ok-end.ensures.reads.within;
    }

pub returns-clause-spelled : goal.returns-clause-spelled
returns-clause-spelled c = (args-all c.args.b.second c.args.tokens.now _ _ _ _
    c.commas.invariant.listed c.in_ok-end.ensures.spelled).1

pub returns-clause-of : goal.returns-clause-of
returns-clause-of c = (args-all c.args.b.second c.args.tokens.now _ _ _ _
    c.commas.invariant.listed c.in_ok-end.ensures.spelled).0
