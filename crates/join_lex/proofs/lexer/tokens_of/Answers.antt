use Rattle.std.proofs.Common.{arith, ap, ◌∙◌, ◌⊎◌, inl, inr, ◌≤◌, length, refl}
use Rattle.std.proofs.lemmas.Result.{err_from_is_err_and}
use Rattle.join_lex.specs.Spelling.{first_version, version_at}
use Rattle.join_lex.specs.Versions.{says_second}
use Rattle.join_lex.specs.Lexical.{too_long}
use Rattle.join_lex.proofs.StepLaws.{passed-step, stops-refused}
use Rattle.join_lex.proofs.TokenFacts.{are_tokens}
use Rattle.join_lex.proofs.VersionLaws.{versioned, early-fault, fault-in, settle, settled-step}
use Rattle.join_lex.proofs.VersionLaws.{one-longer}
use Rattle.join_lex.proofs.lexer.tokens_of.Goals.{then-first-test+else-len-lt3, else-first-test}
use Rattle.join_lex.proofs.lexer.tokens_of.Goals as goal

pub returns-then-bytes-gt-LIMIT-clause-fault : goal.returns-then-bytes-gt-LIMIT-clause-fault
returns-then-bytes-gt-LIMIT-clause-fault c =
    let v = versioned c.args.bytes.now in
    (too_long, refl, (v.0, v.1, (omega arith, refl)))

pub returns-in_err-place-clause-fault : goal.returns-in_err-place-clause-fault
returns-in_err-place-clause-fault c =
    let p = err_from_is_err_and c.from_residual.result c.from_residual.ensures.1 in
    rw (p.1, p.2)
    (early-fault _ _ _ _ (omega arith) (omega arith) c.first.invariant.0 (omega arith)
    c.in_err-place.ensures.fault)

pub first-preserved : goal.first-preserved
first-preserved c = (
  passed-step first_version _ _ _ _ _ c.first.invariant.0 c.in_ok-place.ensures.further,
  omega (
    arith,
    ap length c.in_ok-place.ensures.further.tokens,
    (one-longer c.first.place c.in_ok-place.ensures.further.piece c.first.list).1,
  ),
)

pub others-init : goal.others-init
others-init c = settle _ _ _ _ c.first.invariant.0 c.first.invariant.1 far
    (c.says_second-second.ensures ∙ ap says_second c.as_slice.ensures.members)
  where
    far : (3 ≤ length c.first.list) ⊎ (length c.args.bytes.now ≤ c.first.place)
    far = elim c.first-test.branch [
      | then-first-test+else-len-lt3 w ↦ inl (omega arith)
      | else-first-test w ↦ inr (omega arith)
    ]

pub returns-in_err-place-2-clause-fault : goal.returns-in_err-place-2-clause-fault
returns-in_err-place-2-clause-fault c =
    let p = err_from_is_err_and c.from_residual-in_err-place-2.result
    c.from_residual-in_err-place-2.ensures.1 in
    rw (p.1, p.2)
    (fault-in (version_at c.says_second-second.result) _ _ c.others.invariant.of
    (stops-refused (version_at c.says_second-second.result) _ _ _ _ (omega arith) (omega arith)
    c.others.invariant.passed c.in_err-place-2.ensures.fault))

pub others-preserved : goal.others-preserved
others-preserved c =
    settled-step _ _ _ _ _ _ (omega arith) c.others.invariant c.in_ok-place-2.ensures.further

pub invariant_of-result : goal.invariant_of-result
invariant_of-result c =
    let passed = rw (← c.others.invariant.says) at c.others.invariant.passed in
    are_tokens c.args.bytes.now _ _ (omega arith) (omega arith) passed
