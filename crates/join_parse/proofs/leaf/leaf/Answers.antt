use Rattle.std.proofs.Common.{◌+◌, ◌∷◌, ◌++◌, [], ◌∙◌, sym, ap, drop, arith}
use Rattle.std.proofs.lemmas.Result.{IfOk-weaker}
use Rattle.join_lex.specs.declared.token.Key.TheVariants as key
use Rattle.join_lex.specs.declared.token.Sign.TheVariants as sign
use Rattle.join_parse.specs.Begins.{AName, AnArg, AKey, ASign, Args, AProc, MoreProcs}
use Rattle.join_parse.specs.Terminals.{a_key, a_sign}
use Rattle.join_parse.specs.inside.Parsed.{AtMost, Reads, next_is_key, an_addition, a_comparison}
use Rattle.join_parse.proofs.Placed.{operation-spelled}
use Rattle.join_parse.proofs.Moves.{key-reads, exit-before, fails-before}
use Rattle.join_parse.proofs.Expansions.{proc-zero-at, proc-message, proc-halt, proc-go, proc-fail}
use Rattle.join_parse.proofs.Expansions.{proc-add, proc-same, proc-stops, both-true}
use Rattle.join_parse.proofs.leaf.leaf.Goals as goal

pub returns-then-is_zero_at-clause-reads : goal.returns-then-is_zero_at-clause-reads
returns-then-is_zero_at-clause-reads c =
    record {
      runs = λ stack h. proc-zero-at c.args.b c.args.tokens.now c.args.at stack
          (sym c.if-is_zero_at.ensures.is) (omega arith);
      further = omega arith;
      within = c.if-is_zero_at.ensures.within;
    }

pub returns-in_err-on-clause-fails : goal.returns-in_err-on-clause-fails
returns-in_err-on-clause-fails c =
    exit-before c.args.b (AtMost c.args.b.levels) c.args.tokens.now c.args.at (AProc ∷ [])
    (AtMost c.args.b.levels) c.args.at (AName ∷ ASign sign.ParenLeft ∷ Args ∷ [])
    (λ stack. MoreProcs ∷ stack)
    (λ stack h. proc-message c.args.b _ stack (sym c.if-is_name_at.ensures.is))
    (λ stack h. omega arith) c.from_residual.result _
    c.from_residual.ensures.1 c.in_err-on.ensures.fails

pub returns-then-is_name_at-clause-reads : goal.returns-then-is_name_at-clause-reads
returns-then-is_name_at-clause-reads c =
    record {
      runs = λ stack h. proc-message c.args.b _ stack (sym c.if-is_name_at.ensures.is)
          ∙ c.in_ok-on.ensures.reads.runs (MoreProcs ∷ stack) (omega arith);
      further = c.in_ok-on.ensures.reads.further;
      within = c.in_ok-on.ensures.reads.within;
    }

pub returns-in_err-upto-clause-fails : goal.returns-in_err-upto-clause-fails
returns-in_err-upto-clause-fails c =
    exit-before c.args.b (AtMost c.args.b.levels) c.args.tokens.now c.args.at (AProc ∷ [])
    (AtMost c.args.b.levels) (c.args.at + 1) (ASign sign.ParenLeft ∷ [])
    (λ stack. ASign sign.ParenRight ∷ MoreProcs ∷ stack)
    (λ stack h. proc-halt c.args.b _ stack (sym c.if-is_key_at.ensures.is)
    ∙ (key-reads c.args.b key.Halt c.args.tokens.now c.args.at (sym c.if-is_key_at.ensures.is)
    c.if-is_key_at.ensures.within).runs
    (ASign sign.ParenLeft ∷ ASign sign.ParenRight ∷ MoreProcs ∷ stack) (omega arith))
    (λ stack h. omega arith) c.from_residual-in_err-upto.result _
    c.from_residual-in_err-upto.ensures.1 c.in_err-upto.ensures.fails

pub returns-in_err-upto-2-clause-fails : goal.returns-in_err-upto-2-clause-fails
returns-in_err-upto-2-clause-fails c =
    exit-before c.args.b (AtMost c.args.b.levels) c.args.tokens.now c.args.at (AProc ∷ [])
    (AtMost c.args.b.levels) c.in_ok-upto.upto (ASign sign.ParenRight ∷ [])
    (λ stack. MoreProcs ∷ stack)
    (λ stack h. proc-halt c.args.b _ stack (sym c.if-is_key_at.ensures.is)
    ∙ (key-reads c.args.b key.Halt c.args.tokens.now c.args.at (sym c.if-is_key_at.ensures.is)
    c.if-is_key_at.ensures.within).runs
    (ASign sign.ParenLeft ∷ ASign sign.ParenRight ∷ MoreProcs ∷ stack) (omega arith)
    ∙ c.in_ok-upto.ensures.reads.runs (ASign sign.ParenRight ∷ MoreProcs ∷ stack) (omega arith))
    (λ stack h. omega arith) c.from_residual-in_err-upto-2.result _
    c.from_residual-in_err-upto-2.ensures.1 c.in_err-upto-2.ensures.fails

pub returns-then-is_key_at-clause-reads : goal.returns-then-is_key_at-clause-reads
returns-then-is_key_at-clause-reads c =
    record {
      runs = λ stack h. proc-halt c.args.b _ stack (sym c.if-is_key_at.ensures.is)
          ∙ (key-reads c.args.b key.Halt c.args.tokens.now c.args.at (sym c.if-is_key_at.ensures.is)
          c.if-is_key_at.ensures.within).runs
          (ASign sign.ParenLeft ∷ ASign sign.ParenRight ∷ MoreProcs ∷ stack) (omega arith)
          ∙ c.in_ok-upto.ensures.reads.runs (ASign sign.ParenRight ∷ MoreProcs ∷ stack)
          (omega arith) ∙ c.in_ok-upto-2.ensures.reads.runs (MoreProcs ∷ stack) (omega arith);
      further =
          omega (arith, c.in_ok-upto.ensures.reads.further, c.in_ok-upto-2.ensures.reads.further);
      within = c.in_ok-upto-2.ensures.reads.within;
    }

pub returns-in_err-target-clause-fails : goal.returns-in_err-target-clause-fails
returns-in_err-target-clause-fails c =
    exit-before c.args.b (AtMost c.args.b.levels) c.args.tokens.now c.args.at (AProc ∷ [])
    (AtMost c.args.b.levels) (c.args.at + 1)
    (ASign sign.ParenLeft ∷ AName ∷ ASign sign.Comma ∷ AName ∷ ASign sign.ParenRight ∷ [])
    (λ stack. MoreProcs ∷ stack)
    (λ stack h. proc-go c.args.b _ stack (sym c.if-is_key_at-2.ensures.is)
    ∙ (key-reads c.args.b key.Go c.args.tokens.now c.args.at (sym c.if-is_key_at-2.ensures.is)
    c.if-is_key_at-2.ensures.within).runs (ASign sign.ParenLeft ∷ AName ∷ ASign sign.Comma ∷ AName
    ∷ ASign sign.ParenRight ∷ MoreProcs ∷ stack) (omega arith))
    (λ stack h. omega arith) c.from_residual-in_err-target.result _
    c.from_residual-in_err-target.ensures.1 c.in_err-target.ensures.fails

pub returns-then-is_key_at-2-clause-reads : goal.returns-then-is_key_at-2-clause-reads
returns-then-is_key_at-2-clause-reads c =
    record {
      runs = λ stack h. proc-go c.args.b _ stack (sym c.if-is_key_at-2.ensures.is)
          ∙ (key-reads c.args.b key.Go c.args.tokens.now c.args.at (sym c.if-is_key_at-2.ensures.is)
          c.if-is_key_at-2.ensures.within).runs (ASign sign.ParenLeft ∷ AName ∷ ASign sign.Comma
          ∷ AName ∷ ASign sign.ParenRight ∷ MoreProcs ∷ stack) (omega arith)
          ∙ c.in_ok-target.ensures.reads.runs (MoreProcs ∷ stack) (omega arith);
      further = omega (arith, c.in_ok-target.ensures.reads.further);
      within = c.in_ok-target.ensures.reads.within;
    }

pub returns-in_err-target-2-clause-fails : goal.returns-in_err-target-2-clause-fails
returns-in_err-target-2-clause-fails c =
    exit-before c.args.b (AtMost c.args.b.levels) c.args.tokens.now c.args.at (AProc ∷ [])
    (AtMost c.args.b.levels) (c.args.at + 1)
    (ASign sign.ParenLeft ∷ AName ∷ ASign sign.Comma ∷ AName ∷ ASign sign.ParenRight ∷ [])
    (λ stack. MoreProcs ∷ stack)
    (λ stack h. proc-fail c.args.b _ stack (sym c.if-is_key_at-3.ensures.is)
    ∙ (key-reads c.args.b key.Fail c.args.tokens.now c.args.at (sym c.if-is_key_at-3.ensures.is)
    c.if-is_key_at-3.ensures.within).runs (ASign sign.ParenLeft ∷ AName ∷ ASign sign.Comma ∷ AName
    ∷ ASign sign.ParenRight ∷ MoreProcs ∷ stack) (omega arith))
    (λ stack h. omega arith) c.from_residual-in_err-target-2.result _
    c.from_residual-in_err-target-2.ensures.1 c.in_err-target-2.ensures.fails

pub returns-then-is_key_at-3-clause-reads : goal.returns-then-is_key_at-3-clause-reads
returns-then-is_key_at-3-clause-reads c =
    record {
      runs = λ stack h. proc-fail c.args.b _ stack (sym c.if-is_key_at-3.ensures.is)
          ∙ (key-reads c.args.b key.Fail c.args.tokens.now c.args.at
          (sym c.if-is_key_at-3.ensures.is) c.if-is_key_at-3.ensures.within).runs
          (ASign sign.ParenLeft ∷ AName ∷ ASign sign.Comma ∷ AName ∷ ASign sign.ParenRight
          ∷ MoreProcs ∷ stack) (omega arith)
          ∙ c.in_ok-target-2.ensures.reads.runs (MoreProcs ∷ stack) (omega arith);
      further = omega (arith, c.in_ok-target-2.ensures.reads.further);
      within = c.in_ok-target-2.ensures.reads.within;
    }

pub returns-clause-fails : goal.returns-clause-fails
returns-clause-fails c =
    rw c.refused.ensures (λ stack h. proc-stops c.args.b _ stack (sym c.if-is_zero_at.ensures.is)
    (sym c.if-is_name_at.ensures.is) c.requires.open (sym c.if-is_key_at.ensures.is)
    (sym c.if-is_key_at-2.ensures.is) (sym c.if-is_key_at-3.ensures.is)
    (sym c.if-is_operation_at.ensures.is) (sym c.if-is_operation_at-2.ensures.is) c.requires.other)

pub returns-then-is_zero_at-clause-spelled : goal.returns-then-is_zero_at-clause-spelled
returns-then-is_zero_at-clause-spelled c = rw c.zero.ensures (tt, c.if-is_zero_at.ensures.spelled)

pub returns-then-is_name_at-clause-spelled : goal.returns-then-is_name_at-clause-spelled
returns-then-is_name_at-clause-spelled c =
    rw c.msg.ensures ((c.in_ok-on.ensures.few, c.in_ok-on.ensures.of), c.in_ok-on.ensures.spelled)

pub returns-then-is_key_at-clause-spelled : goal.returns-then-is_key_at-clause-spelled
returns-then-is_key_at-clause-spelled c =
    rw c.halt.ensures (
      tt,
      c.if-is_key_at.ensures.spelled
          ∙ ap (λ r. a_key key.Halt ∷ r) (c.in_ok-upto.ensures.spelled
          ∙ ap (λ r. a_sign sign.ParenLeft ∷ r) c.in_ok-upto-2.ensures.spelled),
    )

pub returns-then-is_key_at-2-clause-spelled : goal.returns-then-is_key_at-2-clause-spelled
returns-then-is_key_at-2-clause-spelled c =
    rw c.go.ensures (
      tt,
      c.if-is_key_at-2.ensures.spelled ∙ ap (λ r. a_key key.Go ∷ r) c.in_ok-target.ensures.spelled,
    )

pub returns-then-is_key_at-3-clause-spelled : goal.returns-then-is_key_at-3-clause-spelled
returns-then-is_key_at-3-clause-spelled c =
    rw c.fail.ensures (
      tt,
      c.if-is_key_at-3.ensures.spelled
          ∙ ap (λ r. a_key key.Fail ∷ r) c.in_ok-target-2.ensures.spelled,
    )

pub returns-then-is_operation_at-clause-reads : goal.returns-then-is_operation_at-clause-reads
returns-then-is_operation_at-clause-reads c =
    let b = c.args.b in
    let ts = c.args.tokens.now in
    let is = both-true b.second (next_is_key key.Add (drop c.args.at ts))
    (sym c.if-is_operation_at.ensures.is) in
    IfOk-weaker c.addition.result
    (λ r. Reads b (AtMost b.levels) ts (c.args.at + 1) an_addition r.1 [])
    (λ r. Reads b (AtMost b.levels) ts c.args.at (AProc ∷ []) r.1 (MoreProcs ∷ []))
    (λ r q. record {
      runs = λ stack h. proc-add b _ stack (sym c.if-is_operation_at.ensures.is)
          ∙ (key-reads b key.Add ts c.args.at is.1 c.if-is_operation_at.ensures.within).runs
          (an_addition ++ MoreProcs ∷ stack) h ∙ q.runs (MoreProcs ∷ stack) h;
      further = omega (arith, q.further);
      within = q.within;
    }) c.addition.ensures.reads

pub returns-then-is_operation_at-clause-fails : goal.returns-then-is_operation_at-clause-fails
returns-then-is_operation_at-clause-fails c =
    let b = c.args.b in
    let ts = c.args.tokens.now in
    let is = both-true b.second (next_is_key key.Add (drop c.args.at ts))
    (sym c.if-is_operation_at.ensures.is) in
    fails-before b (AtMost b.levels) ts c.args.at (AProc ∷ []) (AtMost b.levels) (c.args.at + 1)
    an_addition (λ stack. MoreProcs ∷ stack)
    (λ stack h. proc-add b _ stack (sym c.if-is_operation_at.ensures.is)
    ∙ (key-reads b key.Add ts c.args.at is.1 c.if-is_operation_at.ensures.within).runs
    (an_addition ++ MoreProcs ∷ stack) h)
    (λ stack h. h) c.addition.result c.addition.ensures.fails

pub returns-then-is_operation_at-clause-spelled : goal.returns-then-is_operation_at-clause-spelled
returns-then-is_operation_at-clause-spelled c =
    operation-spelled c.args.b.second c.args.tokens.now c.args.at (a_key key.Add) c.addition.result
    c.if-is_operation_at.ensures.spelled c.addition.ensures.of c.addition.ensures.spelled

pub returns-then-is_operation_at-2-clause-reads : goal.returns-then-is_operation_at-2-clause-reads
returns-then-is_operation_at-2-clause-reads c =
    let b = c.args.b in
    let ts = c.args.tokens.now in
    let is = both-true b.second (next_is_key key.Same (drop c.args.at ts))
    (sym c.if-is_operation_at-2.ensures.is) in
    IfOk-weaker c.comparison.result
    (λ r. Reads b (AtMost b.levels) ts (c.args.at + 1) a_comparison r.1 [])
    (λ r. Reads b (AtMost b.levels) ts c.args.at (AProc ∷ []) r.1 (MoreProcs ∷ []))
    (λ r q. record {
      runs = λ stack h. proc-same b _ stack (sym c.if-is_operation_at-2.ensures.is)
          ∙ (key-reads b key.Same ts c.args.at is.1 c.if-is_operation_at-2.ensures.within).runs
          (a_comparison ++ MoreProcs ∷ stack) h ∙ q.runs (MoreProcs ∷ stack) h;
      further = omega (arith, q.further);
      within = q.within;
    }) c.comparison.ensures.reads

pub returns-then-is_operation_at-2-clause-fails : goal.returns-then-is_operation_at-2-clause-fails
returns-then-is_operation_at-2-clause-fails c =
    let b = c.args.b in
    let ts = c.args.tokens.now in
    let is = both-true b.second (next_is_key key.Same (drop c.args.at ts))
    (sym c.if-is_operation_at-2.ensures.is) in
    fails-before b (AtMost b.levels) ts c.args.at (AProc ∷ []) (AtMost b.levels) (c.args.at + 1)
    a_comparison (λ stack. MoreProcs ∷ stack)
    (λ stack h. proc-same b _ stack (sym c.if-is_operation_at-2.ensures.is)
    ∙ (key-reads b key.Same ts c.args.at is.1 c.if-is_operation_at-2.ensures.within).runs
    (a_comparison ++ MoreProcs ∷ stack) h)
    (λ stack h. h) c.comparison.result c.comparison.ensures.fails

pub returns-then-is_operation_at-2-clause-spelled :
    goal.returns-then-is_operation_at-2-clause-spelled
returns-then-is_operation_at-2-clause-spelled c =
    operation-spelled c.args.b.second c.args.tokens.now c.args.at (a_key key.Same)
    c.comparison.result c.if-is_operation_at-2.ensures.spelled c.comparison.ensures.of
    c.comparison.ensures.spelled
