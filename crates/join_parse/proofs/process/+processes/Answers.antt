use Rattle.std.proofs.Common.{◌+◌, ◌∷◌, [], ◌∙◌, true, false, refl, sym, ap, arith}
use Rattle.std.proofs.lemmas.Result.{IfOk-weaker}
use Rattle.join_lex.specs.declared.token.Key.TheVariants as key
use Rattle.join_lex.specs.declared.token.Sign.TheVariants as sign
use Rattle.join_parse.specs.Terminals.{a_key, a_sign, named}
use Rattle.join_parse.specs.Source.{processes, definitions}
use Rattle.join_parse.specs.Grammar.{patterns, of_processes, of_definitions}
use Rattle.join_parse.specs.Begins.{AName, AKey, ASign, CloseGroup, CloseSquare, EndDef, Body, Defs}
use Rattle.join_parse.specs.Begins.{MoreDefs, DefRest, MorePatterns, Names, AProc, MoreProcs}
use Rattle.join_parse.specs.inside.Parsed.{AtMost, Exactly, places, Reads}
use Rattle.join_parse.proofs.Moves.{key-reads, exit-before, fails-before}
use Rattle.join_parse.proofs.Expansions.{close-group, close-square, end-def, defs-void, defs-some}
use Rattle.join_parse.proofs.Expansions.{more_defs-and, more_defs-end, def-place-at, def-rule-at}
use Rattle.join_parse.proofs.Expansions.{body-opens-at, body-deep, body-stops, proc-zero-at}
use Rattle.join_parse.proofs.Expansions.{proc-message, proc-group-at, proc-group-deep, proc-halt}
use Rattle.join_parse.proofs.Expansions.{proc-go, proc-fail, proc-def-at, proc-def-deep, proc-stops}
use Rattle.join_parse.proofs.Expansions.{procs-bar-at, procs-end}
use Rattle.join_parse.proofs.Lists.{processes-more, processes-last, definitions-first}
use Rattle.join_parse.proofs.Lists.{definitions-more, definitions-all}
use Rattle.join_parse.proofs.process.+processes.Goals as goal

pub body-returns-then-not-is_sign_at-clause-fails :
    goal.body-returns-then-not-is_sign_at-clause-fails
body-returns-then-not-is_sign_at-clause-fails t c =
    rw c.refused.ensures
    (λ stack h. body-stops c.args.b c.args.within _ stack (sym c.if-not-is_sign_at.ensures.is))

pub body-returns-then-depth-b-clause-fails : goal.body-returns-then-depth-b-clause-fails
body-returns-then-depth-b-clause-fails t c =
    rw c.too_deep.ensures (λ stack h.
    body-deep c.args.b c.args.within _ stack (sym c.if-not-is_sign_at.ensures.is) (omega arith))

pub body-returns-in_err-defs-clause-fails : goal.body-returns-in_err-defs-clause-fails
body-returns-in_err-defs-clause-fails t c =
    exit-before c.args.b (Exactly c.args.depth) c.args.tokens.now c.args.at
    (Body c.args.within ∷ []) (Exactly (c.args.depth + 1)) (c.args.at + 1) (Defs c.args.within ∷ [])
    (λ stack. ASign sign.Colon ∷ AProc ∷ CloseSquare ∷ stack)
    (λ stack h. body-opens-at c.args.b c.args.within c.args.tokens.now c.args.at stack
    (sym c.if-not-is_sign_at.ensures.is) (omega arith))
    (λ stack h. omega arith) c.from_residual.result _
    c.from_residual.ensures.1 c.in_err-defs.ensures.fails

pub body-returns-in_err-upto-clause-fails : goal.body-returns-in_err-upto-clause-fails
body-returns-in_err-upto-clause-fails t c =
    exit-before c.args.b (Exactly c.args.depth)
    c.args.tokens.now c.args.at (Body c.args.within ∷ []) (AtMost c.args.b.levels)
    c.in_ok-defs.upto (ASign sign.Colon ∷ []) (λ stack. AProc ∷ CloseSquare ∷ stack)
    (λ stack h. body-opens-at c.args.b c.args.within c.args.tokens.now c.args.at stack
    (sym c.if-not-is_sign_at.ensures.is) (omega arith)
    ∙ c.in_ok-defs.ensures.reads.runs (ASign sign.Colon ∷ AProc ∷ CloseSquare ∷ stack)
    (omega arith))
    (λ stack h. omega arith) c.from_residual-in_err-upto.result _
    c.from_residual-in_err-upto.ensures.1 c.in_err-upto.ensures.fails

pub body-returns-in_err-body-clause-fails : goal.body-returns-in_err-body-clause-fails
body-returns-in_err-body-clause-fails t c =
    exit-before c.args.b (Exactly c.args.depth)
    c.args.tokens.now c.args.at (Body c.args.within ∷ []) (Exactly (c.args.depth + 1))
    c.in_ok-upto.upto (AProc ∷ []) (λ stack. CloseSquare ∷ stack)
    (λ stack h. body-opens-at c.args.b c.args.within c.args.tokens.now c.args.at stack
    (sym c.if-not-is_sign_at.ensures.is) (omega arith)
    ∙ c.in_ok-defs.ensures.reads.runs (ASign sign.Colon ∷ AProc ∷ CloseSquare ∷ stack) (omega arith)
    ∙ c.in_ok-upto.ensures.reads.runs (AProc ∷ CloseSquare ∷ stack) (omega arith))
    (λ stack h. omega arith) c.from_residual-in_err-body.result _
    c.from_residual-in_err-body.ensures.1 c.in_err-body.ensures.fails

pub body-returns-in_err-upto-2-clause-fails : goal.body-returns-in_err-upto-2-clause-fails
body-returns-in_err-upto-2-clause-fails t c =
    exit-before c.args.b (Exactly c.args.depth)
    c.args.tokens.now c.args.at (Body c.args.within ∷ []) (AtMost c.args.b.levels)
    c.in_ok-body.upto (ASign sign.SquareRight ∷ []) (λ stack. stack)
    (λ stack h. body-opens-at c.args.b c.args.within c.args.tokens.now c.args.at stack
    (sym c.if-not-is_sign_at.ensures.is) (omega arith)
    ∙ c.in_ok-defs.ensures.reads.runs (ASign sign.Colon ∷ AProc ∷ CloseSquare ∷ stack) (omega arith)
    ∙ c.in_ok-upto.ensures.reads.runs (AProc ∷ CloseSquare ∷ stack) (omega arith)
    ∙ c.in_ok-body.ensures.reads.runs (CloseSquare ∷ stack) (omega arith)
    ∙ close-square c.args.b _ stack)
    (λ stack h. omega arith) c.from_residual-in_err-upto-2.result _
    c.from_residual-in_err-upto-2.ensures.1 c.in_err-upto-2.ensures.fails

pub body-returns-clause-reads : goal.body-returns-clause-reads
body-returns-clause-reads t c =
    record {
      runs = λ stack h. body-opens-at c.args.b c.args.within c.args.tokens.now c.args.at stack
          (sym c.if-not-is_sign_at.ensures.is) (omega arith)
          ∙ c.in_ok-defs.ensures.reads.runs (ASign sign.Colon ∷ AProc ∷ CloseSquare ∷ stack)
          (omega arith)
          ∙ c.in_ok-upto.ensures.reads.runs (AProc ∷ CloseSquare ∷ stack) (omega arith)
          ∙ c.in_ok-body.ensures.reads.runs (CloseSquare ∷ stack) (omega arith)
          ∙ close-square c.args.b _ stack ∙ c.in_ok-upto-2.ensures.reads.runs stack (omega arith);
      further = omega (
        arith,
        c.in_ok-defs.ensures.reads.further,
        c.in_ok-upto.ensures.reads.further,
        c.in_ok-body.ensures.reads.further,
        c.in_ok-upto-2.ensures.reads.further,
      );
      within = c.in_ok-upto-2.ensures.reads.within;
    }

pub def_in-returns-then-depth-b-clause-fails : goal.def_in-returns-then-depth-b-clause-fails
def_in-returns-then-depth-b-clause-fails t c =
    rw c.too_deep.ensures (λ stack h. proc-def-deep c.args.b _ stack c.requires.def (omega arith))

pub def_in-returns-in_err-defs-clause-fails : goal.def_in-returns-in_err-defs-clause-fails
def_in-returns-in_err-defs-clause-fails t c =
    exit-before c.args.b (Exactly c.args.depth) c.args.tokens.now c.args.at (AProc ∷ [])
    (Exactly (c.args.depth + 1)) (c.args.at + 1) (Defs false ∷ [])
    (λ stack. AKey key.Inside ∷ AProc ∷ EndDef ∷ stack)
    (λ stack h. proc-def-at c.args.b c.args.tokens.now c.args.at stack c.requires.def (omega arith))
    (λ stack h. omega arith) c.from_residual.result _
    c.from_residual.ensures.1 c.in_err-defs.ensures.fails

pub def_in-returns-in_err-upto-clause-fails : goal.def_in-returns-in_err-upto-clause-fails
def_in-returns-in_err-upto-clause-fails t c =
    exit-before c.args.b (Exactly c.args.depth) c.args.tokens.now c.args.at (AProc ∷ [])
    (AtMost c.args.b.levels) c.in_ok-defs.upto (AKey key.Inside ∷ [])
    (λ stack. AProc ∷ EndDef ∷ stack)
    (λ stack h. proc-def-at c.args.b c.args.tokens.now c.args.at stack c.requires.def (omega arith)
    ∙ c.in_ok-defs.ensures.reads.runs (AKey key.Inside ∷ AProc ∷ EndDef ∷ stack) (omega arith))
    (λ stack h. omega arith) c.from_residual-in_err-upto.result _
    c.from_residual-in_err-upto.ensures.1 c.in_err-upto.ensures.fails

pub def_in-returns-in_err-body-clause-fails : goal.def_in-returns-in_err-body-clause-fails
def_in-returns-in_err-body-clause-fails t c =
    exit-before c.args.b (Exactly c.args.depth) c.args.tokens.now c.args.at (AProc ∷ [])
    (Exactly (c.args.depth + 1)) c.in_ok-upto.upto (AProc ∷ []) (λ stack. EndDef ∷ stack)
    (λ stack h. proc-def-at c.args.b c.args.tokens.now c.args.at stack c.requires.def (omega arith)
    ∙ c.in_ok-defs.ensures.reads.runs (AKey key.Inside ∷ AProc ∷ EndDef ∷ stack) (omega arith)
    ∙ c.in_ok-upto.ensures.reads.runs (AProc ∷ EndDef ∷ stack) (omega arith))
    (λ stack h. omega arith) c.from_residual-in_err-body.result _
    c.from_residual-in_err-body.ensures.1 c.in_err-body.ensures.fails

pub def_in-returns-clause-reads : goal.def_in-returns-clause-reads
def_in-returns-clause-reads t c =
    record {
      runs = λ stack h.
          proc-def-at c.args.b c.args.tokens.now c.args.at stack c.requires.def (omega arith)
          ∙ c.in_ok-defs.ensures.reads.runs (AKey key.Inside ∷ AProc ∷ EndDef ∷ stack) (omega arith)
          ∙ c.in_ok-upto.ensures.reads.runs (AProc ∷ EndDef ∷ stack) (omega arith)
          ∙ c.in_ok-body.ensures.reads.runs (EndDef ∷ stack) (omega arith)
          ∙ end-def c.args.b _ stack;
      further = omega (
        arith,
        c.in_ok-defs.ensures.reads.further,
        c.in_ok-upto.ensures.reads.further,
        c.in_ok-body.ensures.reads.further,
      );
      within = c.in_ok-body.ensures.reads.within;
    }

pub definition-returns-then-is_place-clause-reads :
    goal.definition-returns-then-is_place-clause-reads
definition-returns-then-is_place-clause-reads t c =
    IfOk-weaker c.place.result (λ r. Reads c.args.b (Exactly c.args.depth)
    c.args.tokens.now c.args.at (AName ∷ Body true ∷ []) r.1 [])
    (λ r. Reads c.args.b (Exactly c.args.depth)
    c.args.tokens.now c.args.at (AName ∷ DefRest c.args.within ∷ []) r.1 [])
    (λ r q. record {
      runs = λ stack h. def-place-at c.args.b c.args.within c.args.tokens.now c.args.at stack
          (sym c.if-is_place.ensures) ∙ q.runs stack h;
      further = q.further;
      within = q.within;
    }) c.place.ensures.reads

pub definition-returns-then-is_place-clause-fails :
    goal.definition-returns-then-is_place-clause-fails
definition-returns-then-is_place-clause-fails t c =
    fails-before c.args.b (Exactly c.args.depth)
    c.args.tokens.now c.args.at (AName ∷ DefRest c.args.within ∷ []) (Exactly c.args.depth)
    c.args.at (AName ∷ Body true ∷ []) (λ stack. stack)
    (λ stack h. def-place-at c.args.b c.args.within c.args.tokens.now c.args.at stack
    (sym c.if-is_place.ensures)) (λ stack h. h) c.place.result c.place.ensures.fails

pub definition-returns-clause-reads : goal.definition-returns-clause-reads
definition-returns-clause-reads t c =
    IfOk-weaker c.rule.result (λ r. Reads c.args.b (Exactly c.args.depth) c.args.tokens.now
    c.args.at (AName ∷ ASign sign.ParenLeft ∷ Names ∷ MorePatterns ∷ AProc ∷ []) r.1 [])
    (λ r. Reads c.args.b (Exactly c.args.depth)
    c.args.tokens.now c.args.at (AName ∷ DefRest c.args.within ∷ []) r.1 [])
    (λ r q. record {
      runs = λ stack h. def-rule-at c.args.b c.args.within c.args.tokens.now c.args.at stack
          (sym c.if-is_place.ensures) ∙ q.runs stack h;
      further = q.further;
      within = q.within;
    }) c.rule.ensures.reads

pub definition-returns-clause-fails : goal.definition-returns-clause-fails
definition-returns-clause-fails t c =
    fails-before c.args.b (Exactly c.args.depth)
    c.args.tokens.now c.args.at (AName ∷ DefRest c.args.within ∷ []) (Exactly c.args.depth)
    c.args.at (AName ∷ ASign sign.ParenLeft ∷ Names ∷ MorePatterns ∷ AProc ∷ []) (λ stack. stack)
    (λ stack h. def-rule-at c.args.b c.args.within c.args.tokens.now c.args.at stack
    (sym c.if-is_place.ensures)) (λ stack h. h) c.rule.result c.rule.ensures.fails

pub definitions-returns-then-is_key_at-clause-reads :
    goal.definitions-returns-then-is_key_at-clause-reads
definitions-returns-then-is_key_at-clause-reads t c =
    record {
      runs = λ stack h. defs-void c.args.b c.args.within _ stack (sym c.if-is_key_at.ensures.is)
          ∙ (key-reads c.args.b key.Void c.args.tokens.now c.args.at (sym c.if-is_key_at.ensures.is)
          c.if-is_key_at.ensures.within).runs stack (omega arith);
      further = omega arith;
      within = c.if-is_key_at.ensures.within;
    }

pub definitions-returns-in_err-first-clause-fails :
    goal.definitions-returns-in_err-first-clause-fails
definitions-returns-in_err-first-clause-fails t c =
    exit-before c.args.b (Exactly c.args.depth)
    c.args.tokens.now c.args.at (Defs c.args.within ∷ []) (Exactly c.args.depth)
    c.args.at (AName ∷ DefRest c.args.within ∷ []) (λ stack. MoreDefs c.args.within ∷ stack)
    (λ stack h. defs-some c.args.b c.args.within _ stack (sym c.if-is_key_at.ensures.is))
    (λ stack h. h) c.from_residual.result _ c.from_residual.ensures.1 c.in_err-first.ensures.fails

pub definitions-ands-init : goal.definitions-ands-init
definitions-ands-init t c =
    rw (c.in_ok-push.ensures.ok, c.new-list.ensures) (record {
      reads = record {
        runs = λ stack h. defs-some c.args.b c.args.within _ stack (sym c.if-is_key_at.ensures.is)
            ∙ c.in_ok-first.ensures.reads.runs (MoreDefs c.args.within ∷ stack) h;
        further = c.in_ok-first.ensures.reads.further;
        within = c.in_ok-first.ensures.reads.within;
      };
      listed = definitions-first c.args.b.second c.args.tokens.now c.args.at c.in_ok-first.upto
          c.args.within c.in_ok-first.first c.in_ok-first.ensures.spelled;
    })

pub definitions-returns-in_err-more-clause-fails : goal.definitions-returns-in_err-more-clause-fails
definitions-returns-in_err-more-clause-fails t c =
    exit-before c.args.b (Exactly c.args.depth)
    c.args.tokens.now c.args.at (Defs c.args.within ∷ []) (Exactly c.args.depth) (c.ands.end + 1)
    (AName ∷ DefRest c.args.within ∷ []) (λ stack. MoreDefs c.args.within ∷ stack)
    (λ stack h. c.ands.invariant.reads.runs stack h
    ∙ more_defs-and c.args.b c.args.within _ stack (sym c.ands-test.ensures.is)
    ∙ (key-reads c.args.b key.And c.args.tokens.now c.ands.end (sym c.ands-test.ensures.is)
    c.ands-test.ensures.within).runs
    (AName ∷ DefRest c.args.within ∷ MoreDefs c.args.within ∷ stack) (omega arith))
    (λ stack h. h) c.from_residual-in_err-more.result _
    c.from_residual-in_err-more.ensures.1 c.in_err-more.ensures.fails

pub definitions-ands-preserved : goal.definitions-ands-preserved
definitions-ands-preserved t c =
    rw c.in_ok-push-2.ensures.ok (record {
      reads = record {
        runs = λ stack h. c.ands.invariant.reads.runs stack h
            ∙ more_defs-and c.args.b c.args.within _ stack (sym c.ands-test.ensures.is)
            ∙ (key-reads c.args.b key.And c.args.tokens.now c.ands.end (sym c.ands-test.ensures.is)
            c.ands-test.ensures.within).runs
            (AName ∷ DefRest c.args.within ∷ MoreDefs c.args.within ∷ stack) (omega arith)
            ∙ c.in_ok-more.ensures.reads.runs (MoreDefs c.args.within ∷ stack) h;
        further = omega (arith, c.ands.invariant.reads.further, c.in_ok-more.ensures.reads.further);
        within = c.in_ok-more.ensures.reads.within;
      };
      listed =
          definitions-more c.args.b.second c.args.tokens.now c.args.at c.ands.end (c.ands.end + 1)
          c.in_ok-more.upto c.args.within c.ands.list c.in_ok-more.more c.ands.invariant.listed
          c.ands-test.ensures.spelled c.in_ok-more.ensures.spelled;
    })

pub definitions-returns-clause-reads : goal.definitions-returns-clause-reads
definitions-returns-clause-reads t c =
    record {
      runs = λ stack h. c.ands.invariant.reads.runs stack h
          ∙ more_defs-end c.args.b c.args.within _ stack (sym c.ands-test.ensures.is);
      further = c.ands.invariant.reads.further;
      within = c.ands.invariant.reads.within;
    }

pub definitions-returns-clause-spelled : goal.definitions-returns-clause-spelled
definitions-returns-clause-spelled t c =
    definitions-all c.args.b.second c.args.tokens.now c.args.at c.ands.end c.args.within c.ands.list
    c.ands.invariant.listed

pub group-returns-then-depth-b-clause-fails : goal.group-returns-then-depth-b-clause-fails
group-returns-then-depth-b-clause-fails t c =
    rw c.too_deep.ensures
    (λ stack h. proc-group-deep c.args.b _ stack c.requires.paren (omega arith))

pub group-returns-in_err-members-clause-fails : goal.group-returns-in_err-members-clause-fails
group-returns-in_err-members-clause-fails t c =
    exit-before c.args.b (Exactly c.args.depth) c.args.tokens.now c.args.at (AProc ∷ [])
    (Exactly (c.args.depth + 1)) (c.args.at + 1) (AProc ∷ [])
    (λ stack. CloseGroup ∷ MoreProcs ∷ stack)
    (λ stack h.
    proc-group-at c.args.b c.args.tokens.now c.args.at stack c.requires.paren (omega arith))
    (λ stack h. omega arith) c.from_residual.result _
    c.from_residual.ensures.1 c.in_err-members.ensures.fails

pub group-returns-in_err-upto-clause-fails : goal.group-returns-in_err-upto-clause-fails
group-returns-in_err-upto-clause-fails t c =
    exit-before c.args.b (Exactly c.args.depth) c.args.tokens.now c.args.at (AProc ∷ [])
    (AtMost c.args.b.levels) c.in_ok-members.upto (ASign sign.ParenRight ∷ [])
    (λ stack. MoreProcs ∷ stack)
    (λ stack h.
    proc-group-at c.args.b c.args.tokens.now c.args.at stack c.requires.paren (omega arith)
    ∙ c.in_ok-members.ensures.reads.runs (CloseGroup ∷ MoreProcs ∷ stack) (omega arith)
    ∙ close-group c.args.b _ (MoreProcs ∷ stack))
    (λ stack h. omega arith) c.from_residual-in_err-upto.result _
    c.from_residual-in_err-upto.ensures.1 c.in_err-upto.ensures.fails

pub group-returns-clause-reads : goal.group-returns-clause-reads
group-returns-clause-reads t c =
    record {
      runs = λ stack h.
          proc-group-at c.args.b c.args.tokens.now c.args.at stack c.requires.paren (omega arith)
          ∙ c.in_ok-members.ensures.reads.runs (CloseGroup ∷ MoreProcs ∷ stack) (omega arith)
          ∙ close-group c.args.b _ (MoreProcs ∷ stack)
          ∙ c.in_ok-upto.ensures.reads.runs (MoreProcs ∷ stack) (omega arith);
      further =
          omega (arith, c.in_ok-members.ensures.reads.further, c.in_ok-upto.ensures.reads.further);
      within = c.in_ok-upto.ensures.reads.within;
    }

pub processes-returns-then-not-is_sign_at-clause-reads :
    goal.processes-returns-then-not-is_sign_at-clause-reads
processes-returns-then-not-is_sign_at-clause-reads t c =
    record {
      runs = λ stack h. c.members.invariant.runs stack h ∙ c.in_ok-member.ensures.reads.runs stack h
          ∙ procs-end c.args.b _ stack (sym c.if-not-is_sign_at.ensures.is);
      further = omega (arith, c.members.invariant.from, c.in_ok-member.ensures.reads.further);
      within = c.in_ok-member.ensures.reads.within;
    }

pub processes-returns-then-not-is_sign_at-clause-spelled :
    goal.processes-returns-then-not-is_sign_at-clause-spelled
processes-returns-then-not-is_sign_at-clause-spelled t c =
    rw c.in_ok-push.ensures.ok
    (processes-last c.args.b.second c.args.tokens.now c.args.at c.members.end c.in_ok-member.upto
    c.members.list c.in_ok-member.member c.members.invariant.listed c.in_ok-member.ensures.spelled)

pub processes-members-preserved : goal.processes-members-preserved
processes-members-preserved t c =
    rw c.in_ok-push.ensures.ok (record {
      runs = λ stack h. c.members.invariant.runs stack h ∙ c.in_ok-member.ensures.reads.runs stack h
          ∙ procs-bar-at c.args.b c.args.tokens.now c.in_ok-member.upto stack
          (sym c.if-not-is_sign_at.ensures.is) (omega arith);
      from = omega (arith, c.members.invariant.from, c.in_ok-member.ensures.reads.further);
      listed = processes-more c.args.b.second c.args.tokens.now c.args.at c.members.end
          c.in_ok-member.upto (c.in_ok-member.upto + 1) c.members.list c.in_ok-member.member
          c.members.invariant.listed c.in_ok-member.ensures.simple c.in_ok-member.ensures.spelled
          c.if-not-is_sign_at.ensures.spelled;
    })

pub processes-returns-clause-spelled : goal.processes-returns-clause-spelled
processes-returns-clause-spelled t c =
    rw c.in_ok-push-2.ensures.ok
    (processes-last c.args.b.second c.args.tokens.now c.args.at c.members.end c.in_ok-last.upto
    c.members.list c.in_ok-last.last c.members.invariant.listed c.in_ok-last.ensures.spelled)

pub body-returns-clause-spelled : goal.body-returns-clause-spelled
body-returns-clause-spelled t c = (
  c.in_ok-defs.ensures.spelled.0,
  c.in_ok-body.ensures.spelled.0,
  c.if-not-is_sign_at.ensures.spelled
      ∙ ap (λ r. a_sign sign.SquareLeft ∷ r) (c.in_ok-defs.ensures.spelled.1
      ∙ ap (of_definitions (places c.args.tokens.now) (definitions c.in_ok-defs.defs))
      (c.in_ok-upto.ensures.spelled
      ∙ ap (λ r. a_sign sign.Colon ∷ r) (c.in_ok-body.ensures.spelled.1
      ∙ ap (of_processes (places c.args.tokens.now) (processes c.in_ok-body.body))
      c.in_ok-upto-2.ensures.spelled))),
)

pub def_in-returns-clause-spelled : goal.def_in-returns-clause-spelled
def_in-returns-clause-spelled t c =
    rw c.def.ensures (
      (c.in_ok-defs.ensures.spelled.0, c.in_ok-body.ensures.spelled.0),
      c.requires.spelled
          ∙ ap (λ r. a_key key.Def ∷ r) (c.in_ok-defs.ensures.spelled.1
          ∙ ap (of_definitions (places c.args.tokens.now) (definitions c.in_ok-defs.defs))
          (c.in_ok-upto.ensures.spelled
          ∙ ap (λ r. a_key key.Inside ∷ r) c.in_ok-body.ensures.spelled.1)),
    )

pub group-returns-clause-spelled : goal.group-returns-clause-spelled
group-returns-clause-spelled t c =
    rw c.group.ensures (
      c.in_ok-members.ensures.spelled.0,
      c.requires.spelled
          ∙ ap (λ r. a_sign sign.ParenLeft ∷ r) (c.in_ok-members.ensures.spelled.1
          ∙ ap (of_processes (places c.args.tokens.now) (processes c.in_ok-members.members))
          c.in_ok-upto.ensures.spelled),
    )

pub rule-returns-in_err-pats-clause-fails : goal.rule-returns-in_err-pats-clause-fails
rule-returns-in_err-pats-clause-fails t c =
    exit-before c.args.b (Exactly c.args.depth) c.args.tokens.now c.args.at
    (AName ∷ ASign sign.ParenLeft ∷ Names ∷ MorePatterns ∷ AProc ∷ []) (AtMost c.args.b.levels)
    c.args.at (AName ∷ ASign sign.ParenLeft ∷ Names ∷ MorePatterns ∷ []) (λ stack. AProc ∷ stack)
    (λ stack h. refl) (λ stack h. omega arith) c.from_residual.result _
    c.from_residual.ensures.1 c.in_err-pats.ensures.fails

pub rule-returns-in_err-body-clause-fails : goal.rule-returns-in_err-body-clause-fails
rule-returns-in_err-body-clause-fails t c =
    exit-before c.args.b (Exactly c.args.depth)
    c.args.tokens.now c.args.at (AName ∷ ASign sign.ParenLeft ∷ Names ∷ MorePatterns ∷ AProc ∷ [])
    (Exactly c.args.depth) c.in_ok-pats.upto (AProc ∷ []) (λ stack. stack)
    (λ stack h. c.in_ok-pats.ensures.reads.runs (AProc ∷ stack) (omega arith)) (λ stack h. h)
    c.from_residual-in_err-body.result _
    c.from_residual-in_err-body.ensures.1 c.in_err-body.ensures.fails

pub rule-returns-clause-reads : goal.rule-returns-clause-reads
rule-returns-clause-reads t c =
    record {
      runs = λ stack h. c.in_ok-pats.ensures.reads.runs (AProc ∷ stack) (omega arith)
          ∙ c.in_ok-body.ensures.reads.runs stack h;
      further =
          omega (arith, c.in_ok-pats.ensures.reads.further, c.in_ok-body.ensures.reads.further);
      within = c.in_ok-body.ensures.reads.within;
    }

pub rule-returns-clause-spelled : goal.rule-returns-clause-spelled
rule-returns-clause-spelled t c =
    rw c.rule.ensures (
      (c.in_ok-pats.ensures.some, c.in_ok-pats.ensures.short, c.in_ok-body.ensures.spelled.0),
      c.in_ok-pats.ensures.spelled ∙ ap (patterns c.in_ok-pats.pats) c.in_ok-body.ensures.spelled.1,
    )

pub rule-returns-clause-spelled_within : goal.rule-returns-clause-spelled_within
rule-returns-clause-spelled_within t c =
    rw c.rule.ensures (
      (c.in_ok-pats.ensures.some, c.in_ok-pats.ensures.short, c.in_ok-body.ensures.spelled.0),
      c.in_ok-pats.ensures.spelled ∙ ap (patterns c.in_ok-pats.pats) c.in_ok-body.ensures.spelled.1,
    )

pub place-returns-in_err-name-clause-fails : goal.place-returns-in_err-name-clause-fails
place-returns-in_err-name-clause-fails t c =
    exit-before c.args.b (Exactly c.args.depth) c.args.tokens.now c.args.at (AName ∷ Body true ∷ [])
    (AtMost c.args.b.levels) c.args.at (AName ∷ []) (λ stack. Body true ∷ stack)
    (λ stack h. refl) (λ stack h. omega arith) c.from_residual.result _
    c.from_residual.ensures.1 c.in_err-name.ensures.fails

pub place-returns-in_err-defs-clause-fails : goal.place-returns-in_err-defs-clause-fails
place-returns-in_err-defs-clause-fails t c =
    exit-before c.args.b (Exactly c.args.depth) c.args.tokens.now c.args.at (AName ∷ Body true ∷ [])
    (Exactly c.args.depth) c.in_ok-name.upto (Body true ∷ []) (λ stack. stack)
    (λ stack h. c.in_ok-name.ensures.reads.runs (Body true ∷ stack) (omega arith)) (λ stack h. h)
    c.from_residual-in_err-defs.result _
    c.from_residual-in_err-defs.ensures.1 c.in_err-defs.ensures.fails

pub place-returns-clause-reads : goal.place-returns-clause-reads
place-returns-clause-reads t c =
    record {
      runs = λ stack h. c.in_ok-name.ensures.reads.runs (Body true ∷ stack) (omega arith)
          ∙ c.in_ok-defs.ensures.reads.runs stack h;
      further =
          omega (arith, c.in_ok-name.ensures.reads.further, c.in_ok-defs.ensures.reads.further);
      within = c.in_ok-defs.ensures.reads.within;
    }

pub place-returns-clause-spelled : goal.place-returns-clause-spelled
place-returns-clause-spelled t c =
    rw c.place.ensures (
      (refl, c.in_ok-defs.ensures.spelled.0, c.in_ok-defs.ensures.spelled.1),
      c.in_ok-name.ensures.spelled
          ∙ ap (λ r. named c.in_ok-name.name ∷ r) c.in_ok-defs.ensures.spelled.2,
    )

pub simple-returns-clause-reads : goal.simple-returns-clause-reads
simple-returns-clause-reads t c =
    IfOk-weaker c.leaf.result (λ r. Reads c.args.b (AtMost c.args.b.levels)
    c.args.tokens.now c.args.at (AProc ∷ []) r.1 (MoreProcs ∷ []))
    (λ r. Reads c.args.b (Exactly c.args.depth) c.args.tokens.now c.args.at (AProc ∷ [])
    r.1 (MoreProcs ∷ []))
    (λ r q.
    record { runs = λ stack h. q.runs stack (omega arith); further = q.further; within = q.within })
    c.leaf.ensures.reads

pub simple-returns-clause-fails : goal.simple-returns-clause-fails
simple-returns-clause-fails t c =
    fails-before c.args.b (Exactly c.args.depth) c.args.tokens.now c.args.at (AProc ∷ [])
    (AtMost c.args.b.levels) c.args.at (AProc ∷ []) (λ stack. stack) (λ stack h. refl)
    (λ stack h. omega arith) c.leaf.result c.leaf.ensures.fails
