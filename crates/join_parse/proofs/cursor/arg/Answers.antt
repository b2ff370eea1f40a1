use Rattle.std.proofs.Common.{◌≡◌, refl}
use Rattle.join_parse.specs.Begins.{AnArg}
use Rattle.join_parse.specs.inside.Automaton.{step, No}
use Rattle.join_parse.proofs.Moves.{one-reads, stops, stops-at-end, arg-step-word, arg-step-number}
use Rattle.join_parse.proofs.Moves.{arg-step-first, arg-step-no}
use Rattle.join_parse.proofs.cursor.arg.Goals.{in_default-kind-via-in-Number+else-b}
use Rattle.join_parse.proofs.cursor.arg.Goals.{in_default-kind-via-in_default-kind}
use Rattle.join_parse.proofs.cursor.arg.Goals as goal

pub returns-in_default-clause-fails : goal.returns-in_default-clause-fails
returns-in_default-clause-fails c = rw c.refused.ensures
    (λ stack h. stops-at-end c.args.b _ AnArg stack c.in_default.ensures.token refl)

pub returns-in_ok-text-in-Ident-clause-reads : goal.returns-in_ok-text-in-Ident-clause-reads
returns-in_ok-text-in-Ident-clause-reads c = one-reads c.args.b AnArg
    c.args.tokens.now c.args.at c.in-Some.token.now c.in-Some.ensures.token c.in-Some.ensures.within
    (arg-step-word c.args.b.second c.in-Some.token.now.kind _ c.in-Ident.is)

pub returns-in-Number-clause-reads : goal.returns-in-Number-clause-reads
returns-in-Number-clause-reads c = one-reads c.args.b AnArg
    c.args.tokens.now c.args.at c.in-Some.token.now c.in-Some.ensures.token c.in-Some.ensures.within
    (arg-step-number c.args.b.second c.in-Some.token.now.kind _ c.in-Number.is c.if-b.true)

pub returns-in_default-kind-clause-fails : goal.returns-in_default-kind-clause-fails
returns-in_default-kind-clause-fails c =
    let no = elim c.in_default-kind.branch as (λ _.
    step c.args.b.second AnArg c.in-Some.token.now.kind ≡ No) [
      | in_default-kind-via-in-Number+else-b w ↦
          arg-step-first c.args.b.second c.in-Some.token.now.kind _ w.in-Number.is w.if-b.false
      | in_default-kind-via-in_default-kind w ↦ arg-step-no c.args.b.second c.in-Some.token.now.kind
          w.in_default-kind.not-Ident (λ n q s. w.in_default-kind.not-Number n q)
    ] in
    rw c.refused-in_default-kind.ensures
    (λ stack h. stops c.args.b _ _ c.in-Some.token.now AnArg stack c.in-Some.ensures.token no)
