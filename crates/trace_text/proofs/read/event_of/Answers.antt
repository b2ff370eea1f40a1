use Rattle.std.proofs.Common.{◌≤◌, length, arith}
use Rattle.std.proofs.lemmas.Result.{err_from_is_err_and}
use Rattle.chem_model.specs.declared.event.Event.TheVariants.{React, Move, Halt, Detect}
use Rattle.trace_text.specs.LogFields.{reaction}
use Rattle.trace_text.proofs.read.event_of.Goals as goal

pub returns-in_err-rule-in-React-clause-reads : goal.returns-in_err-rule-in-React-clause-reads
returns-in_err-rule-in-React-clause-reads c = λ n le.
    let p = err_from_is_err_and c.from_residual-in_err-rule-in-React.result
    c.from_residual-in_err-rule-in-React.ensures.1 in
    rw (p.1, p.2) (λ next. rw (c.in_ok-word.ensures.is, c.in-React.is)
    (c.in_err-rule-in-React.ensures.reads (reaction n next)))

pub returns-in_err-took-in-React-clause-reads : goal.returns-in_err-took-in-React-clause-reads
returns-in_err-took-in-React-clause-reads c = λ n le.
    let p = err_from_is_err_and c.from_residual-in_err-took-in-React.result
    c.from_residual-in_err-took-in-React.ensures.1 in
    let fits : length c.in_ok-rule-in-React.rest.now ≤ n =
    omega (arith, le, c.in_ok-word.ensures.shorter, c.in_ok-rule-in-React.ensures.shorter) in
    rw (p.1, p.2) (λ next. rw
    (c.in_ok-word.ensures.is, c.in-React.is, c.in_ok-rule-in-React.ensures.reads (reaction n next))
    (c.in_err-took-in-React.ensures.reads n fits (λ took. next
    (React (record { site = c.in_ok-rule-in-React.rule.site; k = c.in_ok-rule-in-React.rule.k })
    took))))

pub returns-in_ok-took-in-React-clause-reads : goal.returns-in_ok-took-in-React-clause-reads
returns-in_ok-took-in-React-clause-reads c = λ n le next.
    let fits : length c.in_ok-rule-in-React.rest.now ≤ n =
    omega (arith, le, c.in_ok-word.ensures.shorter, c.in_ok-rule-in-React.ensures.shorter) in
    rw
    (c.in_ok-word.ensures.is, c.in-React.is, c.in_ok-rule-in-React.ensures.reads (reaction n next))
    (c.in_ok-took-in-React.ensures.reads n fits (λ took. next
    (React (record { site = c.in_ok-rule-in-React.rule.site; k = c.in_ok-rule-in-React.rule.k })
    took)))

pub returns-in_err-atom-in-Move-clause-reads : goal.returns-in_err-atom-in-Move-clause-reads
returns-in_err-atom-in-Move-clause-reads c = λ n le.
    let p = err_from_is_err_and c.from_residual-in_err-atom-in-Move.result
    c.from_residual-in_err-atom-in-Move.ensures.1 in
    rw (p.1, p.2) (λ next. rw (c.in_ok-word.ensures.is, c.in-Move.is)
    (c.in_err-atom-in-Move.ensures.reads (λ atom. next (Move atom))))

pub returns-in_ok-atom-in-Move-clause-reads : goal.returns-in_ok-atom-in-Move-clause-reads
returns-in_ok-atom-in-Move-clause-reads c = λ n le next. rw (c.in_ok-word.ensures.is, c.in-Move.is)
    (c.in_ok-atom-in-Move.ensures.reads (λ atom. next (Move atom)))

pub returns-in_err-atom-in-Halt-clause-reads : goal.returns-in_err-atom-in-Halt-clause-reads
returns-in_err-atom-in-Halt-clause-reads c = λ n le.
    let p = err_from_is_err_and c.from_residual-in_err-atom-in-Halt.result
    c.from_residual-in_err-atom-in-Halt.ensures.1 in
    rw (p.1, p.2) (λ next. rw (c.in_ok-word.ensures.is, c.in-Halt.is)
    (c.in_err-atom-in-Halt.ensures.reads (λ atom. next (Halt atom))))

pub returns-in_ok-atom-in-Halt-clause-reads : goal.returns-in_ok-atom-in-Halt-clause-reads
returns-in_ok-atom-in-Halt-clause-reads c = λ n le next. rw (c.in_ok-word.ensures.is, c.in-Halt.is)
    (c.in_ok-atom-in-Halt.ensures.reads (λ atom. next (Halt atom)))

pub returns-in_err-atom-in-Detect-clause-reads : goal.returns-in_err-atom-in-Detect-clause-reads
returns-in_err-atom-in-Detect-clause-reads c = λ n le.
    let p = err_from_is_err_and c.from_residual-in_err-atom-in-Detect.result
    c.from_residual-in_err-atom-in-Detect.ensures.1 in
    rw (p.1, p.2) (λ next. rw (c.in_ok-word.ensures.is, c.in-Detect.is)
    (c.in_err-atom-in-Detect.ensures.reads (λ atom. next (Detect atom))))

pub returns-in_ok-atom-in-Detect-clause-reads : goal.returns-in_ok-atom-in-Detect-clause-reads
returns-in_ok-atom-in-Detect-clause-reads c =
    λ n le next. rw (c.in_ok-word.ensures.is, c.in-Detect.is)
    (c.in_ok-atom-in-Detect.ensures.reads (λ atom. next (Detect atom)))
