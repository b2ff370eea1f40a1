use Rattle.std.proofs.Common.{refl}
use Rattle.std.proofs.lemmas.Result.{err_from_is_err_and}
use Rattle.trace_text.specs.LogFields.{log_fields, budget_part}
use Rattle.trace_text.specs.inside.ReadLog.{kind_index}
use Rattle.trace_text.proofs.Steps.{fails_then}
use Rattle.trace_text.proofs.read.head_of.Goals as goal

pub returns-in_err-kind-clause-reads : goal.returns-in_err-kind-clause-reads
unfolding log_fields
returns-in_err-kind-clause-reads c =
    let p = err_from_is_err_and c.from_residual.result c.from_residual.ensures.1 in
    rw (p.1, p.2) (λ n. (fails_then _ _ _ c.in_err-kind.ensures.is))

pub returns-in_err-source-clause-reads : goal.returns-in_err-source-clause-reads
unfolding log_fields
returns-in_err-source-clause-reads c =
    let p = err_from_is_err_and c.from_residual-in_err-source.result
    c.from_residual-in_err-source.ensures.1 in
    let kind = kind_index c.in_ok-kind.kind in
    rw (p.1, p.2)
    (λ n. rw (c.in_ok-kind.ensures.is) (c.in_err-source.ensures.reads (budget_part n kind)))

pub returns-in_err-rest-clause-reads : goal.returns-in_err-rest-clause-reads
unfolding log_fields
returns-in_err-rest-clause-reads c =
    let p =
    err_from_is_err_and c.from_residual-in_err-rest.result c.from_residual-in_err-rest.ensures.1 in
    let kind = kind_index c.in_ok-kind.kind in
    rw (p.1, p.2)
    (λ n. rw (c.in_ok-kind.ensures.is, c.in_ok-source.ensures.reads (budget_part n kind))
    (fails_then _ _ _ c.in_err-rest.ensures.is))

pub returns-in_err-budget-clause-reads : goal.returns-in_err-budget-clause-reads
unfolding log_fields
returns-in_err-budget-clause-reads c =
    let p = err_from_is_err_and c.from_residual-in_err-budget.result
    c.from_residual-in_err-budget.ensures.1 in
    let kind = kind_index c.in_ok-kind.kind in
    rw (p.1, p.2) (λ n. rw (
      c.in_ok-kind.ensures.is,
      c.in_ok-source.ensures.reads (budget_part n kind),
      c.in_ok-rest.ensures.is,
    ) (fails_then _ _ _ c.in_err-budget.ensures.is))

pub returns-in_err-rest-2-clause-reads : goal.returns-in_err-rest-2-clause-reads
unfolding log_fields
returns-in_err-rest-2-clause-reads c =
    let p = err_from_is_err_and c.from_residual-in_err-rest-2.result
    c.from_residual-in_err-rest-2.ensures.1 in
    let kind = kind_index c.in_ok-kind.kind in
    rw (p.1, p.2) (λ n. rw (
      c.in_ok-kind.ensures.is,
      c.in_ok-source.ensures.reads (budget_part n kind),
      c.in_ok-rest.ensures.is,
      c.in_ok-budget.ensures.is,
    ) (fails_then _ _ _ c.in_err-rest-2.ensures.is))

pub returns-in_err-count-clause-reads : goal.returns-in_err-count-clause-reads
unfolding log_fields
returns-in_err-count-clause-reads c =
    let p = err_from_is_err_and c.from_residual-in_err-count.result
    c.from_residual-in_err-count.ensures.1 in
    let kind = kind_index c.in_ok-kind.kind in
    rw (p.1, p.2) (λ n. rw (
      c.in_ok-kind.ensures.is,
      c.in_ok-source.ensures.reads (budget_part n kind),
      c.in_ok-rest.ensures.is,
      c.in_ok-budget.ensures.is,
      c.in_ok-rest-2.ensures.is,
    ) (fails_then _ _ _ c.in_err-count.ensures.is))

pub returns-in_err-rest-3-clause-reads : goal.returns-in_err-rest-3-clause-reads
unfolding log_fields
returns-in_err-rest-3-clause-reads c =
    let p = err_from_is_err_and c.from_residual-in_err-rest-3.result
    c.from_residual-in_err-rest-3.ensures.1 in
    let kind = kind_index c.in_ok-kind.kind in
    rw (p.1, p.2) (λ n. rw (
      c.in_ok-kind.ensures.is,
      c.in_ok-source.ensures.reads (budget_part n kind),
      c.in_ok-rest.ensures.is,
      c.in_ok-budget.ensures.is,
      c.in_ok-rest-2.ensures.is,
      c.in_ok-count.ensures.is,
    ) (fails_then _ _ _ c.in_err-rest-3.ensures.is))

pub returns-clause-reads : goal.returns-clause-reads
unfolding log_fields
returns-clause-reads c =
    let kind = kind_index c.in_ok-kind.kind in
    λ n. rw (
      c.in_ok-kind.ensures.is,
      c.in_ok-source.ensures.reads (budget_part n kind),
      c.in_ok-rest.ensures.is,
      c.in_ok-budget.ensures.is,
      c.in_ok-rest-2.ensures.is,
      c.in_ok-count.ensures.is,
      c.in_ok-rest-3.ensures.is,
    ) refl
