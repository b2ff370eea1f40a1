use Rattle.std.proofs.Common.{codes, refl}
use Rattle.std.proofs.lemmas.Result.{err_from_is_err_and}
use Rattle.trace_text.specs.LogFields.{literal}
use Rattle.trace_text.proofs.Steps.{fails_then}
use Rattle.trace_text.proofs.read.one_pair_of.Goals as goal

pub returns-in_err-atom-clause-reads : goal.returns-in_err-atom-clause-reads
returns-in_err-atom-clause-reads c =
    let p = err_from_is_err_and c.from_residual.result c.from_residual.ensures.1 in
    rw (p.1, p.2) (λ next. c.in_err-atom.ensures.reads (λ atom. literal (codes "\n") (next atom)))

pub returns-in_err-rest-clause-reads : goal.returns-in_err-rest-clause-reads
returns-in_err-rest-clause-reads c =
    let p =
    err_from_is_err_and c.from_residual-in_err-rest.result c.from_residual-in_err-rest.ensures.1 in
    rw (p.1, p.2)
    (λ next. rw (c.in_ok-atom.ensures.reads (λ atom. literal (codes "\n") (next atom)))
    (fails_then _ _ _ c.in_err-rest.ensures.is))

pub returns-clause-reads : goal.returns-clause-reads
returns-clause-reads c = λ next. rw
    (c.in_ok-atom.ensures.reads (λ atom. literal (codes "\n") (next atom)), c.in_ok-rest.ensures.is)
    refl
