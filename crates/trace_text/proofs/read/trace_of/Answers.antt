use Rattle.std.proofs.Common.{ℕ, List}
use Rattle.std.proofs.lemmas.Result.{err_from_is_err_and}
use Rattle.chem_model.specs.declared.event.Event.{Event}
use Rattle.trace_text.specs.LogText.{LogParts}
use Rattle.trace_text.specs.Fields.{Format, whole}
use Rattle.trace_text.proofs.Steps.{fails_then}
use Rattle.trace_text.proofs.read.trace_of.Goals as goal

abbrev with_trace : List ℕ → ℕ → List Event → List ℕ → Format LogParts
with_trace source budget events trace =
    whole (record { source = source; budget = budget; events = events; trace = trace })

pub returns-in_err-rest : goal.returns-in_err-rest
returns-in_err-rest c =
    let p = err_from_is_err_and c.from_residual.result c.from_residual.ensures.1 in
    rw (p.1, p.2) (λ source budget events. fails_then _ _ _ c.in_err-rest.ensures.is)

pub returns-in_err-trace : goal.returns-in_err-trace
returns-in_err-trace c =
    let p = err_from_is_err_and c.from_residual-in_err-trace.result
    c.from_residual-in_err-trace.ensures.1 in
    rw (p.1, p.2) (λ source budget events.
    rw c.in_ok-rest.ensures.is (c.in_err-trace.ensures.reads (with_trace source budget events)))

pub returns-in_err-ended : goal.returns-in_err-ended
returns-in_err-ended c =
    let p = err_from_is_err_and c.from_residual-in_err-ended.result
    c.from_residual-in_err-ended.ensures.1 in
    rw (p.1, p.2) (λ source budget events.
    rw (c.in_ok-rest.ensures.is, c.in_ok-trace.ensures.reads (with_trace source budget events))
    (c.in_err-ended.ensures (record {
      source = source;
      budget = budget;
      events = events;
      trace = c.in_ok-trace.trace.now;
    })))

pub returns : goal.returns
returns c = λ source budget events.
    rw (c.in_ok-rest.ensures.is, c.in_ok-trace.ensures.reads (with_trace source budget events))
    (c.in_ok-ended.ensures
    (record { source = source; budget = budget; events = events; trace = c.in_ok-trace.trace.now }))
