use Rattle.std.proofs.Common.{◌≡◌, ◌∙◌, ◌≤◌, ℕ, List, [], length, ap, sym, arith}
use Rattle.std.proofs.lemmas.Result.{err_from_is_err_and}
use Rattle.trace_text.specs.LogFields.{log_fields, lines, last_part}
use Rattle.trace_text.specs.inside.Reading.{read}
use Rattle.trace_text.proofs.read.log_of.Goals as goal

-- what is read of copies is read of what they are copies of
moved : (n count budget : ℕ) (source text bytes rest copy : List ℕ) → bytes ≡ text → copy ≡ rest
    → read (log_fields n) bytes ≡ read (lines n [] count (last_part source budget)) rest
    → read (log_fields n) text ≡ read (lines n [] count (last_part source budget)) copy
moved n count budget source text bytes rest copy same copied reads =
    ap (λ (b : List ℕ). read (log_fields n) b) (sym same)
    ∙ reads
    ∙ ap (λ (b : List ℕ). read (lines n [] count (last_part source budget)) b) (sym copied)

fits : (text bytes rest copy : List ℕ) → bytes ≡ text → copy ≡ rest → length rest ≤ length bytes
    → length copy ≤ length text
fits text bytes rest copy same copied le =
    let as_long : length bytes ≡ length text = ap (λ (b : List ℕ). length b) same in
    let as_much : length copy ≡ length rest = ap (λ (b : List ℕ). length b) copied in
    omega (arith, le, as_long, as_much)

pub returns-in_err-events : goal.returns-in_err-events
returns-in_err-events c =
    let p = err_from_is_err_and c.from_residual-in_err-events.result
    c.from_residual-in_err-events.ensures.1 in
    let n = length c.args.text in
    let head = moved n c.in_ok-source.count c.in_ok-source.budget c.in_ok-source.source.now
    c.args.text c.as_slice.result.now c.in_ok-source.rest.now c.in_ok-rest.rest
    c.as_slice.ensures.members c.in_ok-rest.ensures (c.in_ok-source.ensures.reads n) in
    let le = fits c.args.text c.as_slice.result.now c.in_ok-source.rest.now c.in_ok-rest.rest
    c.as_slice.ensures.members c.in_ok-rest.ensures c.in_ok-source.ensures.shorter in
    rw (p.1, p.2) (rw head
    (c.in_err-events.ensures n le (last_part c.in_ok-source.source.now c.in_ok-source.budget)))

pub returns-in_err-trace : goal.returns-in_err-trace
returns-in_err-trace c =
    let p = err_from_is_err_and c.from_residual-in_err-trace.result
    c.from_residual-in_err-trace.ensures.1 in
    let n = length c.args.text in
    let head = moved n c.in_ok-source.count c.in_ok-source.budget c.in_ok-source.source.now
    c.args.text c.as_slice.result.now c.in_ok-source.rest.now c.in_ok-rest.rest
    c.as_slice.ensures.members c.in_ok-rest.ensures (c.in_ok-source.ensures.reads n) in
    let le = fits c.args.text c.as_slice.result.now c.in_ok-source.rest.now c.in_ok-rest.rest
    c.as_slice.ensures.members c.in_ok-rest.ensures c.in_ok-source.ensures.shorter in
    let events =
    c.in_ok-events.ensures n le (last_part c.in_ok-source.source.now c.in_ok-source.budget) in
    rw (p.1, p.2) (rw (head, events, sym c.as_slice-2.ensures.members)
    (c.in_err-trace.ensures c.in_ok-source.source.now c.in_ok-source.budget c.in_ok-events.events))

pub returns : goal.returns
returns c =
    let n = length c.args.text in
    let head = moved n c.in_ok-source.count c.in_ok-source.budget c.in_ok-source.source.now
    c.args.text c.as_slice.result.now c.in_ok-source.rest.now c.in_ok-rest.rest
    c.as_slice.ensures.members c.in_ok-rest.ensures (c.in_ok-source.ensures.reads n) in
    let le = fits c.args.text c.as_slice.result.now c.in_ok-source.rest.now c.in_ok-rest.rest
    c.as_slice.ensures.members c.in_ok-rest.ensures c.in_ok-source.ensures.shorter in
    let events =
    c.in_ok-events.ensures n le (last_part c.in_ok-source.source.now c.in_ok-source.budget) in
    rw (
      head,
      events,
      sym c.as_slice-2.ensures.members,
      c.in_ok-source-2.ensures,
      c.in_ok-trace-2.ensures,
    ) (c.in_ok-trace.ensures c.in_ok-source.source.now c.in_ok-source.budget c.in_ok-events.events)
