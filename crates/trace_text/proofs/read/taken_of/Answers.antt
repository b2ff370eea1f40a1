use Rattle.std.proofs.Common.{◌≡◌, ◌≤◌, ◌-◌, suc, ◌∷◌, [], ◌∙◌, None, Some, length, codes, refl}
use Rattle.std.proofs.Common.{sym, arith}
use Rattle.std.proofs.lemmas.Result.{err_from_is_err_and}
use Rattle.std.proofs.lemmas.List.{length-append}
use Rattle.trace_text.specs.LogFields.{further}
use Rattle.trace_text.specs.inside.Reading.{behind}
use Rattle.trace_text.proofs.Steps.{begins, atom_step, atom_wrong, stops, fails_then}
use Rattle.trace_text.proofs.read.taken_of.Goals as goal

pub returns-in_err-first-clause-reads : goal.returns-in_err-first-clause-reads
returns-in_err-first-clause-reads c = λ n le.
    let p = err_from_is_err_and c.from_residual-in_err-first.result
    c.from_residual-in_err-first.ensures.1 in
    rw (p.1, p.2) (λ next.
    rw c.in_ok-rest.ensures.is (c.in_err-first.ensures.reads (λ atom. further n (atom ∷ []) next)))

pub loop-after-init : goal.loop-after-init
loop-after-init c = rw (c.in_ok-push.ensures.ok, c.new-atoms.ensures) (
  λ n next le. begins n c.args.bytes.now c.in_ok-rest.rest.now c.in_ok-first.rest.now
      c.in_ok-first.first next c.in_ok-rest.ensures.is c.in_ok-first.ensures.reads,
  omega (arith, c.in_ok-rest.ensures.shorter, c.in_ok-first.ensures.shorter),
)

pub returns-in_err-atom-clause-reads : goal.returns-in_err-atom-clause-reads
returns-in_err-atom-clause-reads c = λ n le.
    let p =
    err_from_is_err_and c.from_residual-in_err-atom.result c.from_residual-in_err-atom.ensures.1 in
    let fits = c.loop-after.invariant.1 in
    let few : length c.loop-after.atoms ≤ n = omega (arith, le, fits) in
    let space : behind (codes " ") c.loop-after.rest.now ≡ Some c.in-Some.after.now =
    sym c.in-Some.ensures.is in
    rw (p.1, p.2) (λ next.
    rw (c.loop-after.invariant.0 n next le) (atom_wrong n c.loop-after.atoms c.loop-after.rest.now
    c.in-Some.after.now c.in_err-atom.field-0.0 next few space c.in_err-atom.ensures.reads))

pub loop-after-preserved : goal.loop-after-preserved
loop-after-preserved c =
    let fits = c.loop-after.invariant.1 in
    let space : behind (codes " ") c.loop-after.rest.now ≡ Some c.in-Some.after.now =
    sym c.in-Some.ensures.is in
    rw c.in_ok-push-2.ensures.ok (
      λ n next le. c.loop-after.invariant.0 n next le
          ∙ atom_step n c.loop-after.atoms c.loop-after.rest.now c.in-Some.after.now
          c.in_ok-atom.later.now c.in_ok-atom.atom next (omega (arith, le, fits)) space
          c.in_ok-atom.ensures.reads,
      omega (
        arith,
        fits,
        c.in-Some.ensures.shorter,
        c.in_ok-atom.ensures.shorter,
        length-append c.loop-after.atoms (c.in_ok-atom.atom ∷ []),
      ),
    )

pub returns-in_err-rest-2-clause-reads : goal.returns-in_err-rest-2-clause-reads
returns-in_err-rest-2-clause-reads c = λ n le.
    let p = err_from_is_err_and c.from_residual-in_err-rest-2.result
    c.from_residual-in_err-rest-2.ensures.1 in
    let no_space : behind (codes " ") c.loop-after.rest.now ≡ None = sym c.in_default.ensures.is in
    rw (p.1, p.2) (λ next. rw (
      c.loop-after.invariant.0 n next le,
      stops (suc n - length c.loop-after.atoms) c.loop-after.atoms c.loop-after.rest.now next
          no_space,
    ) (fails_then _ _ _ c.in_err-rest-2.ensures.is))

pub returns-clause-reads : goal.returns-clause-reads
returns-clause-reads c = λ n le next.
    let no_space : behind (codes " ") c.loop-after.rest.now ≡ None = sym c.in_default.ensures.is in
    rw c.in_ok-atoms.ensures (c.loop-after.invariant.0 n next le
    ∙ (stops (suc n - length c.loop-after.atoms) c.loop-after.atoms c.loop-after.rest.now next
    no_space ∙ rw c.in_ok-rest-2.ensures.is refl))
