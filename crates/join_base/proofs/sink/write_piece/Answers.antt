use Rattle.std.proofs.Common.{arith, take, drop, sym, length-drop}
use Rattle.std.proofs.lemmas.List.{take-append-drop}
use Rattle.std.proofs.lemmas.Result.{err_from_is_err_and}
use Rattle.join_base.proofs.Bytes.{appends-more, appends-kept, take-drop_rest}
use Rattle.join_base.proofs.sink.write_piece.Goals as goal

pub returns-in_err-done-clause-err : goal.returns-in_err-done-clause-err
returns-in_err-done-clause-err g c =
    let p = err_from_is_err_and c.from_residual.result c.from_residual.ensures.1 in
    let done = c.writing.done in
    let bytes = c.args.bytes.now in
    rw p.1 (
      take done bytes,
      drop done bytes,
      sym (take-append-drop done bytes),
      appends-kept _ _ _ _ c.writing.invariant.written c.in_err-done.ensures.bytes,
    )

pub writing-preserved : goal.writing-preserved
writing-preserved g c = record {
  written = appends-more _ _ _ _ _ _
      c.writing.invariant.written (rw take-drop_rest at c.in_ok-done.ensures.bytes);
  later = omega (arith, c.in_ok-done.ensures.later);
  within = omega (
    arith,
    rw take-drop_rest at c.in_ok-done.ensures.some.1,
    length-drop c.writing.done c.args.bytes.now,
  );
  untouched = λ z. absurd (omega (arith, z, c.in_ok-done.ensures.some.0));
}
