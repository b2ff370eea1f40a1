use Rattle.std.proofs.Common.{arith, length-append}
use Rattle.std.proofs.lemmas.List.{length-take}
use Rattle.join_base.proofs.Bytes.{consumes-more}
use Rattle.join_base.proofs.source.read_all.Goals as goal

pub returns-in-Ok-clause-too_long : goal.returns-in-Ok-clause-too_long
returns-in-Ok-clause-too_long g c = λ _. (
  _,
  consumes-more _ _ _ _ _ c.reading.invariant.taken c.in-Ok.ensures.bytes.0,
  simp length-append (omega (arith, c.in-Ok.ensures.bound.1)),
)

pub returns-in_err-extend_from_slice-in-Ok-2-clause-memory :
    goal.returns-in_err-extend_from_slice-in-Ok-2-clause-memory
returns-in_err-extend_from_slice-in-Ok-2-clause-memory g c = λ _. (
  _,
  consumes-more _ _ _ _ _ c.reading.invariant.taken c.in-Ok-2.ensures.bytes.0,
  simp length-append (omega (
    arith,
    c.in-Ok-2.ensures.bound.1,
    c.in-Ok-2.ensures.bound.0,
    c.read.auto.buffer,
    length-take c.min.result c.reading.buffer,
  )),
)
