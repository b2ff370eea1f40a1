use Rattle.std.proofs.Common.{◌≡◌, ◌+◌, ◌≤◌, arith, ap, drop, length, length-drop}
use Rattle.std.proofs.lemmas.List.{drop_all}
use Rattle.join_base.specs.States.{SourceState}
use Rattle.join_base.proofs.Bytes.{copied, take-drop_rest}
use Rattle.join_base.proofs.memory.MemSourceSource.read.Goals as goal

pub returns-clause-bytes : goal.returns-clause-bytes
returns-clause-bytes c =
    let at = c.self.inside.at in
    let bytes = c.self.inside.bytes in
    let count = c.min-count.result in
    let left : drop at bytes ≡ c.args.self.now.left =
    ap (λ (s : SourceState). s.left) c.self.view_is in
    let piece =
    rw (c.as_slice-2.ensures.members, take-drop_rest) at c.copy_from_slice.ensures.after in
    let smaller = rw (c.as_slice-2.ensures.members, take-drop_rest) at c.min-count.ensures in
    let within : count ≤ length (drop at bytes) = omega (arith, smaller) in
    rw (← left) (
      copied bytes _ _ at count within piece,
      λ z _. drop_all (at + count) bytes (omega
          (arith, z, smaller, length-drop at bytes, c.min.ensures, c.requires, c.self.invariant.1)),
    )
