use Rattle.std.proofs.Common.{◌≡◌, ◌+◌, min, take}
use Rattle.join_lex.specs.Spelling.{value_of}
use Rattle.join_lex.proofs.scan.value_up_to_bound.Given as goal

abbrev pub invariant-loop-digit : goal.invariant-loop-digit
invariant-loop-digit l = l.value ≡ min (value_of (take l.digit-index l.digits)) (l.largest + 1)
