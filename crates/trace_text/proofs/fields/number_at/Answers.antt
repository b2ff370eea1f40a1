-- A run of digits is no longer than the bytes.
use Rattle.std.proofs.Common.{arith}
use Rattle.std.proofs.lemmas.List.Sums.{prefix_len-le-length}
use Rattle.trace_text.specs.Fields.{is_digit}
use Rattle.trace_text.proofs.fields.number_at.Goals as goal

pub split_at-requires : goal.split_at-requires
split_at-requires c =
    omega (arith, c.digits_len.ensures, prefix_len-le-length is_digit c.args.bytes.now)
