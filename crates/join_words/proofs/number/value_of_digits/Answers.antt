use Rattle.std.proofs.Common.{◌<◌, arith, get_or, length}
use Rattle.join_words.proofs.Numbers.{below, digit-at, digits-of, in_range, one_digit_more}
use Rattle.join_words.proofs.number.value_of_digits.Goals as goal

pub overflow_mul-value : goal.overflow_mul-value
overflow_mul-value c =
    let lt : c.loop-digit.digit-index < length c.args.digits.now = omega arith in
    omega
    (arith, below c.args.digits.now c.loop-digit.digit-index c.requires lt, c.loop-digit.invariant)

pub overflow_add-value : goal.overflow_add-value
overflow_add-value c =
    let lt : c.loop-digit.digit-index < length c.args.digits.now = omega arith in
    let r = in_range (get_or c.args.digits.now c.loop-digit.digit-index 0) (digit-at
    c.args.digits.now c.loop-digit.digit-index (digits-of c.args.digits.now c.requires).0 lt) in
    let f = c.from.ensures in
    omega (
      arith,
      below c.args.digits.now c.loop-digit.digit-index c.requires lt,
      c.loop-digit.invariant,
      r.1,
      f,
    )

pub loop-digit-preserved : goal.loop-digit-preserved
loop-digit-preserved c =
    let lt : c.loop-digit.digit-index < length c.args.digits.now = omega arith in
    let more = one_digit_more c.args.digits.now c.loop-digit.digit-index c.requires lt in
    let inv = c.loop-digit.invariant in
    let f = c.from.ensures in
    rw (more, ← inv) (cc)
