use Rattle.std.proofs.Common.{◌<◌, ◌≤◌, length, sym, ◌∙◌, arith}
use Rattle.site_limits.proofs.Repeated.{same-next, same-past}
use Rattle.site_limits.proofs.known.are_same.Goals as goal

pub loop-place-preserved : goal.loop-place-preserved
loop-place-preserved c =
    let other : c.loop-place.place < length c.args.before.now =
    omega (arith, c.loop-place-test.true, c.if-env-before.false) in
    same-next c.args.env.now c.args.before.now c.loop-place.place _ _ c.loop-place-test.true other
    (sym c.same_name.ensures ∙ c.if-not-same_name.false) c.loop-place.invariant

pub returns : goal.returns
returns c = λ _.
    let other : length c.args.before.now ≤ c.loop-place.place =
    omega (arith, c.loop-place-test.false, c.if-env-before.false) in
    same-past c.args.env.now c.args.before.now c.loop-place.place c.loop-place-test.false other
    c.loop-place.invariant
