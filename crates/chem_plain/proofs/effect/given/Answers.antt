-- No name is left to give.
use Rattle.std.proofs.Common.{◌≤◌, length, ap, arith}
use Rattle.chem_plain.proofs.Drops.{given_end}
use Rattle.chem_plain.proofs.effect.given.Goals as goal

pub returns-in-None : goal.returns-in-None
returns-in-None c =
    let past : length c.args.names.now ≤ c.loop-at.at =
    omega (arith, ap length c.as_slice.ensures.members, c.in-None.ensures.lookup.3) in
    given_end c.args.params.now c.args.names.now c.loop-at.list c.loop-at.at past
    c.loop-at.invariant
