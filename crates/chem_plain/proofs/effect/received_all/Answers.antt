-- More messages than patterns are taken.
use Rattle.std.proofs.Common.{◌<◌, ◌≤◌, length, sym, ap, ◌∙◌, arith}
use Rattle.chem_plain.proofs.Drops.{received_long}
use Rattle.chem_plain.proofs.effect.received_all.Goals as goal

pub returns-else-len : goal.returns-else-len
returns-else-len c =
    let same = ap length c.as_slice-pat-items.ensures.members in
    let over : length c.args.pats.now ≤ c.loop-index.index = omega (arith, same) in
    let more : c.loop-index.index < length c.args.took.now = omega (arith, same) in
    sym (received_long c.args.atoms.now c.args.at c.args.pats.now c.args.took.now c.loop-index.names
    c.loop-index.index over more) ∙ c.loop-index.invariant.1
