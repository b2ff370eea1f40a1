use Rattle.std.proofs.Common.{◌+◌, ◌-◌, ◌/◌, arith}
use Rattle.site_shelves.proofs.Marks.{place-above, place-below, place-within}
use Rattle.site_shelves.proofs.finding.place_of.Goals as goal

pub loop-low-init : goal.loop-low-init
loop-low-init c = record {
  above = omega arith;
  below = omega (arith, place-within c.args.serial c.args.serials.now);
  within = omega arith;
}

pub loop-low-preserved-then-serials-middle : goal.loop-low-preserved-then-serials-middle
loop-low-preserved-then-serials-middle c =
    let i = c.loop-low.invariant in
    let above = place-above c.args.serial c.requires.0 c.args.serials.now c.requires.1
    (c.loop-low.low + (c.loop-low.high - c.loop-low.low) / 2) 0
    c.requires.2 (omega (arith, i.within)) c.if-serials-middle.true in
    record { above = omega arith; below = i.below; within = i.within }

pub loop-low-preserved : goal.loop-low-preserved
loop-low-preserved c =
    let i = c.loop-low.invariant in
    let below = place-below c.args.serial c.args.serials.now
    (c.loop-low.low + (c.loop-low.high - c.loop-low.low) / 2) 0 (omega (arith, i.within))
    c.if-serials-middle.false in
    record { above = i.above; below = below; within = omega (arith, i.within) }
