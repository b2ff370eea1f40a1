use Rattle.std.proofs.Common.{arith}
use Rattle.std.proofs.lemmas.Option.{slice_get_within}
use Rattle.site_shelves.proofs.Drops.{slice_get-read}
use Rattle.site_shelves.proofs.Begins.{begun-next, all-begun}
use Rattle.site_shelves.proofs.firsts.begin_all.Goals as goal

pub loop-group-preserved : goal.loop-group-preserved
loop-group-preserved c =
    let there = slice_get-read c.args.groups.now c.loop-group.group-index c.group-item.result
    c.loop-group-test.true c.group-item.is in
    record {
      begun = begun-next c.loop-group.firsts.keys c.begin.new.firsts.keys c.args.groups.now
          c.loop-group.group-index c.group-item.result c.loop-group.invariant.begun
          c.in_ok-begin.ensures.kept there c.in_ok-begin.ensures.begun;
      kept = λ q h. c.in_ok-begin.ensures.kept q (c.loop-group.invariant.kept q h);
    }

pub returns-clause-begun : goal.returns-clause-begun
returns-clause-begun c =
    all-begun c.loop-group.firsts.keys c.args.groups.now c.requires (λ j r at.
    c.loop-group.invariant.begun j r
    (omega (arith, slice_get_within c.args.groups.now j r at, c.loop-group-test.false)) at)
