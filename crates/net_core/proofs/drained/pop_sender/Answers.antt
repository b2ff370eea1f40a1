use Rattle.std.proofs.Common.{◌<◌, ◌∙◌, length, ap, sym, arith}
use Rattle.net_core.specs.inside.Runs.{spread}
use Rattle.net_core.proofs.Pairs.{run_taken, run_dropped, one_left, none_left}
use Rattle.net_core.proofs.drained.pop_sender.Goals as goal

pub loop-count-preserved : goal.loop-count-preserved
loop-count-preserved c =
    let runs = c.loop-count.runs.items in
    let left = c.loop-count.invariant.left in
    let some : 0 < length runs = omega (arith, c.loop-count-test.true, c.len-count-end.ensures) in
    record {
      same = ap spread c.pop_front-empty.ensures.rest
          ∙ run_dropped runs c.index-run.result.now some c.index-run.ensures c.if-run-gt0.false
          ∙ c.loop-count.invariant.same;
      left = one_left runs c.pop_front-empty.new.self.items (length c.args.runs.now.items)
          c.loop-count._count some c.pop_front-empty.ensures.rest left;
    }

pub returns-then-run-gt0 : goal.returns-then-run-gt0
returns-then-run-gt0 c =
    let runs = c.loop-count.runs.items in
    let left = c.loop-count.invariant.left in
    let some : 0 < length runs = omega (arith, c.loop-count-test.true, c.len-count-end.ensures) in
    sym c.loop-count.invariant.same
    ∙ run_taken runs c.index-run.result.now c.index_mut.result.now some
    c.index-run.ensures c.index_mut.ensures.value c.if-run-gt0.true

pub returns : goal.returns
returns c =
    let left = c.loop-count.invariant.left in
    let none = none_left c.loop-count.runs.items
    (omega (arith, c.loop-count-test.false, c.len-count-end.ensures)) in
    (sym c.loop-count.invariant.same ∙ ap spread none, ap spread none)
