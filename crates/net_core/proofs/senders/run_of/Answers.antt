use Rattle.std.proofs.Common.{◌<◌, ◌≤◌, length, get_or, ap, arith}
use Rattle.net_core.specs.declared.senders.Run.{Run}
use Rattle.net_core.proofs.Spreads.{run_step, run_found, run_none}
use Rattle.net_core.proofs.senders.run_of.Goals as goal

pub loop-index-preserved : goal.loop-index-preserved
loop-index-preserved c =
    let runs = c.args.runs.now in
    let run = c.index.result.now in
    let low : c.loop-index.index < length runs.items =
    omega (arith, c.loop-index-test.true, c.len-index-end.ensures, runs.ok.0) in
    let same = ap (λ (r : Run). r.count) c.index.ensures in
    let here : (get_or runs.items c.loop-index.index run).count ≤ c.loop-index.rest =
    omega (arith, c.if-rest-count.false, same) in
    let step = run_step runs.items c.args.place c.loop-index.rest c.loop-index.index run
    c.loop-index.invariant low here in
    omega (arith, step, same)

pub returns-then-rest-count : goal.returns-then-rest-count
returns-then-rest-count c =
    let runs = c.args.runs.now in
    let run = c.index.result.now in
    let low : c.loop-index.index < length runs.items =
    omega (arith, c.loop-index-test.true, c.len-index-end.ensures, runs.ok.0) in
    let here : c.loop-index.rest < (get_or runs.items c.loop-index.index run).count =
    omega (arith, c.if-rest-count.true, ap (λ (r : Run). r.count) c.index.ensures) in
    run_found runs.items c.args.place c.loop-index.rest c.loop-index.index run
    c.loop-index.invariant low here

pub unreachable-requires : goal.unreachable-requires
unreachable-requires c =
    let runs = c.args.runs.now in
    let high : length runs.items ≤ c.loop-index.index =
    omega (arith, c.loop-index-test.false, c.len-index-end.ensures, runs.ok.0) in
    run_none runs.items c.args.place c.loop-index.rest c.loop-index.index c.loop-index.invariant
    high c.requires
