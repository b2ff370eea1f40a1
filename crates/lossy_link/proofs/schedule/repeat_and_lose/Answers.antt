use Rattle.std.proofs.Common.{◌<◌, length, arith}
use Rattle.lossy_link.specs.declared.step.Step.TheVariants.{Lose, Repeat}
use Rattle.lossy_link.specs.Whole.{links_of}
use Rattle.lossy_link.proofs.Counting.{counted_delayed}
use Rattle.lossy_link.proofs.Settled.{as_before, stand_on, delayed_first, after_repeat}
use Rattle.lossy_link.proofs.schedule.repeat_and_lose.Goals as goal

pub lose-requires-clause-enabled : goal.lose-requires-clause-enabled
lose-requires-clause-enabled c =
    let more : length c.args.parts.now.wire < length c.repeat.new.parts.wire =
    after_repeat (links_of c.args.parts.now) (links_of c.repeat.new.parts) 0
    c.in_ok-repeat.ensures.steps in
    omega arith

pub returns-clause-turned : goal.returns-clause-turned
returns-clause-turned c =
    let old = links_of c.args.parts.now in
    let mid = links_of c.repeat.new.parts in
    let new = links_of c.lose.new.parts in
    delayed_first old mid new c.args.counts.now _ c.requires.some c.requires.at
    c.in_ok-repeat.ensures.steps c.lose.ensures.steps (stand_on old mid new
    (as_before old mid (Repeat 0) c.in_ok-repeat.ensures.steps c.in_ok-repeat.ensures.leads)
    (as_before mid new (Lose 0) c.lose.ensures.steps c.lose.ensures.leads))
    (counted_delayed c.args.counts.now c.one_more-counts.result c.one_more-counts-2.result
    c.one_more-counts.ensures c.one_more-counts-2.ensures)
