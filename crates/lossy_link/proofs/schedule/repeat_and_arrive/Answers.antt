use Rattle.std.proofs.Common.{◌<◌, length, arith}
use Rattle.lossy_link.specs.declared.step.Step.TheVariants.{Repeat, Arrive}
use Rattle.lossy_link.specs.Whole.{links_of}
use Rattle.lossy_link.proofs.Counting.{counted_twice}
use Rattle.lossy_link.proofs.Settled.{as_before, stand_on, repeated_first, after_repeat}
use Rattle.lossy_link.proofs.schedule.repeat_and_arrive.Goals as goal

pub arrive-requires-clause-enabled : goal.arrive-requires-clause-enabled
arrive-requires-clause-enabled c =
    let more : length c.args.parts.now.wire < length c.repeat.new.parts.wire =
    after_repeat (links_of c.args.parts.now) (links_of c.repeat.new.parts) 0
    c.in_ok-repeat.ensures.steps in
    omega arith

pub returns-clause-turned : goal.returns-clause-turned
returns-clause-turned c =
    let old = links_of c.args.parts.now in
    let mid = links_of c.repeat.new.parts in
    let new = links_of c.arrive.new.parts in
    repeated_first old mid new c.args.counts.now _ c.requires.some c.requires.at
    c.requires.whole.sound c.in_ok-repeat.ensures.steps c.in_ok-arrive.ensures.steps
    c.in_ok-arrive.ensures.falls (stand_on old mid new
    (as_before old mid (Repeat 0) c.in_ok-repeat.ensures.steps c.in_ok-repeat.ensures.leads)
    (as_before mid new (Arrive 0) c.in_ok-arrive.ensures.steps c.in_ok-arrive.ensures.leads))
    (counted_twice c.args.counts.now c.one_more-counts.result c.one_more-counts-2.result
    c.one_more-counts.ensures c.one_more-counts-2.ensures)
