use Rattle.lossy_link.specs.declared.step.Step.TheVariants.{Arrive}
use Rattle.lossy_link.specs.Whole.{links_of}
use Rattle.lossy_link.proofs.Counting.{counted_arrived}
use Rattle.lossy_link.proofs.Settled.{as_before, arrived_first}
use Rattle.lossy_link.proofs.schedule.arrive_first.Goals as goal

pub returns-clause-turned : goal.returns-clause-turned
returns-clause-turned c =
    let old = links_of c.args.parts.now in
    let new = links_of c.arrive.new.parts in
    arrived_first old new c.args.counts.now _ c.requires.some c.requires.at c.requires.whole.sound
    c.in_ok-arrive.ensures.steps c.in_ok-arrive.ensures.falls
    (as_before old new (Arrive 0) c.in_ok-arrive.ensures.steps c.in_ok-arrive.ensures.leads)
    (counted_arrived c.args.counts.now c.one_more-counts.result c.one_more-counts.ensures)
