use Rattle.lossy_link.specs.declared.step.Step.TheVariants.{Lose}
use Rattle.lossy_link.specs.Whole.{links_of}
use Rattle.lossy_link.proofs.Counting.{counted_lost}
use Rattle.lossy_link.proofs.Settled.{as_before, lost_first}
use Rattle.lossy_link.proofs.schedule.lose_first.Goals as goal

pub returns-clause-turned : goal.returns-clause-turned
returns-clause-turned c =
    let old = links_of c.args.parts.now in
    let new = links_of c.lose.new.parts in
    lost_first old new c.args.counts.now _ c.requires.some c.requires.at c.lose.ensures.steps
    (as_before old new (Lose 0) c.lose.ensures.steps c.lose.ensures.leads)
    (counted_lost c.args.counts.now c.one_more-counts.result c.one_more-counts.ensures)
