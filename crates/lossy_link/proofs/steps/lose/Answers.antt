use Rattle.std.proofs.Common.{None}
use Rattle.lossy_link.specs.declared.step.Step.TheVariants.{Lose}
use Rattle.lossy_link.specs.Whole.{links_of}
use Rattle.lossy_link.proofs.Keeping.{step_leads, whole_after}
use Rattle.lossy_link.proofs.Making.{lost}
use Rattle.lossy_link.proofs.steps.lose.Goals as goal

pub returns-clause-steps : goal.returns-clause-steps
returns-clause-steps c =
    lost (links_of c.args.parts.now) c.lose.new.self c.args.frame c.requires.enabled c.lose.ensures

pub returns-clause-whole : goal.returns-clause-whole
returns-clause-whole c = whole_after (links_of c.args.parts.now) _ (Lose c.args.frame) None
    c.requires.whole (returns-clause-steps c)

pub returns-clause-leads : goal.returns-clause-leads
returns-clause-leads c = step_leads (links_of c.args.parts.now) _ (Lose c.args.frame) None
    c.requires.whole (returns-clause-steps c)
