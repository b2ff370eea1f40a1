use Rattle.std.proofs.Common.{None}
use Rattle.std.proofs.lemmas.Result.{on_ok_weaker}
use Rattle.lossy_link.specs.declared.step.Step.TheVariants.{Repeat}
use Rattle.lossy_link.specs.Whole.{links_of}
use Rattle.lossy_link.proofs.Keeping.{step_leads, whole_after}
use Rattle.lossy_link.proofs.Making.{repeated}
use Rattle.lossy_link.proofs.steps.repeat.Goals as goal

pub returns-clause-steps : goal.returns-clause-steps
returns-clause-steps c = on_ok_weaker c.repeat.result
    (λ h. repeated (links_of c.args.parts.now) c.repeat.new.self c.args.frame h) c.repeat.ensures

pub returns-clause-whole : goal.returns-clause-whole
returns-clause-whole c = on_ok_weaker c.repeat.result
    (λ steps. whole_after (links_of c.args.parts.now) _ (Repeat c.args.frame) None c.requires.whole
    steps) (returns-clause-steps c)

pub returns-clause-leads : goal.returns-clause-leads
returns-clause-leads c = on_ok_weaker c.repeat.result
    (λ steps. step_leads (links_of c.args.parts.now) _ (Repeat c.args.frame) None c.requires.whole
    steps) (returns-clause-steps c)
