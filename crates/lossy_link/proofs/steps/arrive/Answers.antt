use Rattle.std.proofs.Common.{None}
use Rattle.std.proofs.lemmas.Result.{on_ok_weaker}
use Rattle.lossy_link.specs.declared.step.Step.TheVariants.{Lose, Arrive}
use Rattle.lossy_link.specs.Whole.{links_of}
use Rattle.lossy_link.proofs.Keeping.{step_leads, whole_after, arrived_falls}
use Rattle.lossy_link.proofs.Making.{came, lost, frame_true}
use Rattle.lossy_link.proofs.steps.arrive.Goals as goal

pub come-requires-clause-whole : goal.come-requires-clause-whole
come-requires-clause-whole c =
    let l = links_of c.args.parts.now in
    whole_after l _ (Lose c.args.frame) None c.requires.whole
    (lost l c.take.new.self c.args.frame c.requires.enabled c.in_ok-taken.ensures.left)

pub come-requires-clause-says : goal.come-requires-clause-says
come-requires-clause-says c = frame_true (links_of c.args.parts.now) c.args.frame
    c.in_ok-taken.taken c.requires.whole c.in_ok-taken.ensures.is

pub returns-clause-steps : goal.returns-clause-steps
returns-clause-steps c = on_ok_weaker c.come.result (λ h. came (links_of c.args.parts.now)
    (links_of c.come.new.parts) c.take.new.self c.args.frame c.in_ok-taken.taken
    c.in_ok-taken.ensures.is c.in_ok-taken.ensures.left h) c.come.ensures

pub returns-clause-whole : goal.returns-clause-whole
returns-clause-whole c = on_ok_weaker c.come.result
    (λ steps. whole_after (links_of c.args.parts.now) _ (Arrive c.args.frame) None c.requires.whole
    steps) (returns-clause-steps c)

pub returns-clause-leads : goal.returns-clause-leads
returns-clause-leads c = on_ok_weaker c.come.result
    (λ steps. step_leads (links_of c.args.parts.now) _ (Arrive c.args.frame) None c.requires.whole
    steps) (returns-clause-steps c)

pub returns-clause-falls : goal.returns-clause-falls
returns-clause-falls c = on_ok_weaker c.come.result
    (λ steps. arrived_falls (links_of c.args.parts.now) _ c.args.frame c.requires.whole steps)
    (returns-clause-steps c)
