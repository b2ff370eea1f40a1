use Rattle.std.proofs.Common.{Some, None, Option, refl, subst}
use Rattle.chem_model.specs.declared.event.Event.{Event}
use Rattle.net_core.specs.Making.{HasActed}
use Rattle.lossy_link.specs.declared.step.Step.TheVariants.{Act}
use Rattle.lossy_link.specs.Whole.{links_of}
use Rattle.lossy_link.proofs.Keeping.{step_leads, whole_after}
use Rattle.lossy_link.proofs.Making.{acted, acts_over, allowed_over, has_event}
use Rattle.lossy_link.proofs.steps.act.Goals as goal

pub act-requires-clause-enabled : goal.act-requires-clause-enabled
act-requires-clause-enabled c =
    allowed_over c.args.parts.now.net c.args.choice.now c.requires.enabled

pub returns-clause-steps : goal.returns-clause-steps
returns-clause-steps c =
    let did = subst (λ (o : Option Event).
    HasActed c.args.parts.now.net c.args.choice.now o c.act.new.self)
    c.in-Some.is c.in_ok-event.ensures.ok in
    acted (links_of c.args.parts.now) c.drain-packets.new.self c.leave_all.new.lines
    c.args.choice.now c.in-Some.event c.drain-packets.result
    (acts_over c.args.parts.now.net c.act.new.self c.drain-packets.new.self c.args.choice.now
    c.in-Some.event c.drain-packets.result did c.drain-packets.ensures)
    c.in_ok-leave_all-in-Some.ensures.sent

pub returns-clause-whole : goal.returns-clause-whole
returns-clause-whole c =
    whole_after (links_of c.args.parts.now) _ (Act c.args.choice.now) (Some c.in-Some.event)
    c.requires.whole (returns-clause-steps c)

pub returns-clause-leads : goal.returns-clause-leads
returns-clause-leads c =
    step_leads (links_of c.args.parts.now) _ (Act c.args.choice.now) (Some c.in-Some.event)
    c.requires.whole (returns-clause-steps c)

pub unreachable-requires : goal.unreachable-requires
unreachable-requires c =
    has_event c.args.parts.now.net c.act.new.self c.args.choice.now None c.requires.enabled
    (subst (λ (o : Option Event).
    HasActed c.args.parts.now.net c.args.choice.now o c.act.new.self)
    c.in-None.is c.in_ok-event.ensures.ok) refl
