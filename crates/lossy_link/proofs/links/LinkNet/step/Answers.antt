use Rattle.std.proofs.Common.{subst}
use Rattle.net_core.specs.Whole.{NetParts}
use Rattle.lossy_link.specs.Links.{Links}
use Rattle.lossy_link.specs.Standing.{LinksLead}
use Rattle.lossy_link.specs.Whole.{links_of}
use Rattle.lossy_link.proofs.Keeping.{event_of, step_leads, whole_order}
use Rattle.lossy_link.proofs.links.LinkNet.step.Goals as goal

pub returns-in-Ok-clause-event : goal.returns-in-Ok-clause-event
returns-in-Ok-clause-event c = event_of _ _ c.args.step.now c.in-Ok.event c.in-Ok.ensures.steps

pub returns-in-Ok-clause-leads : goal.returns-in-Ok-clause-leads
returns-in-Ok-clause-leads c =
    let new = links_of c.make.new.parts in
    subst (λ (l : Links NetParts). LinksLead l c.in-Ok.event new) c.self.view_is
    (step_leads (links_of c.self.inside.parts) new c.args.step.now c.in-Ok.event c.self.invariant
    c.in-Ok.ensures.steps)

pub returns-in-Ok-clause-order : goal.returns-in-Ok-clause-order
returns-in-Ok-clause-order c = whole_order _ c.in-Ok.ensures.whole
