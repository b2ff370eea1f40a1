use Rattle.lossy_link.proofs.Making.{over_allowed, allowed_over}
use Rattle.lossy_link.proofs.links.may_act.Goals as goal

pub returns : goal.returns
returns c = (
  λ yes. over_allowed c.args.parts.now.net c.args.choice.now c.requires (c.enabled.ensures.0 yes),
  λ may. c.enabled.ensures.1 (allowed_over c.args.parts.now.net c.args.choice.now may),
)
