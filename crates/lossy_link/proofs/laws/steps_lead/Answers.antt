use Rattle.lossy_link.proofs.Keeping.{whole_after, step_leads}
use Rattle.lossy_link.proofs.laws.steps_lead.Goals as goal

pub returns : goal.returns
returns c l new x o whole steps =
    (whole_after l new x o whole steps, step_leads l new x o whole steps)
