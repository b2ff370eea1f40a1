use Rattle.lossy_link.proofs.OneOrder.{runs_without_links_are_one}
use Rattle.lossy_link.proofs.laws.runs_without_links_are_one.Goals as goal

pub returns : goal.returns
returns c = runs_without_links_are_one
