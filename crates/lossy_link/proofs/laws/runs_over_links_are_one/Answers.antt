use Rattle.lossy_link.proofs.OneLinks.{runs_over_links_are_one}
use Rattle.lossy_link.proofs.laws.runs_over_links_are_one.Goals as goal

pub returns : goal.returns
returns c = runs_over_links_are_one
