use Rattle.lossy_link.proofs.SomeRun.{one_run_without_links}
use Rattle.lossy_link.proofs.laws.one_run_without_links.Goals as goal

pub returns : goal.returns
returns c = one_run_without_links
