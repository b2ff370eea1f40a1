use Rattle.site_solution.proofs.Staying.{births_keep_others}
use Rattle.site_solution.proofs.laws.births_keep_others.Goals as goal

pub returns : goal.returns
returns c = births_keep_others
