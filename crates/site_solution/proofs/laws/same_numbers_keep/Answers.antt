use Rattle.site_solution.proofs.Staying.{same_numbers}
use Rattle.site_solution.proofs.laws.same_numbers_keep.Goals as goal

pub returns : goal.returns
returns c = same_numbers
