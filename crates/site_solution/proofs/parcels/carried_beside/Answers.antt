use Rattle.site_solution.proofs.Answering.{ok-more}
use Rattle.site_solution.proofs.parcels.carried_beside.Goals as goal

pub returns-clause-more : goal.returns-clause-more
returns-clause-more c = ok-more c.beside.result _ _ (λ r is. record {
  before = c.in_ok-before.before;
  carried = c.in_ok-before.ensures.carried;
  beside = is;
}) c.beside.ensures
