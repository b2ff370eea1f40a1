-- The passes are new: as many as workers, numbered from 1, each with the budget.
use Rattle.std.proofs.Common.{◌≡◌, List, length, map, ap, sym, ◌∙◌, subst, arith}
use Rattle.shared_net.specs.Agrees.{row_of}
use Rattle.shared_net.specs.Causes.{DifferInNumber}
use Rattle.shared_net.specs.Closes.{HaveBudget}
use Rattle.shared_net.specs.Net.{NetKept}
use Rattle.shared_net.specs.Passes.{PassKept}
use Rattle.site_runner.proofs.Fresh.{new_count, new_budgets, new_apart, opened_is_free}
use Rattle.site_runner.proofs.on_threads.free_from_opening.Goals as goal

pub free-requires-clause-whole : goal.free-requires-clause-whole
free-requires-clause-whole g c κs within = ap length c.in_ok-net.ensures.passes
    ∙ new_count c.args.budget 1 c.args.workers ∙ sym c.requires.one_each ∙ c.requires.parts

pub free-requires-clause-some : goal.free-requires-clause-some
free-requires-clause-some g c =
    let count : length c.in_ok-net.passes ≡ c.args.workers =
    ap length c.in_ok-net.ensures.passes ∙ new_count c.args.budget 1 c.args.workers in
    omega (arith, count, c.requires.workers.0)

pub free-requires-clause-apart : goal.free-requires-clause-apart
free-requires-clause-apart g c κs within =
    subst (λ (ps : List PassKept). DifferInNumber (map row_of ps)) (sym c.in_ok-net.ensures.passes)
    (new_apart c.args.budget 1 c.args.workers)

pub free-requires-clause-budgets : goal.free-requires-clause-budgets
free-requires-clause-budgets g c κs within = subst (HaveBudget c.args.budget)
    (sym c.in_ok-net.ensures.passes) (new_budgets c.args.budget 1 c.args.workers)

pub returns-clause-how : goal.returns-clause-how
returns-clause-how g c =
    opened_is_free c.args.budget c.args.workers c.in_ok-net.net.sites c.args.program.now
    c.in_ok-net.passes c.in_ok-net.ensures.passes
    (ap (λ (n : NetKept). n.sites) c.in_ok-net.ensures.net) c.free.result c.free.ensures.how
