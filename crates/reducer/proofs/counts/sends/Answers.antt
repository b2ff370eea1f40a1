use Rattle.std.proofs.Common.{◌≡◌, subst}
use Rattle.env_store.specs.declared.code.Guard.{Guard}
use Rattle.reducer.specs.Sending.{SendsAtMost}
use Rattle.reducer.proofs.Levels.{guard_same}
use Rattle.reducer.proofs.Counting.{sends_at_most}
use Rattle.reducer.proofs.counts.sends.Goals as goal

pub returns-clause-bound : goal.returns-clause-bound
returns-clause-bound c = λ x picks.
    let same : x.guard ≡ c.guard_at.result.now =
    guard_same c.args.code.now c.args.site.now c.args.pick.now x c.guard_at.result.now picks
    c.guard_at.ensures.at in
    subst (λ (u : Guard). SendsAtMost c.args.code.now x u.sends) same
    (sends_at_most c.args.code.now c.args.site.now c.args.pick.now x c.guard_at.ensures.is picks)
