use Rattle.std.proofs.Common.{arith}
use Rattle.net_core.proofs.Members.{on_some, removed}
use Rattle.net_core.proofs.Spreads.{run_low, below_count, lowered, emptied}
use Rattle.net_core.proofs.senders.lower.Goals as goal

pub index-requires : goal.index-requires
index-requires c =
    let runs = c.args.runs.now in
    let low = run_low runs.items c.requires.0 c.args.index c.requires.1 c.requires.2 in
    omega (arith, low, runs.ok.0)

pub index_mut-requires : goal.index_mut-requires
index_mut-requires c =
    let runs = c.args.runs.now in
    let low = run_low runs.items c.requires.0 c.args.index c.requires.1 c.requires.2 in
    omega (arith, low, runs.ok.0)

pub overflow_sub-index_mut : goal.overflow_sub-index_mut
overflow_sub-index_mut c = omega (
  arith,
  below_count c.args.runs.now.items c.requires.0 c.args.index c.requires.1 c.requires.2
      c.index_mut.result.now c.index_mut.ensures.value,
)

pub returns-then-index-eq1-clause-out : goal.returns-then-index-eq1-clause-out
returns-then-index-eq1-clause-out c = λ place rest at.
    let runs = c.args.runs.now in
    let low = run_low runs.items place c.args.index rest at in
    let gone = on_some c.remove-gone.result
    (c.remove-gone.ensures.variant.1 (omega (arith, low, runs.ok.0))) c.remove-gone.ensures.items in
    emptied runs.items place c.args.index rest at c.index.result.now
    c.index.ensures c.if-index-eq1.true c.remove-gone.new.self.items
    (removed runs.items c.args.index c.remove-gone.new.self.items low gone)

pub returns-else-index-eq1-clause-out : goal.returns-else-index-eq1-clause-out
returns-else-index-eq1-clause-out c = λ place rest at. lowered c.args.runs.now.items place
    c.args.index rest at c.index_mut.result.now c.index_mut.ensures.value
