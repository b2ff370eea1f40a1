use Rattle.std.proofs.Common.{◌≡◌, ℕ, ◌+◌, subst, sym, arith, length}
use Rattle.reducer.proofs.BestOf.{IsBest}
use Rattle.reducer.proofs.Best.{best_step, best_none, none_fires, is_ready}
use Rattle.reducer.proofs.choosing.scan.Goals as goal

pub loop-group-init : goal.loop-group-init
loop-group-init c = best_none c.args.code.now c.args.tree.now c.args.site.now

pub loop-group-preserved : goal.loop-group-preserved
loop-group-preserved c =
    let more =
    best_step c.args.code.now c.args.tree.now c.args.site.now c.loop-group.group c.loop-group.best
    c.offer.result c.loop-group.invariant c.offer.ensures.none c.offer.ensures.some in
    subst (IsBest c.args.code.now c.args.tree.now c.args.site.now (c.loop-group.group + 1))
    (sym c.better-best.ensures) more

pub returns-in-Some-clause-some : goal.returns-in-Some-clause-some
returns-in-Some-clause-some c =
    let all : c.loop-group.group ≡ length c.args.site.now.groups = omega arith in
    let best =
    subst (λ (n : ℕ). IsBest c.args.code.now c.args.tree.now c.args.site.now n c.loop-group.best)
    all c.loop-group.invariant in
    is_ready c.args.code.now c.args.tree.now c.args.site.now c.in-Some.found
    (subst (IsBest c.args.code.now c.args.tree.now c.args.site.now (length c.args.site.now.groups))
    c.in-Some.is best)

pub returns-in-None-clause-none : goal.returns-in-None-clause-none
returns-in-None-clause-none c =
    let all : c.loop-group.group ≡ length c.args.site.now.groups = omega arith in
    let best =
    subst (λ (n : ℕ). IsBest c.args.code.now c.args.tree.now c.args.site.now n c.loop-group.best)
    all c.loop-group.invariant in
    none_fires c.args.code.now c.args.tree.now c.args.site.now
    (subst (IsBest c.args.code.now c.args.tree.now c.args.site.now (length c.args.site.now.groups))
    c.in-None.is best)
