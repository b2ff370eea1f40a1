use Rattle.std.proofs.Common.{List, subst}
use Rattle.site_shelves.specs.inside.Index.{groups_of}
use Rattle.site_shelves.specs.inside.Covered.{Key}
use Rattle.site_shelves.proofs.FiredBy.{AreLeft, one-passed, none-left, first-found}
use Rattle.site_shelves.proofs.least_guard.first_fired.Goals as goal

pub returns-in-Some-fired-clause-some : goal.returns-in-Some-fired-clause-some
returns-in-Some-fired-clause-some c =
    let code = c.args.code.now in
    let tree = c.args.tree.now in
    let gs = groups_of c.args.groups.now.groups in
    let ss = c.args.spots.now.serials.items in
    let left = subst (λ (ks : List Key). AreLeft code tree gs ss c.args.keys.now ks)
    c.in-Some.ensures.steps c.loop-key.invariant in
    first-found code tree gs ss c.args.keys.now c.in-Some.key.now c.next.new.self
    c.in-Some-fired.found.group c.in-Some-fired.found.guard left c.in-Some-fired.ensures.some

pub loop-key-preserved : goal.loop-key-preserved
loop-key-preserved c =
    let code = c.args.code.now in
    let tree = c.args.tree.now in
    let gs = groups_of c.args.groups.now.groups in
    let ss = c.args.spots.now.serials.items in
    let left = subst (λ (ks : List Key). AreLeft code tree gs ss c.args.keys.now ks)
    c.in-Some.ensures.steps c.loop-key.invariant in
    one-passed code tree gs ss c.args.keys.now c.in-Some.key.now c.next.new.self left
    c.in_default.ensures.none

pub returns-clause-none : goal.returns-clause-none
returns-clause-none c =
    let code = c.args.code.now in
    let tree = c.args.tree.now in
    let gs = groups_of c.args.groups.now.groups in
    let ss = c.args.spots.now.serials.items in
    none-left code tree gs ss
    c.args.keys.now (subst (λ (ks : List Key). AreLeft code tree gs ss c.args.keys.now ks)
    c.in-None.ensures.steps.0 c.loop-key.invariant)
