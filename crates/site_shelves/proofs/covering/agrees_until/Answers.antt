use Rattle.std.proofs.Common.{List, refl, subst, sym, ◌∙◌}
use Rattle.site_shelves.specs.inside.Covered.{Key}
use Rattle.site_shelves.proofs.Begins.{AreAhead, agrees-next, agrees-behind, agrees-all}
use Rattle.site_shelves.proofs.covering.agrees_until.Goals as goal

pub returns-then-is_behind : goal.returns-then-is_behind
returns-then-is_behind c =
    let code = c.args.code.now in
    let levels = c.args.levels.now in
    let begins = c.args.begins.now in
    let left = subst (λ (ks : List Key). AreAhead code levels c.args.key begins ks)
    c.in-Some.ensures.steps c.loop-begin.invariant in
    λ _. agrees-behind code levels c.args.key begins c.in-Some.begin.now c.next.new.self left
    (sym c.is_behind.ensures ∙ c.if-is_behind.true)

pub loop-begin-preserved : goal.loop-begin-preserved
loop-begin-preserved c =
    let code = c.args.code.now in
    let levels = c.args.levels.now in
    let begins = c.args.begins.now in
    let left = subst (λ (ks : List Key). AreAhead code levels c.args.key begins ks)
    c.in-Some.ensures.steps c.loop-begin.invariant in
    agrees-next code levels c.args.key begins c.in-Some.begin.now c.next.new.self left
    (c.if-not-agrees_from.ensures refl)

pub returns : goal.returns
returns c =
    let code = c.args.code.now in
    let levels = c.args.levels.now in
    let begins = c.args.begins.now in
    λ _. agrees-all code levels c.args.key begins
    (subst (λ (ks : List Key). AreAhead code levels c.args.key begins ks)
    c.in-None.ensures.steps.0 c.loop-begin.invariant)
