use Rattle.std.proofs.Common.{refl}
use Rattle.chem_model.specs.declared.event.RuleId.{RuleId}
use Rattle.site_shelves.specs.inside.Index.{groups_of}
use Rattle.site_shelves.proofs.FiredBy.{Any, all-known, guard-wide, nothing-fires, fires-first}
use Rattle.site_shelves.proofs.shelves.Shelves.least_covered.Goals as goal

pub first_fired-requires-clause-wide : goal.first_fired-requires-clause-wide
first_fired-requires-clause-wide c =
    let kept = c.if-not-agrees.ensures in
    let levels = c.self.inside.covering.levels.items in
    let gs = groups_of c.self.inside.groups.groups in
    λ j n x picks. guard-wide c.args.code.now levels c.self.inside.covering.keys
    c.self.inside.spots.serials.items gs Any
    (all-known c.args.code.now levels gs (kept.masks refl))
    c.self.invariant.index.many (c.self.invariant.covering (kept.kept refl)) j n x picks tt

pub returns-in-Some-first_fired : goal.returns-in-Some-first_fired
returns-in-Some-first_fired c =
    let kept = c.if-not-agrees.ensures in
    let levels = c.self.inside.covering.levels.items in
    let gs = groups_of c.self.inside.groups.groups in
    rw (← c.self.view_is)
    (fires-first c.args.code.now levels c.self.inside.covering.keys
    c.self.inside.spots.serials.items gs Any
    (all-known c.args.code.now levels gs (kept.masks refl))
    c.self.invariant.index.many (c.self.invariant.covering (kept.kept refl))
    c.args.tree.now c.self.inside.spots.next c.self.invariant.index.rise c.in-Some-first_fired.found.group
    c.in-Some-first_fired.found.guard c.in-Some-first_fired.ensures.some (λ r _. tt))

pub returns-in-None : goal.returns-in-None
returns-in-None c =
    let kept = c.if-not-agrees.ensures in
    let levels = c.self.inside.covering.levels.items in
    let gs = groups_of c.self.inside.groups.groups in
    rw (← c.self.view_is)
    (nothing-fires c.args.code.now levels c.self.inside.covering.keys
    c.self.inside.spots.serials.items gs Any
    (all-known c.args.code.now levels gs (kept.masks refl))
    c.self.invariant.index.many (c.self.invariant.covering (kept.kept refl))
    c.args.tree.now (λ (r : RuleId). tt) c.in-None.ensures.none)
