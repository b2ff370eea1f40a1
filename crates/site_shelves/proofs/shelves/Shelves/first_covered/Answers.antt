use Rattle.std.proofs.Common.{◌≡◌, false, refl, subst}
use Rattle.chem_model.specs.declared.event.RuleId.{RuleId}
use Rattle.site_shelves.specs.Guards.{rule_at, precedes}
use Rattle.site_shelves.specs.inside.Index.{groups_of}
use Rattle.site_shelves.specs.inside.Covered.{Key}
use Rattle.site_shelves.specs.inside.Begun.{rule_of, AgreesUntil}
use Rattle.site_shelves.proofs.FiredBy.{not-itself, guard-wide}
use Rattle.site_shelves.proofs.Begins.{same-rule, until-known, until-first, each-some}
use Rattle.site_shelves.proofs.shelves.Shelves.first_covered.Goals as goal

pub fired-requires-clause-wide : goal.fired-requires-clause-wide
fired-requires-clause-wide c =
    let code = c.args.code.now in
    let levels = c.self.inside.covering.levels.items in
    let gs = groups_of c.self.inside.groups.groups in
    let key : Key = c.in_ok-key.field-0.now in
    let agree = subst (λ ls. AgreesUntil code ls key c.self.inside.firsts.keys)
    c.deref.ensures.value (c.if-not-agrees_until.ensures refl) in
    λ j n x picks site number serial.
    guard-wide code levels c.self.inside.covering.keys c.self.inside.spots.serials.items gs
    (λ (r : RuleId). precedes (rule_of key) r ≡ false)
    (until-known code levels key c.self.inside.firsts.keys gs agree c.self.invariant.begun)
    c.self.invariant.index.many (c.self.invariant.covering c.if-self.false) j n x picks
    (same-rule key (rule_at n x) (rule_at n x) site number (not-itself (rule_at n x)))

pub returns : goal.returns
returns c =
    let code = c.args.code.now in
    let levels = c.self.inside.covering.levels.items in
    let gs = groups_of c.self.inside.groups.groups in
    let ss = c.self.inside.spots.serials.items in
    let key : Key = c.in_ok-key.field-0.now in
    let agree = subst (λ ls. AgreesUntil code ls key c.self.inside.firsts.keys)
    c.deref.ensures.value (c.if-not-agrees_until.ensures refl) in
    let known = until-known code levels key c.self.inside.firsts.keys gs agree
    c.self.invariant.begun in
    rw (← c.self.view_is)
    (each-some c.fired.result (λ p by.
    until-first code c.args.tree.now levels c.self.inside.covering.keys ss gs key
    c.self.inside.spots.next p.group p.guard known c.self.invariant.index.many
    (c.self.invariant.covering c.if-self.false)
    c.self.invariant.index.rise c.in_ok-key.ensures.least by) c.fired.ensures.some)
