use Rattle.std.proofs.Common.{◌+◌, length, ◌∙◌, subst}
use Rattle.env_store.specs.CodeFacts.{IsCode}
use Rattle.site_turn.specs.inside.Opening.{IsUpTo}
use Rattle.site_turn.proofs.Results.{on_ok}
use Rattle.site_turn.proofs.Openings.{get_some, births_first, opened_next, has_tops}
use Rattle.site_turn.proofs.opening.open_site.Goals as goal

pub bear-requires-clause-new : goal.bear-requires-clause-new
bear-requires-clause-new c =
    let code = c.args.code.now in
    let n = c.args.number in
    let at = get_some code.sites n c.requires.number in
    let kept : IsCode code = subst IsCode c.code.view_is c.code.invariant in
    let e = c.in_ok-site.effects in
    births_first code kept n c.args.opened.now c.requires.before at.0 at.1 c.in_ok-site.site e
    (c.in_ok-site.ensures.ok at.0 at.1) (length e.births)

pub returns-in-Ok : goal.returns-in-Ok
returns-in-Ok c =
    let code = c.args.code.now in
    let n = c.args.number in
    let old = c.args.opened.now in
    let at = get_some code.sites n c.requires.number in
    let kept : IsCode code = subst IsCode c.code.view_is c.code.invariant in
    let s = c.in_ok-site.site in
    let e = c.in_ok-site.effects in
    on_ok _ (IsUpTo code (n + 1) c.add.new.opened) c.add.result
    (λ added. opened_next code kept n old c.requires.before at.0 at.1 s e
    (c.in_ok-site.ensures.ok at.0 at.1) c.add.new.opened (length e.births)
    (c.in_ok-site.ensures.fit c.requires.program (has_tops code n old c.requires.before))
    added.sites (added.tree ∙ c.in-Ok.ensures) added.handed) c.add.ensures
