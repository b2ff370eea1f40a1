use Rattle.std.proofs.Common.{◌≡◌, Some, length, refl, sym, ◌∙◌, ap, ltb-true}
use Rattle.std.specs.Prelude.{slice_get}
use Rattle.std.proofs.lemmas.Option.{slice_get_read}
use Rattle.env_store.specs.CodeParts.{CodeParts}
use Rattle.env_store.specs.declared.code.Guard.{Guard}
use Rattle.site_shelves.proofs.Noting.{some-is}
use Rattle.site_shelves.proofs.covering.guard_has.Goals as goal

pub returns-in-Some : goal.returns-in-Some
returns-in-Some c = λ e g at.
    let less = ltb-true _ _ (sym c.in-Some.ensures.lookup.0) in
    let guards : c.as_slice.result.now ≡ c.args.code.now.guards =
    c.as_slice.ensures.members ∙ ap (λ (p : CodeParts). p.guards) c.code.view_is in
    let read : slice_get c.args.code.now.guards c.args.number ≡ Some c.in-Some.guard.now =
    ap (λ gs. slice_get gs c.args.number) (sym guards)
    ∙ slice_get_read c.as_slice.result.now (length c.as_slice.result.now)
    c.args.number c.in-Some.guard.now refl less c.in-Some.ensures.lookup.1 in
    c.same.ensures e
    ∙ ap (λ (u : Guard). u.mask.words)
    (some-is (slice_get c.args.code.now.guards c.args.number) c.in-Some.guard.now g read at)
