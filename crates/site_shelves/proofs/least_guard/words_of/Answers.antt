use Rattle.std.proofs.Common.{◌≡◌, Some, List, length, refl, sym, ap, ◌∙◌, subst, ◌<◌}
use Rattle.std.specs.Prelude.{slice_get}
use Rattle.std.proofs.lemmas.Option.{slice_get_read}
use Rattle.env_store.specs.CodeParts.{CodeParts}
use Rattle.env_store.specs.declared.code.Guard.{Guard}
use Rattle.site_shelves.proofs.Noting.{some-is}
use Rattle.site_shelves.proofs.least_guard.words_of.Goals as goal

pub returns : goal.returns
returns c = λ u at.
    let guards : c.as_slice.result.now ≡ c.args.code.now.guards =
    c.as_slice.ensures.members ∙ ap (λ (p : CodeParts). p.guards) c.code.view_is in
    let less : c.args.guard < length c.as_slice.result.now =
    subst (λ (gs : List Guard). c.args.guard < length gs) (sym guards) c.requires in
    let own : Guard = c.index-as_slice-guard.result in
    let read : slice_get c.as_slice.result.now c.args.guard ≡ Some own =
    slice_get_read c.as_slice.result.now (length c.as_slice.result.now) c.args.guard own refl less
    c.index-as_slice-guard.is in
    let same : own ≡ u =
    some-is (slice_get c.args.code.now.guards c.args.guard) own u
    (ap (λ gs. slice_get gs c.args.guard) (sym guards) ∙ read) at in
    ap (λ (g : Guard). g.mask.words) same
