use Rattle.std.proofs.Common.{◌≡◌, Some, length, refl, sym, ap, ◌∙◌, ltb-true}
use Rattle.std.specs.Prelude.{slice_get}
use Rattle.std.proofs.lemmas.Option.{slice_get_read}
use Rattle.site_shelves.proofs.covering.copy_mask.Goals as goal

pub add-requires : goal.add-requires
add-requires c = λ i has.
    let less = ltb-true _ _ (sym c.in-Some.ensures.lookup.0) in
    let read : slice_get c.code.inside.guards c.args.number ≡ Some c.in-Some.guard.now =
    ap (λ gs. slice_get gs c.args.number) (sym c.as_slice.ensures.members)
    ∙ slice_get_read c.as_slice.result.now (length c.as_slice.result.now)
    c.args.number c.in-Some.guard.now refl less c.in-Some.ensures.lookup.1 in
    let kept = c.code.invariant.guards c.args.number c.in-Some.guard.now read in
    sym (kept.mask.bits i) ∙ has
