use Rattle.std.proofs.Common.{◌≡◌, ◌+◌, Some, length, inl, inr, refl, sym, subst, ap, ◌∙◌, ltb-true}
use Rattle.std.proofs.Common.{arith}
use Rattle.std.specs.Prelude.{slice_get}
use Rattle.std.proofs.lemmas.Option.{slice_get_read}
use Rattle.env_store.specs.CodeParts.{CodeParts}
use Rattle.env_store.specs.declared.code.Level.{Level}
use Rattle.site_shelves.proofs.Noting.{some-is, below-or}
use Rattle.site_shelves.proofs.Drops.{slice_get-read}
use Rattle.site_shelves.proofs.covering.are_first_masks.Goals as goal

pub loop-place-preserved : goal.loop-place-preserved
loop-place-preserved c = λ i m g less at has. elim (below-or i c.loop-place.place less) [
  | inl lower ↦ c.loop-place.invariant i m g lower at has
  | inr same ↦
      let masks = c.args.masks.now in
      let here : slice_get masks c.loop-place.place ≡ Some m =
      subst (λ j. slice_get masks j ≡ Some m) same at in
      let read = slice_get-read masks c.loop-place.place c.index-masks-place.result
      (omega (arith, c.loop-place-test.true, c.requires)) c.index-masks-place.is in
      let guard : slice_get c.args.code.now.guards (c.in-Some.level.now.first + c.loop-place.place)
      ≡ Some g =
      subst (λ j. slice_get c.args.code.now.guards (c.in-Some.level.now.first + j) ≡ Some g) same
      has in
      some-is (slice_get masks c.loop-place.place) m c.index-masks-place.result here read
      ∙ c.if-not-guard_has.ensures refl g guard
]

pub returns : goal.returns
returns c = λ _ l at.
    let less = ltb-true _ _ (sym c.in-Some.ensures.lookup.0) in
    let levels : c.as_slice.result.now ≡ c.args.code.now.levels =
    c.as_slice.ensures.members ∙ ap (λ (p : CodeParts). p.levels) c.code.view_is in
    let read : slice_get c.args.code.now.levels c.args.number ≡ Some c.in-Some.level.now =
    ap (λ ls. slice_get ls c.args.number) (sym levels)
    ∙ slice_get_read c.as_slice.result.now (length c.as_slice.result.now)
    c.args.number c.in-Some.level.now refl less c.in-Some.ensures.lookup.1 in
    let same : c.in-Some.level.now ≡ l =
    some-is (slice_get c.args.code.now.levels c.args.number) c.in-Some.level.now l read at in (
      c.if-masks-level.false ∙ ap (λ (u : Level). u.guards) same,
      λ i m g less' at' has.
          c.loop-place.invariant i m g (omega (arith, less', c.loop-place-test.false)) at'
          (subst (λ (u : Level). slice_get c.args.code.now.guards (u.first + i) ≡ Some g) (sym same)
          has),
    )
