use Rattle.site_shelves.proofs.Noting.{others-next, noted-more, noted-all}
use Rattle.site_shelves.proofs.covering.note.Goals as goal
use Rattle.std.proofs.lemmas.Option.{slice_get_read}
use Rattle.std.proofs.Common.{refl, ◌≡◌, ◌+◌, Some, length, subst, arith, rules}
use Rattle.std.specs.Prelude.{slice_get}
use Rattle.queue_cells.specs.Grouped.{lists_at}
use Rattle.site_shelves.specs.inside.Covered.{IsNoted, KeepsAllBut}

pub loop-place-preserved : goal.loop-place-preserved
loop-place-preserved c =
    let k : c.in-Some.k ≡ c.args.rules.k + c.loop-place.place = search rules in
    let read : slice_get c.args.masks.now c.loop-place.place ≡ Some c.index-masks-place.result =
    slice_get_read c.args.masks.now (length c.args.masks.now)
    c.loop-place.place c.index-masks-place.result refl (omega arith) c.index-masks-place.is in
    let noted = subst (λ n. IsNoted c.note_one.new.keys (c.args.rules.site, n, c.args.serial)
    (lists_at c.args.groups.now.groups c.args.group) c.index-masks-place.result) k
    (c.if-not-note_one.ensures.noted refl) in
    let keeps = subst
    (λ n. KeepsAllBut (c.args.rules.site, n, c.args.serial) c.loop-place.keys c.note_one.new.keys) k
    c.note_one.ensures.others in
    record {
      below = noted-more c.loop-place.place c.loop-place.keys c.note_one.new.keys c.args.rules
          c.args.serial c.args.masks.now (lists_at c.args.groups.now.groups c.args.group)
          c.index-masks-place.result c.loop-place.invariant.below read noted keeps;
      others =
          others-next c.args.serial c.args.rules.site c.in-Some.k c.args.keys.now c.loop-place.keys
          c.note_one.new.keys c.loop-place.invariant.others c.note_one.ensures.others;
    }

pub returns-clause-noted : goal.returns-clause-noted
returns-clause-noted c =
    λ _. noted-all c.loop-place.place c.loop-place.keys c.args.rules c.args.serial c.args.masks.now
    (lists_at c.args.groups.now.groups c.args.group) (omega arith) c.loop-place.invariant.below
