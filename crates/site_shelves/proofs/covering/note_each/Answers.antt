use Rattle.std.proofs.Common.{◌+◌, drop, get_or, refl, arith}
use Rattle.queue_cells.specs.Grouped.{lists_at}
use Rattle.site_shelves.proofs.Drops.{drop-here}
use Rattle.site_shelves.proofs.Walked.{drop-past}
use Rattle.site_shelves.proofs.Noting.{others-next}
use Rattle.site_shelves.proofs.Renoting.{yet-none, yet-more, yet-all}
use Rattle.site_shelves.proofs.covering.note_each.Goals as goal

pub loop-place-init : goal.loop-place-init
loop-place-init c = record {
  yet = yet-none c.args.places.now c.args.keys.now c.args.first c.args.masks.now
      (lists_at c.args.groups.now.groups c.args.group);
  others = λ q other. refl;
}

pub loop-place-preserved : goal.loop-place-preserved
loop-place-preserved c =
    let ns = c.args.places.now in
    let i = c.loop-place.place-index in
    let p = get_or ns i 0 in
    record {
      yet = yet-more ns (drop i ns) (drop (i + 1) ns) p c.args.keys.now c.loop-place.keys
          c.note_at.new.keys c.args.first c.args.masks.now
          (lists_at c.args.groups.now.groups c.args.group)
          (drop-here ns i 0 c.loop-place-test.true) c.loop-place.invariant.yet
          (c.if-not-note_at.ensures.noted refl) c.note_at.ensures.others;
      others = others-next c.args.first.2 c.args.first.0 (c.args.first.1 + p) c.args.keys.now
          c.loop-place.keys c.note_at.new.keys c.loop-place.invariant.others
          c.note_at.ensures.others;
    }

pub returns-then-not-note_at-clause-others : goal.returns-then-not-note_at-clause-others
returns-then-not-note_at-clause-others c =
    let p = get_or c.args.places.now c.loop-place.place-index 0 in
    others-next c.args.first.2 c.args.first.0 (c.args.first.1 + p) c.args.keys.now
    c.loop-place.keys c.note_at.new.keys c.loop-place.invariant.others c.note_at.ensures.others

pub returns-clause-noted : goal.returns-clause-noted
returns-clause-noted c = λ _.
    yet-all c.args.places.now (drop c.loop-place.place-index c.args.places.now) c.args.keys.now
    c.loop-place.keys c.args.first c.args.masks.now
    (lists_at c.args.groups.now.groups c.args.group)
    (drop-past c.args.places.now c.loop-place.place-index (omega (arith, c.loop-place-test.false)))
    c.loop-place.invariant.yet
