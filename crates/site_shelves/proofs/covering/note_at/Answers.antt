use Rattle.std.proofs.Common.{◌≡◌, Some, length, refl, subst}
use Rattle.std.specs.Prelude.{slice_get}
use Rattle.std.proofs.lemmas.Option.{slice_get_read}
use Rattle.queue_cells.specs.Grouped.{lists_at}
use Rattle.site_shelves.specs.inside.Covered.{IsNoted, KeepsAllBut, key_from}
use Rattle.site_shelves.proofs.Noting.{some-is}
use Rattle.site_shelves.proofs.covering.note_at.Goals as goal

pub returns-clause-noted : goal.returns-clause-noted
returns-clause-noted c = λ e m at.
    let masks = c.args.masks.now in
    let own = c.index-masks-place.result in
    let qs = lists_at c.args.groups.now.groups c.args.group in
    let read : slice_get masks c.args.place ≡ Some own =
    slice_get_read masks (length masks) c.args.place own refl c.if-place-masks.false
    c.index-masks-place.is in
    let is : own ≡ m = some-is (slice_get masks c.args.place) own m read at in
    subst (IsNoted c.note_one.new.keys (key_from c.args.first c.args.place) qs) is
    (subst (λ n. IsNoted c.note_one.new.keys (c.args.first.0, n, c.args.first.2) qs own)
    c.in-Some.ensures.1 (c.note_one.ensures.noted e))

pub returns-clause-others : goal.returns-clause-others
returns-clause-others c = subst
    (λ n. KeepsAllBut (c.args.first.0, n, c.args.first.2) c.args.keys.now c.note_one.new.keys)
    c.in-Some.ensures.1 c.note_one.ensures.others
