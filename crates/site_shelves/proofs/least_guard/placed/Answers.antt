use Rattle.std.proofs.Common.{◌≡◌, Some, length, refl, sym, ap, ◌∙◌, arith}
use Rattle.std.specs.Prelude.{slice_get}
use Rattle.std.proofs.lemmas.Option.{slice_get_read, slice_get_within}
use Rattle.site_shelves.specs.inside.Index.{place_of}
use Rattle.site_shelves.proofs.Noting.{some-is, placed-at}
use Rattle.site_shelves.proofs.least_guard.placed.Goals as goal

pub returns-then-group-len-clause-none : goal.returns-then-group-len-clause-none
returns-then-group-len-clause-none c = λ j at.
    let ss = c.args.spots.now.serials.items in
    let place : c.place_of-group.result ≡ j =
    c.place_of-group.ensures ∙ ap (place_of c.args.serial) c.deref.ensures.value
    ∙ placed-at c.requires.0 ss c.requires.1 j c.args.serial c.requires.2 at in
    absurd (omega (arith, place, slice_get_within ss j c.args.serial at))

pub returns-then-index-serial-clause-none : goal.returns-then-index-serial-clause-none
returns-then-index-serial-clause-none c = λ j at.
    let ss = c.args.spots.now.serials.items in
    let place : c.place_of-group.result ≡ j =
    c.place_of-group.ensures ∙ ap (place_of c.args.serial) c.deref.ensures.value
    ∙ placed-at c.requires.0 ss c.requires.1 j c.args.serial c.requires.2 at in
    let within = slice_get_within ss j c.args.serial at in
    let read = slice_get_read ss (length ss) c.place_of-group.result c.index.result.now refl
    (omega (arith, place, within)) c.index.ensures in
    let own : c.index.result.now ≡ c.args.serial =
    some-is (slice_get ss j) c.index.result.now c.args.serial (ap (slice_get ss) (sym place) ∙ read)
    at in
    absurd (c.if-index-serial.true own)

pub returns-clause-some : goal.returns-clause-some
returns-clause-some c =
    let ss = c.args.spots.now.serials.items in
    let read = slice_get_read ss (length ss) c.place_of-group.result c.index.result.now refl
    (omega arith) c.index.ensures in
    read ∙ ap Some c.if-index-serial.false
