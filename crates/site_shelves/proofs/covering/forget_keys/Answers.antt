use Rattle.std.proofs.Common.{◌≡◌, Some, length, refl, arith}
use Rattle.std.specs.Prelude.{slice_get}
use Rattle.std.proofs.lemmas.Option.{slice_get_read}
use Rattle.site_shelves.specs.inside.Index.{groups_of}
use Rattle.site_shelves.proofs.Queueing.{group-at}
use Rattle.site_shelves.proofs.Noting.{away-step}
use Rattle.site_shelves.proofs.covering.forget_keys.Goals as goal

pub index-serial-requires : goal.index-serial-requires
index-serial-requires c = omega (arith, c.requires.serials.many, c.len-group-end.ensures)

pub loop-group-preserved : goal.loop-group-preserved
loop-group-preserved c = λ e.
    let gs = groups_of c.args.groups.now.groups in
    let ss = c.args.spots.now.serials.items in
    let read : slice_get ss c.loop-group.group ≡ Some c.index-serial.result.now =
    slice_get_read ss (length ss) c.loop-group.group c.index-serial.result.now refl
    (omega (arith, c.requires.serials.many, c.len-group-end.ensures)) c.index-serial.ensures in
    away-step c.loop-group.covering.levels.items c.loop-group.covering.keys c.drop_at.new.keys ss
    c.args.spots.now.next gs c.args.loc c.loop-group.group c.index-serial.result.now _
    c.requires.serials.rise read
    (group-at c.args.groups.now.groups c.loop-group.group _ c.told.ensures)
    c.drop_at.ensures.here c.drop_at.ensures.away (c.loop-group.invariant e)
