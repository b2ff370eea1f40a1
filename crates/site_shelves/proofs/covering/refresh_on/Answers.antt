use Rattle.std.proofs.Common.{◌≡◌, Some, subst, arith, length, refl}
use Rattle.std.specs.Prelude.{slice_get}
use Rattle.std.proofs.lemmas.Option.{slice_get_read}
use Rattle.net_laws.specs.Site.{Group}
use Rattle.site_shelves.specs.inside.Index.{groups_of}
use Rattle.site_shelves.specs.inside.Covered.{Levels, IsIndexed, IsRenoted}
use Rattle.site_shelves.proofs.Queueing.{groups-many}
use Rattle.site_shelves.proofs.Noting.{all-but, refreshed, not-both}
use Rattle.site_shelves.proofs.Renoting.{renoted-is}
use Rattle.site_shelves.proofs.covering.refresh_on.Goals as goal

pub index-serial-requires : goal.index-serial-requires
index-serial-requires c = omega (arith, c.requires.serials.many, c.len.ensures)

pub returns-then-covering : goal.returns-then-covering
returns-then-covering c = λ e. absurd (not-both c.args.covering.now.lost c.if-covering.true e)

pub returns-then-group-len : goal.returns-then-group-len
returns-then-group-len c = λ e. all-but c.args.covering.now.levels.items c.args.covering.now.keys
    c.args.spots.now.serials.items (groups_of c.args.groups.now.groups) c.args.group
    (omega (arith, groups-many c.args.groups.now.groups, c.len.ensures)) (c.requires.others e).0

pub returns-then-not-renote_on : goal.returns-then-not-renote_on
returns-then-not-renote_on c = λ e. absurd (not-both c.give_up.new.covering.lost c.give_up.ensures e)

pub returns-else-not-renote_on : goal.returns-else-not-renote_on
returns-else-not-renote_on c = λ e.
    let gs = groups_of c.args.groups.now.groups in
    let ss = c.args.spots.now.serials.items in
    let read : slice_get ss c.args.group ≡ Some c.index-serial.result.now =
    slice_get_read ss (length ss) c.args.group c.index-serial.result.now refl
    (omega (arith, c.requires.serials.many, c.len.ensures)) c.index-serial.ensures in
    let done : (g : Group) → slice_get gs c.args.group ≡ Some g
    → IsIndexed c.args.covering.now.levels.items c.renote_on.new.keys c.index-serial.result.now g =
    λ g here. renoted-is c.args.chan c.args.covering.now.levels.items c.args.covering.now.keys
    c.renote_on.new.keys c.index-serial.result.now g
    ((c.requires.others e).1 c.index-serial.result.now g read here)
    (subst (λ (ls : Levels). IsRenoted c.args.chan ls c.args.covering.now.keys
    c.renote_on.new.keys c.index-serial.result.now g) c.deref.ensures.value
    (c.if-not-renote_on.ensures.renoted refl g here)) in
    refreshed c.args.covering.now.levels.items c.args.covering.now.keys c.renote_on.new.keys ss
    c.args.spots.now.next gs c.args.group c.index-serial.result.now c.requires.serials.rise read
    (c.requires.others e).0 c.renote_on.ensures.others done
