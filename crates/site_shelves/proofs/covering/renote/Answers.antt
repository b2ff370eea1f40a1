use Rattle.std.proofs.Common.{◌≡◌, Some, length, refl, sym, ap, ◌∙◌, subst, ltb-true}
use Rattle.std.specs.Prelude.{slice_get}
use Rattle.std.proofs.lemmas.Option.{slice_get_read}
use Rattle.queue_cells.specs.Grouped.{lists_at}
use Rattle.wire_packet.specs.GroupFacts.{GroupParts}
use Rattle.net_laws.specs.Site.{Told}
use Rattle.site_shelves.specs.inside.Covered.{AreNoted}
use Rattle.site_shelves.proofs.Noting.{indexed-at}
use Rattle.site_shelves.proofs.covering.renote.Goals as goal

pub returns-in-Some-Some-clause-indexed : goal.returns-in-Some-Some-clause-indexed
returns-in-Some-Some-clause-indexed c = λ e g here.
    let levels = c.args.levels.now in
    let rows = c.args.groups.now.groups in
    let with_inst : GroupParts → Told = λ (h : GroupParts). record {
      inst = h;
      counts = c.behind-groups.inside.counts;
      guards = c.behind-groups.inside.guards;
    } in
    let inst : GroupParts = record {
      loc = c.inst.inside.loc;
      level = c.inst.inside.level;
      chans = c.inst.inside.chans;
      rules = c.inst.inside.rules;
      env = c.inst.inside.env;
    } in
    let inst_is : inst ≡ c.behind-groups.inside.inst = c.inst.view_is in
    let d : Told = with_inst inst in
    let told : d ≡ c.told.result.now = ap with_inst inst_is ∙ c.behind-groups.view_is in
    let row : slice_get rows c.args.group
    ≡ Some (record { told = d; lists = lists_at rows c.args.group }) = subst (λ (x : Told).
    slice_get rows c.args.group ≡ Some (record { told = x; lists = lists_at rows c.args.group }))
    (sym told) c.told.ensures in
    let less = ltb-true _ _ (sym c.in-Some-Some.ensures.lookup.0) in
    let read = slice_get_read levels (length levels) d.inst.level c.in-Some-Some.field-0.now refl
    less c.in-Some-Some.ensures.lookup.1 in
    let known : slice_get levels d.inst.level ≡ Some (Some c.in-Some-Some.masks) =
    read ∙ ap Some c.in-Some-Some.field-0-is in
    let noted = subst
    (λ ms. AreNoted c.note.new.keys d.inst.rules c.args.serial ms (lists_at rows c.args.group))
    c.masks.ensures (c.note.ensures.noted e) in
    indexed-at levels c.note.new.keys c.args.serial rows c.args.group d c.in-Some-Some.masks g row
    known noted here
