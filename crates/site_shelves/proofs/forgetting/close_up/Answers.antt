use Rattle.std.proofs.Common.{◌<◌, ◌∙◌, length, get_or, sym, ap, arith}
use Rattle.std.proofs.lemmas.List.{get_or_default, length-set}
use Rattle.chem_model.specs.Solution.{same_loc}
use Rattle.site_shelves.specs.declared.told.Told.TheInside.{Inside}
use Rattle.net_laws.specs.Site.{Told}
use Rattle.site_shelves.proofs.Left.{closed-gone, closed-kept}
use Rattle.site_shelves.proofs.forgetting.close_up.Goals.{then-not-same_loc, else-not-same_loc}
use Rattle.site_shelves.proofs.forgetting.close_up.Goals as goal

pub loop-group-preserved : goal.loop-group-preserved
loop-group-preserved c =
    let i = c.loop-group.invariant in
    let place = ap (λ (d : Told). same_loc c.args.loc d.inst.loc) (sym c.behind-groups.view_is)
    ∙ ap (λ (d : Inside). same_loc c.args.loc d.inst.loc) (sym c.told-in-loop-group.view_is)
    ∙ sym c.same_loc.ensures in
    let within : c.loop-group.group < length c.loop-group.serials.items =
    omega (arith, i.many, c.loop-group-test.true, c.len-group-end.ensures) in
    elim c.if-not-same_loc.branch [
      | then-not-same_loc w ↦ rw (w.serials-is, w.kept-is) (record {
        done = closed-kept c.args.loc c.loop-group.serials.items c.args.groups.now.groups
            c.loop-group.kept c.loop-group.group _ w.index.result.now within
            i.behind c.told.ensures (sym w.index.ensures) (place ∙ w.if-not-same_loc.true) ∙ i.done;
        behind = omega (arith, i.behind);
        many = length-set c.loop-group.serials.items c.loop-group.kept w.index.result.now ∙ i.many;
      })
      | else-not-same_loc w ↦ rw (w.serials-is, w.kept-is) (record {
        done = closed-gone c.args.loc c.loop-group.serials.items c.args.groups.now.groups
            c.loop-group.kept c.loop-group.group _
            (get_or c.loop-group.serials.items c.loop-group.group 0) within
            c.told.ensures (get_or_default c.loop-group.serials.items c.loop-group.group
            (get_or c.loop-group.serials.items c.loop-group.group 0) 0 within)
            (place ∙ w.if-not-same_loc.false) ∙ i.done;
        behind = omega (arith, i.behind);
        many = i.many;
      })
    ]
