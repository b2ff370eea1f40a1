use Rattle.std.proofs.Common.{◌≡◌, ◌+◌, [], ◌∷◌, ◌++◌, get_or, drop, sym, subst, ap, ◌∙◌, rules}
use Rattle.site_shelves.proofs.Drops.{slice_get-read}
use Rattle.chem_model.specs.Each.{Each}
use Rattle.chem_laws.proofs.Lists.{Each-append}
use Rattle.net_laws.specs.ByCode.{told_by}
use Rattle.net_laws.specs.Parcels.{all_told}
use Rattle.net_laws.specs.Site.{Told}
use Rattle.site_shelves.specs.inside.New.{told_of_new, IsNewGroup}
use Rattle.site_shelves.proofs.Drops.{drop-get}
use Rattle.site_shelves.proofs.LaidAll.{append-one}
use Rattle.site_shelves.proofs.Laying.{told-new-more}
use Rattle.site_shelves.proofs.more.new_groups.Goals as goal

pub loop-inst-preserved : goal.loop-inst-preserved
loop-inst-preserved c =
    let read = c.inst-item.is in
    let is : c.inst-item.result
    ≡ get_or c.args.insts.now c.loop-inst.inst-index c.inst-item.result = cc in
    let at = slice_get-read c.args.insts.now c.loop-inst.inst-index c.inst-item.result
    c.loop-inst-test.true is in
    let here = drop-get c.args.insts.now c.loop-inst.inst-index c.inst-item.result at in
    let rest =
    all_told (told_by c.args.code.now) (drop (c.loop-inst.inst-index + 1) c.args.insts.now) in
    let items : c.push.new.self.items ≡ c.loop-inst.groups.items ++ c.in_ok-new_group.field-0 ∷ [] =
    search rules in
    let told : c.in_ok-new_group.field-0.idle.told ≡ told_by c.args.code.now c.inst-item.result =
    c.in_ok-new_group.ensures.told ∙ c.in_ok-told.ensures
    ∙ ap (told_by c.args.code.now) c.in_ok-copy.ensures in
    record {
      told = ap (λ ds. ds ++ rest)
          (ap told_of_new items ∙ told-new-more c.loop-inst.groups.items c.in_ok-new_group.field-0)
          ∙ append-one (told_of_new c.loop-inst.groups.items)
          c.in_ok-new_group.field-0.idle.told rest
          ∙ ap (λ (d : Told). told_of_new c.loop-inst.groups.items ++ d ∷ rest) told
          ∙ ap (λ is. told_of_new c.loop-inst.groups.items ++ all_told (told_by c.args.code.now) is)
          (sym here) ∙ c.loop-inst.invariant.told;
      are = subst (Each IsNewGroup) (sym items)
          (Each-append IsNewGroup c.loop-inst.groups.items (c.in_ok-new_group.field-0 ∷ [])
          c.loop-inst.invariant.are (c.in_ok-new_group.ensures.is, tt));
    }
