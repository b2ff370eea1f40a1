use Rattle.std.proofs.Common.{◌≡◌, ◌++◌, drop}
use Rattle.chem_model.specs.Each.{Each}
use Rattle.net_laws.specs.ByCode.{told_by}
use Rattle.net_laws.specs.Parcels.{all_told}
use Rattle.site_shelves.specs.inside.New.{told_of_new, IsNewGroup}
use Rattle.site_shelves.proofs.more.new_groups.Given as goal

abbrev pub invariant-loop-inst : goal.invariant-loop-inst
invariant-loop-inst l = record {
  told :
      told_of_new l.groups.items ++ all_told (told_by l.code) (drop l.inst-index l.insts)
      ≡ all_told (told_by l.code) l.insts;
  are : Each IsNewGroup l.groups.items;
}
