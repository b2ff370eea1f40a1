use Rattle.std.proofs.Common.{◌≡◌, ◌++◌, drop}
use Rattle.chem_model.specs.Each.{Each}
use Rattle.net_laws.specs.Site.{told_in}
use Rattle.net_laws.specs.Parcels.{groups_at, insts_in}
use Rattle.site_shelves.specs.inside.Index.{groups_of}
use Rattle.site_shelves.specs.inside.Packed.{HasFewNames}
use Rattle.site_shelves.proofs.packing.copy_groups_at.Given as goal

abbrev pub invariant-loop-group : goal.invariant-loop-group
invariant-loop-group l = record {
  is :
      l.members ++ insts_in (told_in (groups_at l.loc (drop l.group (groups_of l.groups.groups))))
      ≡ insts_in (told_in (groups_at l.loc (groups_of l.groups.groups)));
  names : Each HasFewNames l.members;
}
