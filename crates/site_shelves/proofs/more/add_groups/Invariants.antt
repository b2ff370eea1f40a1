use Rattle.std.proofs.Common.{◌≡◌, ◌+◌, ◌≤◌, ◌++◌, length}
use Rattle.std.specs.Vec.Iter.{into_iter_items}
use Rattle.chem_model.specs.Each.{Each}
use Rattle.net_laws.specs.Kept.{AreApart}
use Rattle.site_shelves.specs.CanLay.{HasNumbers}
use Rattle.site_shelves.specs.inside.Index.{groups_of, told_of, new_groups, IsIndex, HasRoom}
use Rattle.site_shelves.specs.inside.New.{told_of_new, widths, IsNewGroup}
use Rattle.site_shelves.specs.inside.Covered.{IsCovering}
use Rattle.site_shelves.proofs.more.add_groups.Given as goal

abbrev pub invariant-loop-group : goal.invariant-loop-group
invariant-loop-group l = record {
  done :
      groups_of l.groups.groups ++ new_groups (told_of_new (into_iter_items l.group-iterator))
      ≡ groups_of l.fn.groups.groups ++ new_groups (told_of_new l.fn.more.items);
  many :
      length l.groups.groups + length (into_iter_items l.group-iterator)
      ≡ length l.fn.groups.groups + length l.fn.more.items;
  spare : l.groups.spare ≡ l.fn.groups.spare;
  index : IsIndex l.spots (groups_of l.groups.groups);
  new : Each IsNewGroup (into_iter_items l.group-iterator);
  numbers : Each HasNumbers (told_of_new (into_iter_items l.group-iterator));
  apart : AreApart (told_of l.groups.groups ++ told_of_new (into_iter_items l.group-iterator));
  room : length (into_iter_items l.group-iterator) ≤ l.groups.spare_groups;
  fits :
      HasRoom l.spots (length (into_iter_items l.group-iterator))
      (widths (into_iter_items l.group-iterator));
  covering : IsCovering l.covering l.spots.serials.items (groups_of l.groups.groups);
}
