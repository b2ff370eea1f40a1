-- How shelves lie in their fields.
use Rattle.std.specs.Prelude.{◌<◌, ◌^◌, length}
use Rattle.chem_model.specs.Each.{Each}
use Rattle.net_laws.specs.Site.{told_in}
use Rattle.site_shelves.specs.CanLay.{HasNumbers}
use Rattle.site_shelves.specs.Shelved.{Shelved}
use Rattle.site_shelves.specs.declared.shelves.Shelves.TheInside.{Inside}
use Rattle.site_shelves.specs.inside.Index.{groups_of, IsIndex}
use Rattle.site_shelves.specs.inside.Covered.{IsCovering}
use Rattle.site_shelves.specs.inside.Begun.{IsBegun}

abbrev pub shelved : Inside → Shelved
shelved a = record { groups = groups_of a.groups.groups; stuck = a.stuck.items }

-- both indexes are those of the groups, whose channels and rules have numbers of 64 bits, and it is
-- noted where they begin
pub record AreKept (a : Inside) : Type 0 where
  pub index : IsIndex a.spots (groups_of a.groups.groups)
  pub numbers : Each HasNumbers (told_in (groups_of a.groups.groups))
  pub few : length a.groups.groups < 2 ^ 32
  pub covering : IsCovering a.covering a.spots.serials.items (groups_of a.groups.groups)
  pub begun : Each (IsBegun a.firsts.keys) (told_in (groups_of a.groups.groups))
