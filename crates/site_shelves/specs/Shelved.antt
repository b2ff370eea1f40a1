-- What the shelves of a site hold, and what may come to them.
use Rattle.std.specs.Prelude.{◌≡◌, ℕ, ◌+◌, ◌<◌, ◌^◌, ◌++◌, List, length}
use Rattle.chem_model.specs.Each.{Each}
use Rattle.wire_packet.specs.declared.packet.Waiting.{Waiting}
use Rattle.net_laws.specs.Site.{Group, Site, told_in}
use Rattle.net_laws.specs.Kept.{AreApart}
use Rattle.net_laws.specs.Holding.{put_all}
use Rattle.site_shelves.specs.CanLay.{HasNumbers}
use Rattle.site_shelves.specs.declared.more.More.{More}
use Rattle.site_shelves.specs.inside.Index.{new_groups}
use Rattle.site_shelves.specs.inside.New.{told_of_new, IsNewGroup, gone_at}
use Rattle.site_shelves.specs.inside.Room.{IsRestacked, lays}

-- groups with their queues, and messages that no queue takes
pub record Shelved : Type 0 where
  pub groups : List Group
  pub stuck : List Waiting

-- the site with these shelves
abbrev pub with_shelves : Shelved → Site → Site
with_shelves h s = record s { groups = h.groups; stuck = h.stuck }

-- groups and messages may come to them: no two groups share a channel, and there are numbers
pub record CanShelve (m : More) (h : Shelved) : Type 0 where
  pub new : Each IsNewGroup m.groups.items
  pub numbers : Each HasNumbers (told_of_new m.groups.items)
  pub apart : AreApart (told_in h.groups ++ told_of_new m.groups.items)
  pub few : length h.groups + length m.groups.items < 2 ^ 32
  pub waiting : length h.stuck + length m.waiting.items < 2 ^ 33

-- these fronts of a group are gone, and the groups and messages have come: where groups were laid,
-- all that was stuck was put once more
pub record AreShelved (m : More) (j : ℕ) (cs : List ℕ) (old new : Shelved) : Type 0 where
  pub again : List Waiting
  pub left : List Waiting
  pub restacked : IsRestacked (lays m) old.stuck again left
  pub settled :
      (s : Site) → put_all m.waiting.items (put_all again (record s {
        groups = gone_at j cs old.groups ++ new_groups (told_of_new m.groups.items);
        stuck = left;
      }))
      ≡ with_shelves new s
