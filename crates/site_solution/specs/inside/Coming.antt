-- What comes to a site.
use Rattle.std.specs.Prelude.{◌≡◌, ◌+◌, ◌≤◌, true, List, ◌++◌}
use Rattle.chem_model.specs.declared.name.Loc.{Loc}
use Rattle.chem_model.specs.declared.event.AtomId.{AtomId}
use Rattle.chem_model.specs.Each.{Each}
use Rattle.wire_packet.specs.declared.packet.Waiting.{Waiting}
use Rattle.wire_packet.specs.GroupFacts.{RequestParts}
use Rattle.net_laws.specs.Site.{Told, Site, told_in}
use Rattle.net_laws.specs.Net.{among, home_or}
use Rattle.net_laws.specs.Kept.{AreApart}
use Rattle.site_solution.specs.declared.coming.Coming.{Coming}
use Rattle.site_shelves.specs.declared.more.More.{More}
use Rattle.site_shelves.specs.CanLay.{HasNumbers}
use Rattle.site_solution.specs.Commit.{AreNew}
use Rattle.site_shelves.specs.Counted.{over_stuck, id_of, over_requests, times}
use Rattle.site_shelves.specs.inside.New.{told_of_new, IsNewGroup}
use Rattle.site_solution.specs.inside.Split.{with_more}

-- a message at one of these locations, on a channel at its home
abbrev pub IsAt : List Loc → Waiting → Type 0
IsAt ls w = (among ls w.loc ≡ true) × (home_or w.loc w.msg.on ≡ w.loc)

-- it may come to the site, with these locations
pub record CanAdd (ls : List Loc) (m : Coming) (s : Site) : Type 0 where
  pub locs : AreNew s.locs ls
  pub groups : Each IsNewGroup m.groups.items
  pub laid_here :
      Each (λ (d : Told). among (s.locs ++ ls) d.inst.loc ≡ true)
      (told_of_new m.groups.items)
  pub apart : AreApart (told_in s.groups ++ told_of_new m.groups.items)
  pub numbers : Each HasNumbers (told_of_new m.groups.items)
  pub waiting : Each (IsAt (s.locs ++ ls)) m.waiting.items
  pub requests : Each (λ (q : RequestParts). among (s.locs ++ ls) q.loc ≡ true) m.requests.items
  pub once :
      (i : AtomId)
      → times i s + (over_stuck (id_of i) m.waiting.items + over_requests i m.requests.items) ≤ 1

-- the site with all of it
abbrev pub added : List Loc → Coming → Site → Site
added ls m s =
    with_more m.next ls (told_of_new m.groups.items) m.waiting.items m.requests.items s

-- what of it comes to the shelves
abbrev pub more_of : Coming → More
more_of m = record { groups = m.groups; waiting = m.waiting }
