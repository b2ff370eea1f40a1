-- How a site lies in its fields.
use Rattle.std.specs.Prelude.{◌<◌, ◌≤◌, ◌^◌}
use Rattle.chem_model.specs.declared.event.AtomId.{AtomId}
use Rattle.net_laws.specs.Site.{Site}
use Rattle.net_laws.specs.Kept.{IsKept}
use Rattle.site_shelves.specs.Counted.{times, waiting_in}
use Rattle.site_solution.specs.declared.site.Site.TheInside.{Inside}
use Rattle.site_limits.specs.Knows.{IsKnown}

abbrev pub seen : Inside → Site
seen a = record {
  number = a.number;
  made = a.made;
  locs = a.locs.locs;
  groups = a.shelves.groups;
  stuck = a.shelves.stuck;
  requests = a.requests.items;
}

-- what a site keeps of what contracts see
pub record IsStored (s : Site) : Type 0 where
  pub kept : IsKept s
  pub once : (i : AtomId) → times i s ≤ 1
  pub few_waiting : waiting_in s < 2 ^ 32

-- and all of it stands within the limits that are known
pub record IsSite (a : Inside) : Type 0 where
  pub stored : IsStored (seen a)
  pub known : IsKnown a.known (seen a)
