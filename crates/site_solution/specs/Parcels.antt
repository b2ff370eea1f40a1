-- When a parcel may be taken in.
use Rattle.std.specs.Prelude.{◌≡◌, ℕ, ◌+◌, ◌<◌, ◌≤◌, ◌^◌, ◌++◌, false}
use Rattle.chem_model.specs.declared.event.AtomId.{AtomId}
use Rattle.chem_model.specs.Each.{Each}
use Rattle.net_laws.specs.Site.{Site, told_in}
use Rattle.net_laws.specs.Net.{among}
use Rattle.net_laws.specs.Kept.{AreApart}
use Rattle.net_laws.specs.Parcels.{Load}
use Rattle.site_shelves.specs.CanLay.{HasNumbers}
use Rattle.site_shelves.specs.Counted.{over_stuck, id_of, over_requests, times}

-- how often an id occurs here and in what is carried
abbrev pub times_with : AtomId → Load → Site → ℕ
times_with i p s = times i s + (over_stuck (id_of i) p.waiting + over_requests i p.requests)

-- the location is new here, no two of the groups here and of those that come share a channel, those
-- that come have numbers of 64 bits, and all ids are different
pub record CanTakeIn (p : Load) (s : Site) : Type 0 where
  pub new : among s.locs p.loc ≡ false
  pub apart : AreApart (told_in s.groups ++ p.groups)
  pub numbers : Each HasNumbers p.groups
  pub once : (i : AtomId) → times_with i p s ≤ 1

-- there is a number for one message more, and its id is new too
pub record CanReceive (p : Load) (s : Site) : Type 0 where
  pub can : CanTakeIn p s
  pub few : s.made + 1 < 2 ^ 64
  pub fresh : times_with (record { site = s.number; k = s.made }) p s ≡ 0
