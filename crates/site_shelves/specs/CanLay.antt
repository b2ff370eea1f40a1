-- When a group may be laid.
use Rattle.std.specs.Prelude.{◌≡◌, ◌≤◌, ◌+◌, ◌^◌, [], ◌∷◌, ◌++◌, true, length}
use Rattle.net_laws.specs.Site.{Told, Site, told_in}
use Rattle.net_laws.specs.Net.{among}
use Rattle.net_laws.specs.Kept.{AreApart}

-- its channels and rules have numbers of 64 bits
pub record HasNumbers (d : Told) : Type 0 where
  pub chans : d.inst.chans.k + length d.counts ≤ 2 ^ 64
  pub rules : d.inst.rules.k + d.guards ≤ 2 ^ 64

-- it is laid at a location that is hosted here, no group here has one of its channels, and its
-- channels and rules have numbers of 64 bits
pub record CanLay (d : Told) (s : Site) : Type 0 where
  pub here : among s.locs d.inst.loc ≡ true
  pub apart : AreApart (told_in s.groups ++ d ∷ [])
  pub numbers : HasNumbers d
