-- Picks of a site: one of its groups, and one of the guards of that group's level in the code.
use Rattle.std.specs.Prelude.{◌≡◌, ◌+◌, ◌-◌, ◌≤◌, ◌<◌, true, Some, slice_get}
use Rattle.chem_model.specs.declared.event.RuleId.{RuleId}
use Rattle.env_store.specs.declared.code.Guard.{Guard}
use Rattle.env_store.specs.declared.code.Level.{Level}
use Rattle.env_store.specs.CodeParts.{CodeParts}
use Rattle.queue_cells.specs.Grouped.{AllHeld}
use Rattle.loc_tree.specs.Tree.{Tree, is_alive}
use Rattle.net_laws.specs.Site.{Group, Site}
use Rattle.reducer.specs.declared.pick.Pick.{Pick}

-- what a pick names: a group, its level, and a guard
pub record Picked : Type 0 where
  pub group : Group
  pub level : Level
  pub guard : Guard

-- the pick is one of the site and names these: the guard is one of those of the group's level
pub record Picks (c : CodeParts) (s : Site) (p : Pick) (x : Picked) : Type 0 where
  pub group : slice_get s.groups p.group ≡ Some x.group
  pub level : slice_get c.levels x.group.told.inst.level ≡ Some x.level
  pub guard : slice_get c.guards p.guard ≡ Some x.guard
  pub from : x.level.first ≤ p.guard
  pub below : p.guard < x.level.first + x.level.guards

-- and it is covered: each channel of the guard's mask has a message in its queue
pub record Covers (c : CodeParts) (s : Site) (p : Pick) (x : Picked) : Type 0 where
  pub picks : Picks c s p x
  pub held : AllHeld x.group.queues x.guard.mask.words

-- and the group's location is live
pub record Fires (c : CodeParts) (t : Tree) (s : Site) (p : Pick) (x : Picked) : Type 0 where
  pub covers : Covers c s p x
  pub live : is_alive t x.group.told.inst.loc ≡ true

-- a pick of the site
abbrev pub IsPick : CodeParts → Site → Pick → Type 0
IsPick c s p = (x : Picked) × Picks c s p x

-- a covered one
abbrev pub IsCovered : CodeParts → Site → Pick → Type 0
IsCovered c s p = (x : Picked) × Covers c s p x

-- a covered one of a live location
abbrev pub MayFire : CodeParts → Tree → Site → Pick → Type 0
MayFire c t s p = (x : Picked) × Fires c t s p x

-- the site keeps for the group the channel counts and the number of guards that its level has
pub record IsToldAs (x : Picked) : Type 0 where
  pub counts : x.group.told.counts ≡ x.level.counts
  pub guards : x.group.told.guards ≡ x.level.guards

-- the rule of a guard has the guard's place in the level, counted from the group's first rule
abbrev pub rule_of : Pick → Picked → RuleId
rule_of p x = record {
  site = x.group.told.inst.rules.site;
  k = x.group.told.inst.rules.k + (p.guard - x.level.first);
}
