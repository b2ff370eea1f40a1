-- The guards of groups: which are covered, which may fire, and which comes first.
use Rattle.std.specs.Prelude.{◌≡◌, ℕ, ◌+◌, ◌-◌, ◌≤◌, ◌<◌, Bool, true, false, List, Some, slice_get}
use Rattle.std.specs.Prelude.{nat_lt, ◌==◌, ◌&&◌, ◌||◌}
use Rattle.chem_model.specs.declared.event.RuleId.{RuleId}
use Rattle.env_store.specs.declared.code.Guard.{Guard}
use Rattle.env_store.specs.declared.code.Level.{Level}
use Rattle.env_store.specs.CodeParts.{CodeParts}
use Rattle.queue_cells.specs.Grouped.{AllHeld}
use Rattle.loc_tree.specs.Tree.{Tree, is_alive}
use Rattle.net_laws.specs.Site.{Group}
use Rattle.site_shelves.specs.declared.least_guard.Search.{Search}
use Rattle.site_shelves.specs.declared.least_guard.Search.TheVariants.{Unknown, Nothing, Found}

-- a group, its level, and a guard
pub record Picked : Type 0 where
  pub group : Group
  pub level : Level
  pub guard : Guard

-- the guard n of the code is one of those of the level of the group j, and these are named
pub record PicksAt (c : CodeParts) (gs : List Group) (j n : ℕ) (x : Picked) : Type 0 where
  pub group : slice_get gs j ≡ Some x.group
  pub level : slice_get c.levels x.group.told.inst.level ≡ Some x.level
  pub guard : slice_get c.guards n ≡ Some x.guard
  pub from : x.level.first ≤ n
  pub below : n < x.level.first + x.level.guards

-- and it is covered: each channel of the guard's mask has a message in its queue
pub record CoversAt (c : CodeParts) (gs : List Group) (j n : ℕ) (x : Picked) : Type 0 where
  pub picks : PicksAt c gs j n x
  pub held : AllHeld x.group.queues x.guard.mask.words

-- and the group's location is live
pub record FiresAt (c : CodeParts) (t : Tree) (gs : List Group) (j n : ℕ) (x : Picked)
    : Type 0 where
  pub covers : CoversAt c gs j n x
  pub live : is_alive t x.group.told.inst.loc ≡ true

-- the rule of a guard has the guard's place in the level, counted from the group's first rule
abbrev pub rule_at : ℕ → Picked → RuleId
rule_at n x = record {
  site = x.group.told.inst.rules.site;
  k = x.group.told.inst.rules.k + (n - x.level.first);
}

-- rules are ordered by their sites, and at one site by their numbers
abbrev pub precedes : RuleId → RuleId → Bool
precedes a b = nat_lt a.site b.site || ((a.site == b.site) && nat_lt a.k b.k)

-- no guard of a live location is covered
abbrev pub NothingFires : CodeParts → Tree → List Group → Type 0
NothingFires c t gs = (j n : ℕ) (x : Picked) → FiresAt c t gs j n x → ⊥

-- a covered guard of a live location: none has a lesser rule, and none with the same rule is of an
-- earlier group
pub record FiresFirst (c : CodeParts) (t : Tree) (gs : List Group) (j n : ℕ) : Type 0 where
  pub pick : Picked
  pub fires : FiresAt c t gs j n pick
  pub least :
      (i m : ℕ) (y : Picked) → FiresAt c t gs i m y
      → precedes (rule_at m y) (rule_at n pick) ≡ false
  pub first :
      (i m : ℕ) (y : Picked) → FiresAt c t gs i m y → rule_at m y ≡ rule_at n pick → j ≤ i

-- what a search says of the groups
abbrev pub Tells : CodeParts → Tree → List Group → Search → Type 0
Tells c t gs Unknown = Unit {0}
Tells c t gs Nothing = NothingFires c t gs
Tells c t gs (Found j n) = FiresFirst c t gs j n
