-- What the search for a reaction has found.
use Rattle.std.specs.Prelude.{◌≡◌, ℕ, ◌<◌, ◌≤◌, Option, Some, None, cond, slice_get, length}
use Rattle.env_store.specs.declared.code.Level.{Level}
use Rattle.env_store.specs.CodeParts.{CodeParts}
use Rattle.loc_tree.specs.Tree.{Tree}
use Rattle.net_laws.specs.Site.{Told, Site}
use Rattle.reducer.specs.declared.pick.Pick.{Pick}
use Rattle.reducer.specs.declared.choosing.Found.{Found}
use Rattle.reducer.specs.Picks.{Picked, Covers, Fires, rule_of}
use Rattle.reducer.specs.Ready.{precedes}

-- the group is of a level of the code, with its counts, as many guards, and an environment of its
-- depth
pub record IsOfLevel (c : CodeParts) (d : Told) : Type 0 where
  pub level : Level
  pub level_is : slice_get c.levels d.inst.level ≡ Some level
  pub counts : d.counts ≡ level.counts
  pub guards : d.guards ≡ level.guards
  pub depth : length d.inst.env ≡ level.depth

-- a guard of a group
abbrev pub pick_of : ℕ → ℕ → Pick
pick_of j n = record { group = j; guard = n }

-- of the guards of the group j none below n is covered
abbrev pub NoneCovered : CodeParts → Site → ℕ → ℕ → Type 0
NoneCovered c s j n = (m : ℕ) (x : Picked) → m < n → Covers c s (pick_of j m) x → ⊥

-- the guard n is the first of the group j that is covered
pub record IsFirstCovered (c : CodeParts) (s : Site) (j n : ℕ) : Type 0 where
  pub pick : Picked
  pub covers : Covers c s (pick_of j n) pick
  pub first : NoneCovered c s j n

-- of the group j this is the first guard that may fire
pub record IsOffer (c : CodeParts) (t : Tree) (s : Site) (j : ℕ) (f : Found) : Type 0 where
  pub group : f.pick.group ≡ j
  pub pick : Picked
  pub fires : Fires c t s f.pick pick
  pub rule : f.rule ≡ rule_of f.pick pick
  pub first : (n : ℕ) (y : Picked) → Fires c t s (pick_of j n) y → f.pick.guard ≤ n

-- none of the group's guards may fire
abbrev pub NoOffer : CodeParts → Tree → Site → ℕ → Type 0
NoOffer c t s j = (n : ℕ) (y : Picked) → Fires c t s (pick_of j n) y → ⊥

-- of two offers the one of the lesser rule, and else the first
abbrev pub better_of : Option Found → Option Found → Option Found
better_of None o = o
better_of (Some f) None = Some f
better_of (Some f) (Some o) = cond (precedes o.rule f.rule) (Some o) (Some f)
