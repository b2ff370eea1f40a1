-- What the walk along the index finds.
use Rattle.std.specs.Prelude.{◌≡◌, ℕ, ◌+◌, ◌-◌, ◌≤◌, ◌<◌, List, Some, true, slice_get, length}
use Rattle.std.specs.declared.cmp.Ordering.TheVariants.{Less}
use Rattle.env_store.specs.declared.code.Level.{Level}
use Rattle.env_store.specs.CodeParts.{CodeParts}
use Rattle.status_words.specs.Words.{number_of_words}
use Rattle.loc_tree.specs.Tree.{Tree}
use Rattle.net_laws.specs.Site.{Told, Group}
use Rattle.site_shelves.specs.inside.Covered.{Key, Keys, key_cmp, has}
use Rattle.site_shelves.specs.Guards.{Picked, PicksAt, FiresAt, rule_at}

-- the guard n of the code is one of the level of what is told, and has the rule of the key
pub record IsGuardOf (c : CodeParts) (d : Told) (key : Key) (n : ℕ) : Type 0 where
  pub level : Level
  pub level_is : slice_get c.levels d.inst.level ≡ Some level
  pub from : level.first ≤ n
  pub below : n < level.first + level.guards
  pub there : n < length c.guards
  pub site : d.inst.rules.site ≡ key.0
  pub number : d.inst.rules.k + (n - level.first) ≡ key.1

-- the guard n of the group j may fire, and this is its key
pub record IsFiredBy (c : CodeParts) (t : Tree) (gs : List Group) (ss : List ℕ) (key : Key)
    (j n : ℕ) : Type 0 where
  pub pick : Picked
  pub fires : FiresAt c t gs j n pick
  pub site : (rule_at n pick).site ≡ key.0
  pub number : (rule_at n pick).k ≡ key.1
  pub serial : slice_get ss j ≡ Some key.2

abbrev pub NothingFiredBy : CodeParts → Tree → List Group → List ℕ → Key → Type 0
NothingFiredBy c t gs ss key = (j n : ℕ) → IsFiredBy c t gs ss key j n → ⊥

-- no key among these is one of a guard that may fire
abbrev pub NothingFired : CodeParts → Tree → List Group → List ℕ → Keys → Type 0
NothingFired c t gs ss ks = (key : Key) → has ks key ≡ true → NothingFiredBy c t gs ss key

-- it may fire, and none with a lesser key does
pub record IsFirstFired (c : CodeParts) (t : Tree) (gs : List Group) (ss : List ℕ) (ks : Keys)
    (j n : ℕ) : Type 0 where
  pub key : Key
  pub by : IsFiredBy c t gs ss key j n
  pub least :
      (q : Key) (i m : ℕ) → has ks q ≡ true → IsFiredBy c t gs ss q i m → key_cmp q key ≡ Less
      → ⊥

-- the mask of a guard with this key has as many words as the status of its group
abbrev pub IsGuardWide : CodeParts → List Group → List ℕ → Key → Type 0
IsGuardWide c gs ss key =
    (j n : ℕ) (x : Picked) → PicksAt c gs j n x → (rule_at n x).site ≡ key.0
    → (rule_at n x).k ≡ key.1 → slice_get ss j ≡ Some key.2
    → length x.guard.mask.words ≡ number_of_words (length x.group.queues)

-- the mask of each guard has as many words as the status of its group
abbrev pub AreGuardsWide : CodeParts → List Group → Type 0
AreGuardsWide c gs =
    (j n : ℕ) (x : Picked) → PicksAt c gs j n x
    → length x.guard.mask.words ≡ number_of_words (length x.group.queues)
