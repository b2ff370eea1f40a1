-- Where the groups of each level begin, and up to which rule the masks that are known are those of
-- the code.
use Rattle.std.specs.Prelude.{◌≡◌, ℕ, ◌+◌, true, false, List, Some, slice_get, length}
use Rattle.chem_model.specs.declared.event.RuleId.{RuleId}
use Rattle.env_store.specs.declared.code.Guard.{Guard}
use Rattle.env_store.specs.declared.code.Level.{Level}
use Rattle.env_store.specs.CodeParts.{CodeParts}
use Rattle.net_laws.specs.Site.{Told}
use Rattle.site_shelves.specs.Guards.{precedes}
use Rattle.site_shelves.specs.inside.Covered.{Key, Keys, has, key_from, Levels}

-- ---- keys of beginnings: the site and the number of the first rule of groups, and their level

abbrev pub rule_of : Key → RuleId
rule_of q = record { site = q.0; k = q.1 }

-- one of them is of this level, and no later than these rules
pub record IsBegunAt (ks : Keys) (level : ℕ) (rules : RuleId) : Type 0 where
  pub begin : Key
  pub there : has ks begin ≡ true
  pub level_is : begin.2 ≡ level
  pub no_later : precedes rules (rule_of begin) ≡ false

abbrev pub IsBegun : Keys → Told → Type 0
IsBegun ks d = IsBegunAt ks d.inst.level d.inst.rules

-- none goes
abbrev pub KeepsKeys : Keys → Keys → Type 0
KeepsKeys old new = (q : Key) → has old q ≡ true → has new q ≡ true

-- ---- the code, up to the rule of a key

-- there are as many masks as the level has guards, and where a group begins there, the masks of
-- those guards whose rules aren't behind the key's are the code's
pub record AreMasksUpTo (c : CodeParts) (key begin : Key) (l : Level) (masks : List (List ℕ))
    : Type 0 where
  pub many : length masks ≡ l.guards
  pub same :
      (i : ℕ) (m : List ℕ) (g : Guard)
      → precedes (rule_of key) (rule_of (key_from begin i)) ≡ false → slice_get masks i ≡ Some m
      → slice_get c.guards (l.first + i) ≡ Some g → m ≡ g.mask.words

-- so it is of the level of this beginning, where it isn't behind the key
abbrev pub AgreesFrom : CodeParts → Levels → Key → Key → Type 0
AgreesFrom c levels key begin =
    (ms : List (List ℕ)) (l : Level) → precedes (rule_of key) (rule_of begin) ≡ false
    → slice_get levels begin.2 ≡ Some (Some ms) → slice_get c.levels begin.2 ≡ Some l
    → AreMasksUpTo c key begin l ms

-- of each
abbrev pub AgreesUntil : CodeParts → Levels → Key → Keys → Type 0
AgreesUntil c levels key begins =
    (q : Key) → has begins q ≡ true → AgreesFrom c levels key q
