-- Where rules wait: a rule that is ready by older messages alone is a candidate. Each other one is
-- filed at a channel of its that has none of them, so that a newest message there leads to it.
use Rattle.std.specs.Prelude.{◌≡◌, ℕ, ◌<◌, ◌≤◌, ◌⊎◌, List, Some, length, get_or, true}
use Rattle.chem_model.specs.declared.name.Pat.{Pat}
use Rattle.chem_model.specs.declared.event.RuleId.{RuleId}
use Rattle.chem_model.specs.declared.numbered.NumberedRule.{NumberedRule}
use Rattle.chem_model.specs.Each.{IsIn}
use Rattle.chem_model.specs.Solution.{Places, dead}
use Rattle.chem_model.specs.Apply.{rule_at}
use Rattle.book_store.specs.Keys.{Key, KeepsKeys, HasNone, number_of}
use Rattle.book_store.specs.Candidates.{IsCandidate, KeepsCandidates}
use Rattle.book_store.specs.declared.waiting.Waiting.{Waiting}

-- the member of a list at this place
abbrev pub IsAt : {X : Type 0} → List X → ℕ → X → Type 0
IsAt xs j x = (j < length xs) × (x ≡ get_or xs j x)

-- a number that no channel has
abbrev pub no_number : ℕ
no_number = 18446744073709551615

abbrev pub rule_pair : RuleId → ℕ × ℕ
rule_pair i = (i.site, i.k)

-- this is the number of a channel of these patterns, which no older message has, and it is another
-- one than `but`
pub record IsBare (but : ℕ) (keys : List Key) (ps : List Pat) (c : ℕ) : Type 0 where
  pub pat : Pat
  pub within : IsIn pat ps
  pub number : number_of pat.on ≡ c
  pub bare : HasNone c keys
  pub low : c < no_number
  pub other : c ≡ but → ⊥

-- a rule is filed at such a channel
pub record IsFiled (but : ℕ) (keys : List Key) (w : Waiting) (r : NumberedRule) : Type 0 where
  pub channel : ℕ
  pub is : IsBare but keys r.pats channel
  pub at : IsIn {X = Key} (channel, rule_pair r.id) w.filed.keys

-- a rule is filed, but not at the channel `but`; or it is a candidate, or stands at a dead location
abbrev pub IsWatched : ℕ → Places → List Key → Waiting → NumberedRule → Type 0
IsWatched but pl keys w r =
    IsFiled but keys w r
    ⊎ (IsCandidate pl w.ready r.loc (rule_pair r.id) ⊎ (dead pl r.loc ≡ true))

-- each rule that was noted is watched
pub record AreWatched (but : ℕ) (pl : Places) (keys : List Key) (w : Waiting)
    (rules : List NumberedRule) : Type 0 where
  pub within : w.noted ≤ length rules
  pub each : (j : ℕ) (r : NumberedRule) → j < w.noted → IsAt rules j r → IsWatched but pl keys w r

-- the rule with this number, if there is one, is watched
abbrev pub IsWatchedAt : ℕ → Places → List Key → Waiting → List NumberedRule → RuleId → Type 0
IsWatchedAt but pl keys w rules i =
    (r : NumberedRule) → rule_at rules i ≡ Some r → IsWatched but pl keys w r

-- nothing is lost
pub record KeepsWaiting (old new : Waiting) : Type 0 where
  pub noted : new.noted ≡ old.noted
  pub filed : KeepsKeys old.filed.keys new.filed.keys
  pub ready : KeepsCandidates old.ready new.ready
