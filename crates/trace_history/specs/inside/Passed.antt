-- What a search for the first rule that is ready found so far.
use Rattle.std.specs.Prelude.{◌≡◌, ℕ, ◌<◌, ◌≤◌, List, Option, Some, None, Bool, true, false}
use Rattle.chem_model.specs.declared.event.RuleId.{RuleId}
use Rattle.chem_model.specs.declared.numbered.NumberedRule.{NumberedRule}
use Rattle.chem_model.specs.declared.numbered.Numbered.{Numbered}
use Rattle.chem_model.specs.Each.{IsIn}
use Rattle.chem_model.specs.Apply.{rule_at}
use Rattle.book_store.specs.Watched.{IsAt}
use Rattle.chem_causes.specs.Ready.{is_ready}
use Rattle.trace_history.specs.inside.Search.{rule_before}

-- what was found doesn't come after this member
abbrev pub Beaten : {X : Type 0} → (X → X → Bool) → X → Option X → Type 0
Beaten before x None = ⊥
Beaten before x (Some y) = before x y ≡ false

-- what was found, if anything, is a member that passes
abbrev pub IsOne : {X : Type 0} → (X → Bool) → List X → Option X → Type 0
IsOne test xs None = Unit {0}
IsOne test xs (Some y) = IsIn y xs × (test y ≡ true)

-- what is found now is no worse than what was found before
pub record Betters (n : Numbered) (from : ℕ) (old new : Option NumberedRule) : Type 0 where
  pub one : IsOne (is_ready n) n.rules old → IsOne (is_ready n) n.rules new
  pub kept : (r : NumberedRule) → is_ready n r ≡ true → Beaten (rule_before n from) r old
      → Beaten (rule_before n from) r new

-- a rule was looked at: if it is ready, what was found doesn't come after it
abbrev pub IsPassed : Numbered → ℕ → Option NumberedRule → NumberedRule → Type 0
IsPassed n from found r = is_ready n r ≡ true → Beaten (rule_before n from) r found

-- so were the rules at these places
abbrev pub ArePassed : Numbered → ℕ → ℕ → ℕ → Option NumberedRule → Type 0
ArePassed n from first last found = (j : ℕ) (r : NumberedRule) → first ≤ j → j < last
    → IsAt n.rules j r → IsPassed n from found r

-- so was the rule with this number, if there is one
abbrev pub IsPassedAt : Numbered → ℕ → Option NumberedRule → RuleId → Type 0
IsPassedAt n from found i =
    (r : NumberedRule) → rule_at n.rules i ≡ Some r → IsPassed n from found r
