-- Which rules a search has looked at: those that were not noted, and those that are filed at the
-- channel of a newest message.
use Rattle.std.specs.Prelude.{ℕ, List, Option, Some, None, length}
use Rattle.chem_model.specs.declared.numbered.NumberedRule.{NumberedRule}
use Rattle.chem_model.specs.declared.numbered.NumberedAtom.{NumberedAtom}
use Rattle.chem_model.specs.declared.numbered.Numbered.{Numbered}
use Rattle.chem_model.specs.Each.{Each, IsIn}
use Rattle.chem_causes.specs.Ready.{is_ready}
use Rattle.book_store.specs.Keys.{Key, channel_of}
use Rattle.trace_history.specs.inside.Passed.{IsOne, IsPassed, ArePassed}
use Rattle.book_store.specs.Watched.{rule_pair}
use Rattle.book_store.specs.declared.waiting.Waiting.{Waiting}

-- the rules that are filed at this channel, if it is one
abbrev pub AreFiledPassed :
    Numbered → ℕ → Waiting → Option ℕ → Option NumberedRule → Type 0
AreFiledPassed n from w None found = Unit {0}
AreFiledPassed n from w (Some c) found = (r : NumberedRule) → IsIn r n.rules
    → IsIn {X = Key} (c, rule_pair r.id) w.filed.keys → IsPassed n from found r

-- what was found is a rule that is ready, or none; the rules that were not noted were looked at,
-- and those that are filed at the channels of these messages
pub record LooksAtNewest (n : Numbered) (from : ℕ) (w : Waiting) (atoms : List NumberedAtom)
    (found : Option NumberedRule) : Type 0 where
  pub one : IsOne (is_ready n) n.rules found
  pub rest : ArePassed n from w.noted (length n.rules) found
  pub messages : Each (λ a. AreFiledPassed n from w (channel_of a.term) found) atoms
