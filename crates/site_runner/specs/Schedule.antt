-- The schedule of a run on one thread: a function of the numbered solution alone.
use Rattle.std.specs.Prelude.{◌≡◌, ℕ, ◌+◌, List, [], ◌∷◌, ◌==◌, cond, length, Some, None}
use Rattle.chem_model.specs.declared.event.Event.{Event}
use Rattle.chem_model.specs.declared.numbered.Numbered.{Numbered}
use Rattle.chem_model.specs.ProgramFacts.{ProgramTerms, IsProgram}
use Rattle.chem_model.specs.Opening.{opening}
use Rattle.chem_model.specs.Apply.{apply}
use Rattle.trace_history.specs.First.{IsFirst}

-- the site whose turn comes after this one
abbrev pub after : ℕ → ℕ → ℕ
after sites s = cond (s + 1 == sites) 0 (s + 1)

-- the schedule of at most `budget` events from the solution n, where the site `from` is looked at
-- first: each event is the first one, and it goes on with the site after that one; it ends where no
-- event is possible or the budget is spent
pub data IsSchedule : ℕ → Numbered → ℕ → List Event → Type 0 where
  spent : {n : Numbered} {from : ℕ} → IsSchedule 0 n from []
  stuck : {budget : ℕ} {n : Numbered} {from : ℕ} → ((e : Event) → apply n e ≡ None)
      → IsSchedule budget n from []
  first : {budget : ℕ} {n m : Numbered} {from site : ℕ} {e : Event} {journal : List Event}
      → IsFirst n from site e → apply n e ≡ Some m
      → IsSchedule budget m (after (length n.counts) site) journal
      → IsSchedule (budget + 1) n from (e ∷ journal)

-- the schedule of a program's run on one thread
abbrev pub ScheduleOf : ProgramTerms → ℕ → List Event → Type 0
ScheduleOf p budget journal = IsSchedule budget (opening p) 0 journal

-- each program has a schedule for each budget, and no other
abbrev pub HasOneSchedule : Type 0
HasOneSchedule =
    (p : ProgramTerms) → IsProgram p → (budget : ℕ)
    → (journal : List Event) × ScheduleOf p budget journal
    × ((other : List Event) → ScheduleOf p budget other → other ≡ journal)
