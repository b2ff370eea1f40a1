-- What the calls of a book promise.
use Rattle.std.specs.Prelude.{◌≡◌, ℕ, [], ◌∷◌, ◌++◌, length, Option, Some, None, true, false}
use Rattle.chem_model.specs.declared.event.Event.{Event}
use Rattle.chem_model.specs.declared.numbered.Numbered.{Numbered}
use Rattle.chem_model.specs.Reduction.{Quiet}
use Rattle.chem_model.specs.Numbered.{erase}
use Rattle.chem_model.specs.Runs.{IsOpened}
use Rattle.chem_model.specs.Sound.{IsSound}
use Rattle.chem_model.specs.Laws.{IsReduction}
use Rattle.trace_history.specs.declared.book.Commit.{Commit}
use Rattle.trace_history.specs.declared.book.Commit.TheVariants.{Place, NotEnabled}
use Rattle.trace_history.specs.declared.book.Found.{Found}
use Rattle.trace_history.specs.Kept.{BookKept, solution, is_enabled}
use Rattle.trace_history.specs.First.{IsFirst}

-- the event was made and stands last in the journal, exactly where it is possible; else nothing
-- changed
abbrev pub Commits : BookKept → Event → Commit → BookKept → Type 0
Commits old e (Place k) new =
    (is_enabled old e ≡ true) × (k ≡ length old.journal)
    × (new ≡ record { program = old.program; journal = old.journal ++ e ∷ [] })
Commits old e NotEnabled new = (is_enabled old e ≡ false) × (new ≡ old)

-- what holds of the solution to which the journal leads
abbrev pub OnItsSolution : BookKept → (Numbered → Type 0) → Type 0
OnItsSolution b P = (n : Numbered) → solution b ≡ Some n → P n

-- the book stands for a start of its program: its solution is sound, and is reached from a start by
-- heating, Comm, Out, Add and Same alone
abbrev pub IsAStart : BookKept → Type 0
IsAStart b = OnItsSolution b (λ n. IsSound n × IsOpened b.program (erase n))

-- where the event was made, the book went from a sound solution to one that is a reduction away, as
-- the event names it
abbrev pub IsAReduction : BookKept → Event → Commit → BookKept → Type 0
IsAReduction old e (Place k) new =
    OnItsSolution old (λ n. IsSound n × OnItsSolution new (λ m. IsReduction e n m))
IsAReduction old e NotEnabled new = Unit {0}

-- no event is possible
abbrev pub IsStuck : BookKept → Type 0
IsStuck b = (e : Event) → is_enabled b e ≡ false

-- the machine is quiet on what the solution stands for
abbrev pub IsQuiet : BookKept → Type 0
IsQuiet b = OnItsSolution b (λ n. Quiet n.version n.seen (erase n))

-- the first event, where one is possible
abbrev pub Finds : BookKept → ℕ → Option Found → Type 0
Finds b from None = IsStuck b
Finds b from (Some f) = OnItsSolution b (λ n. IsFirst n from f.site f.event)

-- the journal leads to a solution
abbrev pub Replays : BookKept → Type 0
Replays b = (n : Numbered) × (solution b ≡ Some n)
