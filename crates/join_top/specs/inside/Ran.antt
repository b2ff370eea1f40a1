-- What is read, and what a run leaves.
use Rattle.std.specs.Prelude.{◌≡◌, ℕ, List, Option, Bool, true, false}
use Rattle.chem_model.specs.declared.numbered.Numbered.{Numbered}
use Rattle.chem_model.specs.ProgramFacts.{ProgramTerms}
use Rattle.join_base.specs.Bytes.{TakesAtMost}
use Rattle.trace_history.specs.Kept as book
use Rattle.trace_history.specs.Book.{OnItsSolution}
use Rattle.site_runner.specs.Free.{IsFinished}
use Rattle.site_runner.specs.declared.outcome.Done.{Done}
use Rattle.trace_text.specs.declared.text.Ending.{Ending}
use Rattle.trace_text.specs.declared.text.Ending.TheVariants.{Quiescent, Stopped}
use Rattle.join_words.specs.declared.answer.Asked.{Asked}
use Rattle.join_words.specs.declared.answer.By.{By}
use Rattle.join_top.specs.declared.run.Kept.{Kept}
use Rattle.join_top.specs.Task.{ReadOrRing}
use Rattle.join_top.specs.Printed.{IsWhole}
use Rattle.join_top.specs.RunJoin.{IsReadToEnd, IsRunOf, EndsAs, IsMadeBy}

-- what holds where the source is read
abbrev pub WhereRead : Option ℕ → Type 0 → Type 0
WhereRead ring P = ReadOrRing ring P (Unit {0})

-- the source was read to its end; it is unread where a ring is run
abbrev pub ReadsAll : {S : Type 0} → (ring : Option ℕ) → (left : S → Option (List ℕ))
    → (old new : S) → Type 0
ReadsAll ring left old new = ReadOrRing ring (IsReadToEnd (left old) (left new)) (new ≡ old)

-- no more than the limit was taken of the source; it is unread where a ring is run
abbrev pub ReadsPart : {S : Type 0} → (ring : Option ℕ) → (left : S → Option (List ℕ))
    → (old new : S) → Type 0
ReadsPart ring left old new =
    ReadOrRing ring (TakesAtMost (left old) (left new) 1048576) (new ≡ old)

-- a finished run of the program, made by this command
pub record IsRunBy (by : By) (workers budget loss : ℕ) (p : ProgramTerms) (done : Done) : Type 0
  where
    pub finished : IsFinished p budget done.book
    pub made : IsMadeBy by workers budget loss p done.book.journal done.how

-- how a run ended by whether the machine is quiet
abbrev pub ending_of : Bool → Ending
ending_of true = Quiescent
ending_of false = Stopped

-- the whole text of a book's run of this source, which has ended so
abbrev pub IsWholeOfBook : Asked → (source : List ℕ) → book.BookKept → Ending
    → (text : List ℕ) → Type 0
IsWholeOfBook a source b ending text =
    OnItsSolution b (λ n. IsWhole a source b.program b.journal n ending text)

-- a run that was asked for of the program of this source, which has ended so, and its whole text
pub record IsEnded (a : Asked) (source : List ℕ) (kept : Kept) (text : List ℕ)
    (ending : Ending) : Type 0 where
  pub solution : Numbered
  pub is_run : IsRunOf a.budget kept.program kept.journal solution
  pub ends : EndsAs a.budget kept.journal solution ending
  pub whole : IsWhole a source kept.program kept.journal solution ending text
