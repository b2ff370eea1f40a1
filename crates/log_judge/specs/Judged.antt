-- What a command on a log comes to.
use Rattle.std.specs.Prelude.{◌≡◌, ◌⊎◌, ℕ, List, Option, Bool, true, ◌++◌, ◌||◌, ◌==◌}
use Rattle.std.specs.Prelude.{codes, decimal}
use Rattle.std.specs.Io.KnownBytes.{Appends, IsAtEnd}
use Rattle.join_base.specs.Bytes.{TakesCount, TakesAtMost, GainsPrefix}
use Rattle.join_base.specs.declared.fault.Kind.{Kind}
use Rattle.chem_model.specs.ProgramFacts.{ProgramTerms}
use Rattle.chem_causes.specs.declared.cause.Left.{Left}
use Rattle.trace_history.specs.Kept.{BookKept}
use Rattle.trace_history.specs.Book.{OnItsSolution}
use Rattle.trace_history.specs.Left.{AreLeft}
use Rattle.trace_text.specs.LogText.{LogParts, Spells}
use Rattle.trace_text.specs.LogFields.{WrongAt}
use Rattle.run_check.specs.declared.answer.Verdict.{Verdict}
use Rattle.run_check.specs.declared.answer.Verdict.TheVariants as verdict
use Rattle.run_check.specs.Verdict.{Judges}
use Rattle.run_check.specs.Explained.{explain_text}
use Rattle.text_program.specs.Streams.{OnTold}
use Rattle.text_program.specs.Text.{IsProgramOfText, IsRefusal, refusal_line}
use Rattle.log_judge.specs.declared.ask.Ask.{Ask}
use Rattle.log_judge.specs.declared.ask.Ask.TheVariants as ask

-- the source was read to its end, and had at most 134,217,728 bytes
abbrev pub IsReadWhole : Option (List ℕ) → Option (List ℕ) → Type 0
IsReadWhole old new = TakesAtMost old new 134217728 × IsAtEnd new

-- ---- what is told of a log

-- the text that tells a yes: that, or why what the run left is left
abbrev pub IsYes : Ask → BookKept → List ℕ → Type 0
IsYes ask.Verdict book text = text ≡ codes "yes\n"
IsYes ask.Causes book text =
    (lefts : List Left) × OnItsSolution book (λ n. AreLeft n lefts) × (text ≡ explain_text lefts)

-- the text that tells a no: what is wrong, and where
abbrev pub no_text : List ℕ → ℕ → List ℕ
no_text what place = what ++ decimal place ++ codes "\n"

-- the text that tells a verdict, and the status that goes with it: 0 with a yes, 7 with a no
abbrev pub IsTold : Ask → Verdict → (text : List ℕ) → (status : ℕ) → Type 0
IsTold ask (verdict.Yes book) text status = IsYes ask book text × (status ≡ 0)
IsTold ask (verdict.Event index) text status =
    (text ≡ no_text (codes "no event ") index) × (status ≡ 7)
IsTold ask (verdict.Trace place) text status =
    (text ≡ no_text (codes "no trace ") place) × (status ≡ 7)

-- the text that tells the verdict on a log, and the status that goes with it
pub record IsJudgedAs (ask : Ask) (log : LogParts) (text : List ℕ) (status : ℕ) : Type 0 where
  pub program : ProgramTerms
  pub verdict : Verdict
  pub is_program : IsProgramOfText log.source program
  pub judges : Judges program log verdict
  pub told : IsTold ask verdict text status

-- the line of bytes that are no log
abbrev pub wrong_line : ℕ → List ℕ
wrong_line place = codes "log 1 at " ++ decimal place ++ codes "\n"

-- ---- how a command on a log ends

-- the statuses at which there was a verdict: its text was written, or a write failed
abbrev pub has_verdict : ℕ → Bool
has_verdict status = (status == 0) || ((status == 4) || (status == 7))

-- the statuses of such a command
abbrev pub IsLogStatus : ℕ → Type 0
IsLogStatus status =
    (status ≡ 0) ⊎ ((status ≡ 1) ⊎ ((status ≡ 3) ⊎ ((status ≡ 4) ⊎ ((status ≡ 6)
    ⊎ ((status ≡ 7) ⊎ (status ≡ 8))))))

-- how far the source was read
pub record IsLogReadAt (status : ℕ) (old new : Option (List ℕ)) : Type 0 where
  pub verdict : has_verdict status ≡ true → IsReadWhole old new
  pub refused : status ≡ 1 → IsReadWhole old new
  pub no_log : status ≡ 8 → IsReadWhole old new ⊎ TakesCount old new 134217729
  pub cut_short : (status ≡ 3) ⊎ (status ≡ 6) → TakesAtMost old new 134217728

-- the bytes are those of a log whose source has this refusal, and its line is gained
pub record IsRefusedLog (told : Option (List ℕ)) (gains : List ℕ → Type 0) : Type 0 where
  pub log : LogParts
  pub kind : Kind
  pub place : ℕ
  pub is_log : OnTold told (Spells log)
  pub refusal : IsRefusal log.source kind place
  pub line : gains (refusal_line kind place)

-- the bytes are no log, since the field at this place is wrong, and its line is gained
pub record IsWrongLog (told : Option (List ℕ)) (gains : List ℕ → Type 0) : Type 0 where
  pub place : ℕ
  pub wrong : OnTold told (λ bytes. WrongAt bytes place)
  pub line : gains (wrong_line place)

-- the bytes were read to their end and are no log, or they are too many, whatever they are
abbrev pub IsNoLog : (old new : Option (List ℕ)) → (gains : List ℕ → Type 0) → Type 0
IsNoLog old new gains =
    (IsReadWhole old new × IsWrongLog old gains)
    ⊎ (TakesCount old new 134217729 × gains (codes "log 2 at 134217728\n"))

-- the sink gained the text that tells the verdict on the log, where the status goes with it; or at
-- 4 a prefix of that text
pub record WritesVerdict (ask : Ask) (told : Option (List ℕ)) (status : ℕ)
    (was now : Option (List ℕ)) : Type 0 where
  pub log : LogParts
  pub text : List ℕ
  pub meant : ℕ
  pub is_log : OnTold told (Spells log)
  pub judged : IsJudgedAs ask log text meant
  pub written : ((status ≡ meant) × Appends was now text)
      ⊎ ((status ≡ 4) × GainsPrefix was now text)
