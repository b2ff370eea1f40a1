-- What the command on declared sorts comes to.
use Rattle.std.specs.Prelude.{◌≡◌, ◌⊎◌, ℕ, List, Option, Bool, true, ◌||◌, ◌==◌}
use Rattle.std.specs.Io.KnownBytes.{Appends, IsAtEnd}
use Rattle.join_base.specs.Bytes.{TakesCount, TakesAtMost, GainsPrefix}
use Rattle.join_base.specs.declared.fault.Kind.{Kind}
use Rattle.sort_check.specs.declared.judged.Judged.{Judged}
use Rattle.text_program.specs.Streams.{OnTold}
use Rattle.text_program.specs.Text.{IsRefusal, refusal_line}
use Rattle.sort_judge.specs.Verdict.{IsVerdictOn, verdict_text, verdict_status}

-- the text and the status that tell the verdict on a text
pub record IsTold (text told : List ℕ) (status : ℕ) : Type 0 where
  pub verdict : Judged
  pub is : IsVerdictOn text verdict
  pub told_is : told ≡ verdict_text verdict
  pub status_is : status ≡ verdict_status verdict

-- the statuses at which there was a verdict: its text was written, or a write failed
abbrev pub was_judged : ℕ → Bool
was_judged status = (status == 0) || ((status == 4) || (status == 7))

-- the statuses of the command
abbrev pub IsSortStatus : ℕ → Type 0
IsSortStatus status =
    (status ≡ 0) ⊎ ((status ≡ 1) ⊎ ((status ≡ 3) ⊎ ((status ≡ 4) ⊎ ((status ≡ 6)
    ⊎ (status ≡ 7)))))

-- the source was read to its end, and had at most 1,048,576 bytes
abbrev pub IsReadWhole : Option (List ℕ) → Option (List ℕ) → Type 0
IsReadWhole old new = TakesAtMost old new 1048576 × IsAtEnd new

-- it was read to its end, or until it gave one byte more than the limit
abbrev pub IsReadOrTooLong : Option (List ℕ) → Option (List ℕ) → Type 0
IsReadOrTooLong old new = IsReadWhole old new ⊎ TakesCount old new 1048577

-- how far the source was read
pub record IsSourceReadAt (status : ℕ) (old new : Option (List ℕ)) : Type 0 where
  pub verdict : was_judged status ≡ true → IsReadWhole old new
  pub refused : status ≡ 1 → IsReadOrTooLong old new
  pub cut_short : (status ≡ 3) ⊎ (status ≡ 6) → TakesAtMost old new 1048576

-- the text has this refusal, and its line is gained
pub record IsRefusedSource (told : Option (List ℕ)) (gains : List ℕ → Type 0) : Type 0 where
  pub kind : Kind
  pub place : ℕ
  pub refusal : OnTold told (λ text. IsRefusal text kind place)
  pub line : gains (refusal_line kind place)

-- the sink gained the text that tells the verdict, where the status goes with it; or at 4 a prefix
-- of that text
pub record WritesVerdict (told : Option (List ℕ)) (status : ℕ)
    (was now : Option (List ℕ)) : Type 0 where
  pub text : List ℕ
  pub verdict : Judged
  pub is_text : OnTold told (λ t. t ≡ text)
  pub is : IsVerdictOn text verdict
  pub written : ((status ≡ verdict_status verdict) × Appends was now (verdict_text verdict))
      ⊎ ((status ≡ 4) × GainsPrefix was now (verdict_text verdict))
