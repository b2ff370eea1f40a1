-- What was read to the end is what the source told.
use Rattle.std.proofs.Common.{◌≡◌, ℕ, ◌≤◌, List, [], ◌++◌, Option, Some, None, refl, ap, sym, ◌∙◌}
use Rattle.std.proofs.Common.{subst, length}
use Rattle.std.proofs.lemmas.List.{append-nil}
use Rattle.std.specs.Io.KnownBytes.{Consumes, IsAtEnd}
use Rattle.std.specs.Prelude.{Result, Ok, Err, OnOk, IfOk, IfErr}
use Rattle.trace_text.specs.LogText.{Spells}
use Rattle.trace_text.specs.LogFields.{WrongAt}
use Rattle.trace_text.specs.ReadLog.{parts}
use Rattle.trace_text.specs.declared.read.Log.{Log}
use Rattle.trace_text.specs.declared.fault.LogEnd.TheVariants as bytes
use Rattle.log_judge.specs.declared.log.LogStop.{LogStop}
use Rattle.log_judge.specs.declared.log.LogStop.TheVariants as stop
use Rattle.log_judge.specs.inside.Ends.{IsStop, IsNoLogIn}
use Rattle.text_program.specs.Streams.{OnTold}
use Rattle.log_judge.specs.Judged.{IsReadWhole}

pub told : (P : List ℕ → Type 0) (old new : Option (List ℕ)) (text : List ℕ) → Consumes old new text
    → IsAtEnd new → P text → OnTold old P
told P None new text h e p = tt
told P (Some bytes) None text h e p = absurd h
told P (Some bytes) (Some rest) text h e p =
    let is : bytes ≡ text = h ∙ ap (λ (xs : List ℕ). text ++ xs) e ∙ append-nil text in
    subst P (sym is) p

pub whole : (old new : Option (List ℕ)) (text : List ℕ) → Consumes old new text → IsAtEnd new
    → length text ≤ 134217728 → IsReadWhole old new
whole old new text h e short = ((text, h, short), e)

pub on_ok : {X Y : Type 0} (r : Result X Y) (P : Type 0) → P → OnOk r P
on_ok (Ok x) P p = p
on_ok (Err y) P p = tt

pub log_told : (old new : Option (List ℕ)) (text : List ℕ) → Consumes old new text → IsAtEnd new
    → (r : Result Log LogStop) → IfOk r (λ (log : Log). Spells (parts log) text)
    → IfOk r (λ (log : Log). OnTold old (Spells (parts log)))
log_told old new text h e (Ok log) is = told (Spells (parts log)) old new text h e is
log_told old new text h e (Err s) is = tt

-- why there is no log, where the bytes were read
pub no_log : {S : Type 0} (left : S → Option (List ℕ)) (faults : S → ℕ) (old new : S)
    (text : List ℕ) → Consumes (left old) (left new) text → IsAtEnd (left new)
    → length text ≤ 134217728
    → (r : Result Log LogStop) → IfErr r (IsNoLogIn text) → IfErr r (IsStop left faults old new)
no_log left faults old new text h e short (Ok log) is = tt
no_log left faults old new text h e short (Err (stop.Source end)) is = absurd is
no_log left faults old new text h e short (Err (stop.Log (bytes.Bad place))) is = (
  whole (left old) (left new) text h e short,
  told (λ (t : List ℕ). WrongAt t place) (left old) (left new) text h e is,
)
no_log left faults old new text h e short (Err (stop.Log bytes.Memory)) is =
    whole (left old) (left new) text h e short
