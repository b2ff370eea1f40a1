-- The parts of the command make one of its ends.
use Rattle.std.proofs.Common.{◌≡◌, ℕ, ◌≤◌, List, Option, inl, inr, refl, sym, subst, length}
use Rattle.std.specs.Prelude.{Result, Ok, Err, IfOk, IfErr}
use Rattle.std.specs.Io.KnownBytes.{Consumes, IsAtEnd}
use Rattle.join_base.specs.Bytes.{TakesCount, TakesAtMost}
use Rattle.join_base.specs.Counts.{Rose}
use Rattle.join_base.specs.declared.fault.Kind.{Kind}
use Rattle.join_base.specs.declared.fault.Kind.TheVariants.{Lex1}
use Rattle.join_base.specs.declared.fault.Front.{Front}
use Rattle.join_base.specs.declared.fault.Front.TheVariants as front
use Rattle.join_base.specs.declared.fault.ReadEnd.{ReadEnd}
use Rattle.join_base.specs.declared.fault.ReadEnd.TheVariants as read
use Rattle.text_program.specs.Streams.{OnTold, line_of}
use Rattle.text_program.specs.Text.{IsRefusal, refusal_line}
use Rattle.text_program.specs.inside.Text.{NamesRefusal}
use Rattle.sort_judge.specs.declared.told.Told.{Told}
use Rattle.sort_judge.specs.Command.{IsTold, IsReadWhole}
use Rattle.sort_judge.specs.inside.Ends.{IsEnd, judged, cut_off, refused, unread, no_memory, Tells}
use Rattle.sort_judge.specs.inside.Ends.{TellsText, Refuses, TellsEnd}
use Rattle.sort_judge.proofs.Read.{told, whole, long_refused}

-- what a source that gave no text leaves
abbrev pub Unread : {S : Type 0} → (left : S → Option (List ℕ)) → (faults : S → ℕ) → (old new : S)
    → ReadEnd → Type 0
Unread left faults old new read.TooLong = TakesCount (left old) (left new) 1048577
Unread left faults old new read.ReadFault =
    TakesAtMost (left old) (left new) 1048576 × Rose (faults old) (faults new)
Unread left faults old new read.Memory = TakesAtMost (left old) (left new) 1048576

pub unread_of : {S : Type 0} (left : S → Option (List ℕ)) (faults : S → ℕ) (old new : S)
    (e : ReadEnd)
    → (◌≡◌ {A = Result (List ℕ) ReadEnd} (Err e) (Err read.TooLong)
    → TakesCount (left old) (left new) 1048577)
    → (◌≡◌ {A = Result (List ℕ) ReadEnd} (Err e) (Err read.ReadFault)
    → TakesAtMost (left old) (left new) 1048576)
    → (◌≡◌ {A = Result (List ℕ) ReadEnd} (Err e) (Err read.Memory)
    → TakesAtMost (left old) (left new) 1048576)
    → (◌≡◌ {A = Result (List ℕ) ReadEnd} (Err e) (Err read.ReadFault)
    → Rose (faults old) (faults new)) → Unread left faults old new e
unread_of left faults old new read.TooLong long fault memory cause = long refl
unread_of left faults old new read.ReadFault long fault memory cause = (fault refl, cause refl)
unread_of left faults old new read.Memory long fault memory cause = memory refl

module _ (was now : Option (List ℕ)) (write_fault untouched : Type 0) (gains : List ℕ → Type 0)
    (silent : Type 0) (status : ℕ) where
  module _ (old new : Option (List ℕ)) (read_fault : Type 0) (text : List ℕ)
      (took : Consumes old new text) (end : IsAtEnd new) (short : length text ≤ 1048576) where
    abbrev End : Type 0
    End = IsEnd old new read_fault was now write_fault untouched gains silent status

    all : IsReadWhole old new
    all = whole old new text took end short

    it_is : OnTold old (λ t. t ≡ text)
    it_is = told (λ t. t ≡ text) old new text took end refl

    of_memory : untouched → gains (line_of 6) → status ≡ 6 → End
    of_memory same line e = no_memory all.0 same line e

    of_told : (t : List ℕ) (meant : ℕ) → IsTold text t meant
        → Tells t meant was now write_fault gains silent status → End
    of_told t meant j (inl h) = judged text t all it_is (subst (IsTold text t) (sym h.0) j) h.1 h.2
    of_told t meant j (inr h) = cut_off text t meant all it_is j h.1 h.2 h.3 h.0

    of_refusal : (kind : Kind) (place : ℕ) → IsRefusal text kind place → untouched
        → Refuses 1 (refusal_line kind place) gains status → End
    of_refusal kind place is same (inl h) = refused kind place (inl all)
        (told (λ t. IsRefusal t kind place) old new text took end is) same h.1 h.0
    of_refusal kind place is same (inr h) = of_memory same h.1 h.0

    pub of_text : (r : Result Told Front) → IfOk r (λ (t : Told). IsTold text t.text t.status)
        → IfErr r (NamesRefusal text)
        → TellsText r was now write_fault untouched gains silent status → End
    of_text (Ok t) j n h = of_told t.text t.status j h
    of_text (Err (front.Refused kind place)) j n h = of_refusal kind place n h.0 h.1
    of_text (Err front.Memory) j n h = of_memory h.0 h.2 h.1

  pub of_end : {S : Type 0} (left : S → Option (List ℕ)) (faults : S → ℕ) (old new : S)
      (e : ReadEnd) → Unread left faults old new e → untouched → TellsEnd e gains status
      → IsEnd (left old) (left new) (Rose (faults old) (faults new)) was now write_fault untouched
      gains silent status
  of_end left faults old new read.TooLong h same t =
      refused Lex1 1048576 (inr h) (long_refused (left old) (left new) h) same t.1 t.0
  of_end left faults old new read.ReadFault h same t = unread h.0 h.1 same t.1 t.0
  of_end left faults old new read.Memory h same t = no_memory h same t.1 t.0
