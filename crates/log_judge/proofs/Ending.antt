-- The parts of a command on a log make one of its ends.
use Rattle.std.proofs.Common.{◌≡◌, ℕ, List, Option, ◌⊎◌, inl, inr, sym, subst}
use Rattle.std.specs.Prelude.{Result, Ok, Err, IfOk, IfErr}
use Rattle.join_base.specs.Counts.{Rose}
use Rattle.join_base.specs.declared.fault.Kind.{Kind}
use Rattle.join_base.specs.declared.fault.Front.{Front}
use Rattle.join_base.specs.declared.fault.Front.TheVariants as front
use Rattle.join_base.specs.declared.fault.ReadEnd.TheVariants as read
use Rattle.trace_text.specs.LogText.{LogParts, Spells}
use Rattle.trace_text.specs.declared.fault.LogEnd.TheVariants as bytes
use Rattle.text_program.specs.Streams.{OnTold, line_of}
use Rattle.text_program.specs.Text.{IsRefusal, refusal_line}
use Rattle.text_program.specs.inside.Text.{NamesRefusal}
use Rattle.log_judge.specs.declared.told.Told.{Told}
use Rattle.log_judge.specs.declared.ask.Ask.{Ask}
use Rattle.log_judge.specs.declared.log.LogStop.{LogStop}
use Rattle.log_judge.specs.declared.log.LogStop.TheVariants as stop
use Rattle.log_judge.specs.Judged.{IsReadWhole, IsJudgedAs, wrong_line}
use Rattle.log_judge.specs.inside.Ends.{IsEnd, judged, cut_off, refused, wrong, too_long, unread}
use Rattle.log_judge.specs.inside.Ends.{no_memory, IsStop, Tells, TellsLog, Refuses, TellsStop}

module _ (ask : Ask) (was now : Option (List ℕ)) (write_fault untouched : Type 0)
    (gains : List ℕ → Type 0) (silent : Type 0) (status : ℕ) where
  module _ (old new : Option (List ℕ)) (read_fault : Type 0) (whole : IsReadWhole old new) where
    pub of_memory : untouched → gains (line_of 6) → status ≡ 6
        → IsEnd ask old new read_fault was now write_fault untouched gains silent status
    of_memory same line e = no_memory whole.0 same line e

    module _ (log : LogParts) (is_log : OnTold old (Spells log)) where
      pub of_told : (text : List ℕ) (meant : ℕ) → IsJudgedAs ask log text meant
          → Tells text meant was now write_fault gains silent status
          → IsEnd ask old new read_fault was now write_fault untouched gains silent status
      of_told text meant j (inl h) =
          judged log text whole is_log (subst (IsJudgedAs ask log text) (sym h.0) j) h.1 h.2
      of_told text meant j (inr h) = cut_off log text meant whole is_log j h.1 h.2 h.3 h.0

      pub of_refusal : (kind : Kind) (place : ℕ) → IsRefusal log.source kind place → untouched
          → Refuses 1 (refusal_line kind place) gains status
          → IsEnd ask old new read_fault was now write_fault untouched gains silent status
      of_refusal kind place is same (inl h) = refused log kind place whole is_log is same h.1 h.0
      of_refusal kind place is same (inr h) = of_memory same h.1 h.0

      pub of_log : (r : Result Told Front)
          → IfOk r (λ (t : Told). IsJudgedAs ask log t.text t.status)
          → IfErr r (NamesRefusal log.source)
          → TellsLog r was now write_fault untouched gains silent status
          → IsEnd ask old new read_fault was now write_fault untouched gains silent status
      of_log (Ok told) j n t = of_told told.text told.status j t
      of_log (Err (front.Refused kind place)) j n t = of_refusal kind place n t.0 t.1
      of_log (Err front.Memory) j n t = of_memory t.0 t.2 t.1

  pub of_stop : {S : Type 0} (left : S → Option (List ℕ)) (faults : S → ℕ) (old new : S)
      (s : LogStop) → IsStop left faults old new s → untouched → TellsStop s gains status
      → IsEnd ask (left old) (left new) (Rose (faults old) (faults new)) was now write_fault
      untouched gains silent status
  of_stop left faults old new (stop.Source read.TooLong) h same t = too_long h same t.1 t.0
  of_stop left faults old new (stop.Source read.ReadFault) h same t = unread h.0 h.1 same t.1 t.0
  of_stop left faults old new (stop.Source read.Memory) h same t = no_memory h same t.1 t.0
  of_stop left faults old new (stop.Log (bytes.Bad place)) h same (inl t) =
      wrong place h.0 h.1 same t.1 t.0
  of_stop left faults old new (stop.Log (bytes.Bad place)) h same (inr t) =
      no_memory h.0.0 same t.1 t.0
  of_stop left faults old new (stop.Log bytes.Memory) h same t = no_memory h.0 same t.1 t.0
