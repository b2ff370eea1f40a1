-- What the top call says where there is no job, and where there is one.
use Rattle.std.proofs.Common.{◌≡◌, ℕ, ◌≤◌, List, true, false, Option, Some, None, IfSome, is_some}
use Rattle.std.proofs.Common.{◌⊎◌, inl, inr, sym, ap, ◌∙◌, subst, lit≤}
use Rattle.join_base.specs.Bytes.{TakesAtMost, TakesCount}
use Rattle.join_base.specs.Counts.{Rose}
use Rattle.join_base.specs.declared.fault.Front.TheVariants as front
use Rattle.join_base.specs.declared.fault.ReadEnd.TheVariants as read
use Rattle.join_words.specs.declared.answer.Asked.{Asked}
use Rattle.join_top.specs.declared.job.Stop.{Stop}
use Rattle.join_top.specs.declared.job.Stop.TheVariants as stop
use Rattle.join_top.specs.declared.run.Kept.{Kept as Left}
use Rattle.join_top.specs.declared.top.Ended.{Ended}
use Rattle.join_top.specs.Task.{Words, task, ring_asked, text_run, ReadOrRing}
use Rattle.join_top.specs.RunJoin.{ComesExactly, has_run, IsReadAt, IsReadToEnd, Reads, IsRefused}
use Rattle.join_top.specs.RunJoin.{Keeps, IsRunAsked}
use Rattle.join_top.specs.inside.Job.{IsStop, StatusOf, GainsRefusal}
use Rattle.join_top.proofs.Reading.{nothing_taken, both, weaker}
use Rattle.join_top.proofs.Long.{refused_long}

-- ---- the statuses where there is no job

abbrev NoRun : ℕ → Type 0
NoRun status = (status ≡ 1) ⊎ ((status ≡ 2) ⊎ ((status ≡ 3) ⊎ (status ≡ 6)))

no_run : (stop : Stop) (status : ℕ) → StatusOf stop status → NoRun status
no_run stop.Form status e = inr (inl e)
no_run stop.Memory status e = inr (inr (inr e))
no_run (stop.Source read.TooLong) status e = inl e
no_run (stop.Source read.ReadFault) status e = inr (inr (inl e))
no_run (stop.Source read.Memory) status e = inr (inr (inr e))
no_run (stop.Text (front.Refused kind place)) status (inl e) = inl e
no_run (stop.Text (front.Refused kind place)) status (inr e) = inr (inr (inr e))
no_run (stop.Text front.Memory) status e = inr (inr (inr e))

not_run : (status : ℕ) → NoRun status → false ≡ has_run status
not_run status (inl e) = ap has_run (sym e)
not_run status (inr (inl e)) = ap has_run (sym e)
not_run status (inr (inr (inl e))) = ap has_run (sym e)
not_run status (inr (inr (inr e))) = ap has_run (sym e)

at_most : (status : ℕ) → NoRun status → status ≤ 6
at_most status (inl e) = subst (λ (n : ℕ). n ≤ 6) (sym e) (lit≤ tt)
at_most status (inr (inl e)) = subst (λ (n : ℕ). n ≤ 6) (sym e) (lit≤ tt)
at_most status (inr (inr (inl e))) = subst (λ (n : ℕ). n ≤ 6) (sym e) (lit≤ tt)
at_most status (inr (inr (inr e))) = subst (λ (n : ℕ). n ≤ 6) (sym e) (lit≤ tt)

no_write_fault : (status : ℕ) → NoRun status → status ≡ 4 → ⊥
no_write_fault status h e =
    let run : has_run 4 ≡ false = ap has_run (sym e) ∙ sym (not_run status h) in
    cc

not_form : (o : Option Asked) → is_some o ≡ true → o ≡ None → ⊥
not_form None some none = cc
not_form (Some a) some none = cc

pub nothing_kept : (kept : Option Left) → kept ≡ None → (P : Left → Type 0) → IfSome kept P
nothing_kept kept none P = subst (λ (k : Option Left). IfSome k P) (sym none) tt

module _ (stop : Stop) (status : ℕ) (s : StatusOf stop status) where
  pub known : status ≤ 6
  known = at_most status (no_run stop status s)

  pub no_write : status ≡ 4 → ⊥
  no_write = no_write_fault status (no_run stop status s)

  pub keeps_none : (words : Words) (told : Option (List ℕ)) (it : Ended) → it.status ≡ status
      → it.kept ≡ None → Keeps words told it
  keeps_none words told it at none = record {
    exactly = ap is_some none ∙ not_run status (no_run stop status s) ∙ ap has_run (sym at);
    run = nothing_kept it.kept none (IsRunAsked words told);
  }

-- ---- the words, the source, and the refusal

module _ {S : Type 0} (words : Words) (left : S → Option (List ℕ)) (faults : S → ℕ)
    (old new : S) where
  usage_only : (status : ℕ) → is_some (task words) ≡ true → (status ≡ 2 → ⊥)
      → ComesExactly status 2 (task words ≡ None)
  usage_only status some other = record {
    only = λ e. absurd (other e);
    always = λ none. absurd (not_form (task words) some none);
  }

  pub usage : (stop : Stop) (status : ℕ) → IsStop words left faults old new stop
      → StatusOf stop status → ComesExactly status 2 (task words ≡ None)
  usage stop.Form status h e = record { only = λ _. h.0; always = λ _. inl e }
  usage stop.Memory status h e = record { only = λ t. absurd cc; always = λ _. inr e }
  usage (stop.Source read.TooLong) status h e = usage_only status h.0 (λ t. cc)
  usage (stop.Source read.ReadFault) status h e = usage_only status h.0 (λ t. cc)
  usage (stop.Source read.Memory) status h e = usage_only status h.0 (λ t. cc)
  usage (stop.Text (front.Refused kind place)) status h (inl e) = usage_only status h.0 (λ t. cc)
  usage (stop.Text (front.Refused kind place)) status h (inr e) = usage_only status h.0 (λ t. cc)
  usage (stop.Text front.Memory) status h e = usage_only status h.0 (λ t. cc)

  pub read_fault : (stop : Stop) (status : ℕ) → IsStop words left faults old new stop
      → StatusOf stop status → status ≡ 3 → Rose (faults old) (faults new)
  read_fault stop.Form status h e t = absurd cc
  read_fault stop.Memory status h e t = absurd cc
  read_fault (stop.Source read.TooLong) status h e t = absurd cc
  read_fault (stop.Source read.ReadFault) status (some, (part, rose)) e t = rose
  read_fault (stop.Source read.Memory) status h e t = absurd cc
  read_fault (stop.Text (front.Refused kind place)) status h (inl e) t = absurd cc
  read_fault (stop.Text (front.Refused kind place)) status h (inr e) t = absurd cc
  read_fault (stop.Text front.Memory) status h e t = absurd cc

  -- a part of the source was read, and then there was a fault of it or no memory
  cut_short : (status : ℕ) → (status ≡ 1 → ⊥) → (status ≡ 2 → ⊥) → has_run status ≡ false
      → TakesAtMost (left old) (left new) 1048576 → IsReadAt S status left old new
  cut_short status no_refusal no_usage none part = record {
    usage = λ u. absurd (no_usage u);
    run = λ r. absurd cc;
    refused = λ u. absurd (no_refusal u);
    cut_short = λ _. part;
  }

  refused : (status : ℕ) → (status ≡ 2 → ⊥) → IsReadToEnd (left old) (left new)
      → IsReadAt S status left old new
  refused status no_usage all = record {
    usage = λ u. absurd (no_usage u);
    run = λ _. all;
    refused = λ _. inl all;
    cut_short = λ _. all.0;
  }

  form : (status : ℕ) → status ≡ 2 → new ≡ old → IsReadAt S status left old new
  form status e same = record {
    usage = λ _. same;
    run = λ r. absurd (let run : has_run 2 ≡ true = ap has_run (sym e) ∙ r in cc);
    refused = λ u. absurd cc;
    cut_short = by_cut;
  }
    where
      by_cut : (status ≡ 3) ⊎ (status ≡ 6) → TakesAtMost (left old) (left new) 1048576
      by_cut (inl t) = absurd cc
      by_cut (inr t) = absurd cc

  long : (status : ℕ) → status ≡ 1 → TakesCount (left old) (left new) 1048577
      → IsReadAt S status left old new
  long status e all = record {
    usage = λ u. absurd cc;
    run = λ r. absurd (let run : has_run 1 ≡ true = ap has_run (sym e) ∙ r in cc);
    refused = λ _. inr all;
    cut_short = by_cut;
  }
    where
      by_cut : (status ≡ 3) ⊎ (status ≡ 6) → TakesAtMost (left old) (left new) 1048576
      by_cut (inl t) = absurd cc
      by_cut (inr t) = absurd cc

  none_taken : new ≡ old → TakesAtMost (left old) (left new) 1048576
  none_taken same = subst (λ (s : S). TakesAtMost (left old) (left s) 1048576) (sym same)
      (nothing_taken (left old))

  pub reads : (stop : Stop) (status : ℕ) → IsStop words left faults old new stop
      → StatusOf stop status → Reads words status left old new
  reads stop.Form status (none, same) e = both (ring_asked words) _ _ (form status e same) same
  reads stop.Memory status h e = both (ring_asked words) _ _
      (cut_short status (λ t. cc) (λ t. cc) (ap has_run e) (none_taken h)) h
  reads (stop.Source read.TooLong) status (some, (none, took)) e =
      subst (λ (r : Option ℕ). ReadOrRing r (IsReadAt S status left old new) (new ≡ old)) (sym none)
      (long status e took)
  reads (stop.Source read.ReadFault) status (some, (part, rose)) e =
      weaker (ring_asked words) _ _ _ (cut_short status (λ t. cc) (λ t. cc) (ap has_run e)) part
  reads (stop.Source read.Memory) status (some, part) e =
      weaker (ring_asked words) _ _ _ (cut_short status (λ t. cc) (λ t. cc) (ap has_run e)) part
  reads (stop.Text (front.Refused kind place)) status (some, all, named) (inl e) =
      weaker (ring_asked words) _ _ _ (refused status (λ t. cc)) all
  reads (stop.Text (front.Refused kind place)) status (some, all, named) (inr e) =
      weaker (ring_asked words) _ _ _ (refused status (λ t. cc)) all
  reads (stop.Text front.Memory) status (some, all, named) e =
      weaker (ring_asked words) _ _ _ (refused status (λ t. cc)) all

  pub is_refused : (gains : List ℕ → Type 0) (stop : Stop) (status : ℕ)
      → IsStop words left faults old new stop → StatusOf stop status → status ≡ 1
      → GainsRefusal stop gains → IsRefused (text_run words (left old)) gains
  is_refused gains stop.Form status h e t line = absurd cc
  is_refused gains stop.Memory status h e t line = absurd cc
  is_refused gains (stop.Source read.TooLong) status (some, (none, took)) e t line =
      refused_long (ring_asked words) (left old) (left new) gains none took line
  is_refused gains (stop.Source read.ReadFault) status h e t line = absurd cc
  is_refused gains (stop.Source read.Memory) status h e t line = absurd cc
  is_refused gains (stop.Text (front.Refused kind place)) status (some, all, named) e t line =
      record { kind = kind; place = place; refusal = named; line = line }
  is_refused gains (stop.Text front.Memory) status h e t line = absurd cc
