-- Where the words want something of a log, where they want a source to be judged by its sorts,
-- where they want a run, and where memory ran out as they were read.
use Rattle.std.proofs.Common.{◌≡◌, ℕ, ◌≤◌, List, [], Option, Some, None, Bool, true, false, refl}
use Rattle.std.proofs.Common.{sym, subst, ◌⊎◌, inl, inr, lit≤}
use Rattle.std.proofs.lemmas.Bool.{false≢true}
use Rattle.join_base.specs.Bytes.{TakesAtMost}
use Rattle.join_words.specs.declared.answer.Asked.{Asked}
use Rattle.join_words.specs.declared.answer.Job.{Job}
use Rattle.join_words.specs.declared.answer.Job.TheVariants as job
use Rattle.log_judge.specs.declared.ask.Ask.{Ask}
use Rattle.log_judge.specs.Judged.{IsLogStatus, IsLogReadAt}
use Rattle.sort_judge.specs.Command.{IsSortStatus, IsSourceReadAt}
use Rattle.join_top.specs.Task.{Words, task, ask_of, log_asked, ask_if, LogOrRun, is_of_sorts}
use Rattle.join_top.specs.Task.{sorts_asked, sorts_if, SortsOrRun, ByTask}
use Rattle.join_top.specs.declared.top.Ended.{Ended}
use Rattle.join_top.specs.RunJoin.{ComesExactly}

pub on_run : (o : Option Ask) (log : Ask → Type 0) (run : Type 0) → None ≡ o → run
    → LogOrRun o log run
on_run o log run none r = subst (λ (x : Option Ask). LogOrRun x log run) none r

pub on_log : (o : Option Ask) (ask : Ask) (log : Ask → Type 0) (run : Type 0) → Some ask ≡ o
    → log ask → LogOrRun o log run
on_log o ask log run e h = subst (λ (x : Option Ask). LogOrRun x log run) e h

pub on_both : (o : Option Ask) (log : Ask → Type 0) (run : Type 0) → ((ask : Ask) → log ask) → run
    → LogOrRun o log run
on_both None log run l r = r
on_both (Some ask) log run l r = l ask

pub on_sorts : (b : Bool) (sorts run : Type 0) → true ≡ b → sorts → SortsOrRun b sorts run
on_sorts b sorts run e h = subst (λ (x : Bool). SortsOrRun x sorts run) e h

pub off_sorts : (b : Bool) (sorts run : Type 0) → false ≡ b → run → SortsOrRun b sorts run
off_sorts b sorts run e h = subst (λ (x : Bool). SortsOrRun x sorts run) e h

pub either_sorts : (b : Bool) (sorts run : Type 0) → sorts → run → SortsOrRun b sorts run
either_sorts true sorts run s r = s
either_sorts false sorts run s r = r

-- what is wanted of a log is no judgement of sorts
log_no_sorts : (o : Option Asked) (ask : Ask) → Some ask ≡ ask_if o → false ≡ sorts_if o
log_no_sorts None ask e = refl
log_no_sorts (Some a) ask e = go a.job e
  where
    go : (j : Job) → Some ask ≡ ask_of j → false ≡ is_of_sorts j
    go job.Run f = refl
    go job.Check f = refl
    go job.Explain f = refl
    go job.Sorts f = cc

pub no_sorts : (words : Words) (ask : Ask) → Some ask ≡ log_asked words → false ≡ sorts_asked words
no_sorts words ask e = log_no_sorts (task words) ask e

module _ (words : Words) (log : Ask → Type 0) (sorts run : Type 0) where
  pub by_log : (ask : Ask) → Some ask ≡ log_asked words → log ask → ByTask words log sorts run
  by_log ask e h = on_log (log_asked words) ask log (SortsOrRun (sorts_asked words) sorts run) e h

  pub by_sorts : None ≡ log_asked words → true ≡ sorts_asked words → sorts
      → ByTask words log sorts run
  by_sorts none e h = on_run (log_asked words) log (SortsOrRun (sorts_asked words) sorts run) none
      (on_sorts (sorts_asked words) sorts run e h)

  pub by_run : None ≡ log_asked words → false ≡ sorts_asked words → run → ByTask words log sorts run
  by_run none e h = on_run (log_asked words) log (SortsOrRun (sorts_asked words) sorts run) none
      (off_sorts (sorts_asked words) sorts run e h)

  pub by_any : ((ask : Ask) → log ask) → sorts → run → ByTask words log sorts run
  by_any l s r = on_both (log_asked words) log (SortsOrRun (sorts_asked words) sorts run) l
      (either_sorts (sorts_asked words) sorts run s r)

-- ---- a log

not_usage : (status : ℕ) → IsLogStatus status → status ≡ 2 → ⊥
not_usage status (inl e) h = cc
not_usage status (inr (inl e)) h = cc
not_usage status (inr (inr (inl e))) h = cc
not_usage status (inr (inr (inr (inl e)))) h = cc
not_usage status (inr (inr (inr (inr (inl e))))) h = cc
not_usage status (inr (inr (inr (inr (inr (inl e)))))) h = cc
not_usage status (inr (inr (inr (inr (inr (inr e)))))) h = cc

asked_some : (o : Option Asked) (ask : Ask) → o ≡ None → Some ask ≡ ask_if o → ⊥
asked_some None ask n e = cc
asked_some (Some a) ask n e = cc

pub usage : (words : Words) (ask : Ask) (status : ℕ) → Some ask ≡ log_asked words
    → IsLogStatus status → ComesExactly status 2 (task words ≡ None)
usage words ask status e k = record {
  only = λ h. absurd (not_usage status k h);
  always = λ none. absurd (asked_some (task words) ask none e);
}

-- ---- a source that is judged by its sorts

sort_no_usage : (status : ℕ) → IsSortStatus status → status ≡ 2 → ⊥
sort_no_usage status (inl e) h = cc
sort_no_usage status (inr (inl e)) h = cc
sort_no_usage status (inr (inr (inl e))) h = cc
sort_no_usage status (inr (inr (inr (inl e)))) h = cc
sort_no_usage status (inr (inr (inr (inr (inl e))))) h = cc
sort_no_usage status (inr (inr (inr (inr (inr e))))) h = cc

sorts_some : (o : Option Asked) → o ≡ None → true ≡ sorts_if o → ⊥
sorts_some None n e = cc
sorts_some (Some a) n e = cc

pub sort_usage : (words : Words) (status : ℕ) → true ≡ sorts_asked words → IsSortStatus status
    → ComesExactly status 2 (task words ≡ None)
sort_usage words status e k = record {
  only = λ h. absurd (sort_no_usage status k h);
  always = λ none. absurd (sorts_some (task words) none e);
}

-- ---- memory ran out

nothing_taken : (left : Option (List ℕ)) → TakesAtMost left left 134217728
nothing_taken None = ([], tt, lit≤ tt)
nothing_taken (Some bytes) = ([], refl, lit≤ tt)

pub unread : (left : Option (List ℕ)) → IsLogReadAt 6 left left
unread left = record {
  verdict = λ h. absurd (false≢true h);
  refused = λ h. absurd cc;
  no_log = λ h. absurd cc;
  cut_short = λ _. nothing_taken left;
}

nothing_taken_of : (left : Option (List ℕ)) → TakesAtMost left left 1048576
nothing_taken_of None = ([], tt, lit≤ tt)
nothing_taken_of (Some bytes) = ([], refl, lit≤ tt)

pub unread_source : (left : Option (List ℕ)) → IsSourceReadAt 6 left left
unread_source left = record {
  verdict = λ h. absurd (false≢true h);
  refused = λ h. absurd cc;
  cut_short = λ _. nothing_taken_of left;
}

pub sorts_out_of_memory : IsSortStatus 6
sorts_out_of_memory = inr (inr (inr (inr (inl refl))))

pub out_of_memory : IsLogStatus 6
out_of_memory = inr (inr (inr (inr (inl refl))))

pub at_six : (it : Ended) → it ≡ record { status = 6; kept = None } → (P : Ended → Type 0)
    → P (record { status = 6; kept = None }) → P it
at_six it is P p = subst P (sym is) p

pub not_silent : (s : ℕ) → s ≡ 6 → (s ≡ 0) ⊎ (s ≡ 7) → ⊥
not_silent s six (inl e) = cc
not_silent s six (inr e) = cc

pub not_ended : (s : ℕ) → s ≡ 6 → (s ≡ 0) ⊎ (s ≡ 5) → ⊥
not_ended s six (inl e) = cc
not_ended s six (inr e) = cc
