-- What each end of a command on a log says.
use Rattle.std.proofs.Common.{◌≡◌, ℕ, List, [], ◌++◌, Option, Some, None, Bool, true, false, ◌⊎◌}
use Rattle.std.proofs.Common.{inl, inr, refl, ap, sym, ◌∙◌, subst}
use Rattle.std.proofs.lemmas.Bool.{true≢false, false≢true}
use Rattle.std.proofs.lemmas.List.{append-nil}
use Rattle.std.specs.Io.KnownBytes.{Appends}
use Rattle.join_base.specs.Bytes.{TakesAtMost}
use Rattle.run_check.specs.declared.answer.Verdict.{Verdict}
use Rattle.run_check.specs.declared.answer.Verdict.TheVariants as verdict
use Rattle.text_program.specs.Streams.{Gains, line_of}
use Rattle.log_judge.specs.declared.ask.Ask.{Ask}
use Rattle.log_judge.specs.Judged.{IsReadWhole, IsTold, IsLogStatus, has_verdict, IsLogReadAt}
use Rattle.log_judge.specs.Judged.{IsRefusedLog, IsNoLog, WritesVerdict}
use Rattle.log_judge.specs.inside.Ends.{IsEnd, judged, cut_off, refused, wrong, too_long, unread}
use Rattle.log_judge.specs.inside.Ends.{no_memory}

-- ---- statuses

told_status : (ask : Ask) (v : Verdict) (text : List ℕ) (status : ℕ) → IsTold ask v text status
    → (status ≡ 0) ⊎ (status ≡ 7)
told_status ask (verdict.Yes book) text status h = inl h.1
told_status ask (verdict.Event index) text status h = inr h.1
told_status ask (verdict.Trace place) text status h = inr h.1

module _ (status : ℕ) where
  abbrev IsTwo : Type 0
  IsTwo = (status ≡ 0) ⊎ (status ≡ 7)

  is_known : IsTwo → IsLogStatus status
  is_known (inl e) = inl e
  is_known (inr e) = inr (inr (inr (inr (inr (inl e)))))

  not_one : IsTwo → status ≡ 1 → ⊥
  not_one (inl a) e = cc
  not_one (inr a) e = cc

  not_four : IsTwo → status ≡ 4 → ⊥
  not_four (inl a) e = cc
  not_four (inr a) e = cc

  not_three : IsTwo → status ≡ 3 → ⊥
  not_three (inl a) e = cc
  not_three (inr a) e = cc

  not_six : IsTwo → status ≡ 6 → ⊥
  not_six (inl a) e = cc
  not_six (inr a) e = cc

  not_eight : IsTwo → status ≡ 8 → ⊥
  not_eight (inl a) e = cc
  not_eight (inr a) e = cc

  with_verdict : IsTwo → has_verdict status ≡ false → ⊥
  with_verdict (inl a) e = true≢false (ap has_verdict (sym a) ∙ e)
  with_verdict (inr a) e = true≢false (ap has_verdict (sym a) ∙ e)

  without : (k : ℕ) → has_verdict k ≡ false → status ≡ k → has_verdict status ≡ true → ⊥
  without k none a e = true≢false (sym e ∙ ap has_verdict a ∙ none)

  no_cut : IsTwo → (status ≡ 3) ⊎ (status ≡ 6) → ⊥
  no_cut t (inl e) = not_three t e
  no_cut t (inr e) = not_six t e

-- ---- the clauses

module _ (ask : Ask) (old new : Option (List ℕ)) (fault : Type 0) (was now : Option (List ℕ))
    (failed untouched : Type 0) (gains : List ℕ → Type 0) (silent : Type 0) (status : ℕ) where
  abbrev End : Type 0
  End = IsEnd ask old new fault was now failed untouched gains silent status

  pub known : End → IsLogStatus status
  known (judged log text whole is j w s) =
      is_known status (told_status ask j.verdict text status j.told)
  known (cut_off log text meant whole is j p f l e) = inr (inr (inr (inl e)))
  known (refused log kind place whole is r u l e) = inr (inl e)
  known (wrong place whole w u l e) = inr (inr (inr (inr (inr (inr e)))))
  known (too_long took u l e) = inr (inr (inr (inr (inr (inr e)))))
  known (unread took f u l e) = inr (inr (inl e))
  known (no_memory took u l e) = inr (inr (inr (inr (inl e))))

  pub read_fault : End → status ≡ 3 → fault
  read_fault (judged log text whole is j w s) h =
      absurd (not_three status (told_status ask j.verdict text status j.told) h)
  read_fault (cut_off log text meant whole is j p f l e) h = absurd cc
  read_fault (refused log kind place whole is r u l e) h = absurd cc
  read_fault (wrong place whole w u l e) h = absurd cc
  read_fault (too_long took u l e) h = absurd cc
  read_fault (unread took f u l e) h = f
  read_fault (no_memory took u l e) h = absurd cc

  pub write_fault : End → status ≡ 4 → failed
  write_fault (judged log text whole is j w s) h =
      absurd (not_four status (told_status ask j.verdict text status j.told) h)
  write_fault (cut_off log text meant whole is j p f l e) h = f
  write_fault (refused log kind place whole is r u l e) h = absurd cc
  write_fault (wrong place whole w u l e) h = absurd cc
  write_fault (too_long took u l e) h = absurd cc
  write_fault (unread took f u l e) h = absurd cc
  write_fault (no_memory took u l e) h = absurd cc

  pub reads : End → IsLogReadAt status old new
  reads (judged log text whole is j w s) =
      let two = told_status ask j.verdict text status j.told in
      record {
        verdict = λ _. whole;
        refused = λ _. whole;
        no_log = λ _. inl whole;
        cut_short = λ h. absurd (no_cut status two h);
      }
  reads (cut_off log text meant whole is j p f l e) = record {
    verdict = λ _. whole;
    refused = λ _. whole;
    no_log = λ _. inl whole;
    cut_short = λ _. whole.0;
  }
  reads (refused log kind place whole is r u l e) = record {
    verdict = λ _. whole;
    refused = λ _. whole;
    no_log = λ _. inl whole;
    cut_short = λ _. whole.0;
  }
  reads (wrong place whole w u l e) = record {
    verdict = λ _. whole;
    refused = λ _. whole;
    no_log = λ _. inl whole;
    cut_short = λ _. whole.0;
  }
  reads (too_long took u l e) = record {
    verdict = λ h. absurd (without status 8 refl e h);
    refused = λ h. absurd cc;
    no_log = λ _. inr took;
    cut_short = λ h. absurd (cut h);
  }
    where
      cut : (status ≡ 3) ⊎ (status ≡ 6) → ⊥
      cut (inl h) = cc
      cut (inr h) = cc
  reads (unread took f u l e) = record {
    verdict = λ h. absurd (without status 3 refl e h);
    refused = λ h. absurd cc;
    no_log = λ h. absurd cc;
    cut_short = λ _. took;
  }
  reads (no_memory took u l e) = record {
    verdict = λ h. absurd (without status 6 refl e h);
    refused = λ h. absurd cc;
    no_log = λ h. absurd cc;
    cut_short = λ _. took;
  }

  pub refusal : End → status ≡ 1 → IsRefusedLog old gains
  refusal (judged log text whole is j w s) h =
      absurd (not_one status (told_status ask j.verdict text status j.told) h)
  refusal (cut_off log text meant whole is j p f l e) h = absurd cc
  refusal (refused log kind place whole is r u l e) h =
      record { log = log; kind = kind; place = place; is_log = is; refusal = r; line = l }
  refusal (wrong place whole w u l e) h = absurd cc
  refusal (too_long took u l e) h = absurd cc
  refusal (unread took f u l e) h = absurd cc
  refusal (no_memory took u l e) h = absurd cc

  pub no_log : End → status ≡ 8 → IsNoLog old new gains
  no_log (judged log text whole is j w s) h =
      absurd (not_eight status (told_status ask j.verdict text status j.told) h)
  no_log (cut_off log text meant whole is j p f l e) h = absurd cc
  no_log (refused log kind place whole is r u l e) h = absurd cc
  no_log (wrong place whole w u l e) h = inl (whole, record { place = place; wrong = w; line = l })
  no_log (too_long took u l e) h = inr (took, l)
  no_log (unread took f u l e) h = absurd cc
  no_log (no_memory took u l e) h = absurd cc

  pub has_told : End → has_verdict status ≡ true → WritesVerdict ask old status was now
  has_told (judged log text whole is j w s) h = record {
    log = log;
    text = text;
    meant = status;
    is_log = is;
    judged = j;
    written = inl (refl, w);
  }
  has_told (cut_off log text meant whole is j p f l e) h = record {
    log = log;
    text = text;
    meant = meant;
    is_log = is;
    judged = j;
    written = inr (e, p);
  }
  has_told (refused log kind place whole is r u l e) h = absurd (without status 1 refl e h)
  has_told (wrong place whole w u l e) h = absurd (without status 8 refl e h)
  has_told (too_long took u l e) h = absurd (without status 8 refl e h)
  has_told (unread took f u l e) h = absurd (without status 3 refl e h)
  has_told (no_memory took u l e) h = absurd (without status 6 refl e h)

  pub out_untouched : End → has_verdict status ≡ false → untouched
  out_untouched (judged log text whole is j w s) h =
      absurd (with_verdict status (told_status ask j.verdict text status j.told) h)
  out_untouched (cut_off log text meant whole is j p f l e) h =
      absurd (true≢false (ap has_verdict (sym e) ∙ h))
  out_untouched (refused log kind place whole is r u l e) h = u
  out_untouched (wrong place whole w u l e) h = u
  out_untouched (too_long took u l e) h = u
  out_untouched (unread took f u l e) h = u
  out_untouched (no_memory took u l e) h = u

  pub is_silent : End → (status ≡ 0) ⊎ (status ≡ 7) → silent
  is_silent (judged log text whole is j w s) two = s
  is_silent (cut_off log text meant whole is j p f l e) two = absurd (not_four status two e)
  is_silent (refused log kind place whole is r u l e) two = absurd (not_one status two e)
  is_silent (wrong place whole w u l e) two = absurd (not_eight status two e)
  is_silent (too_long took u l e) two = absurd (not_eight status two e)
  is_silent (unread took f u l e) two = absurd (not_three status two e)
  is_silent (no_memory took u l e) two = absurd (not_six status two e)

-- what is as it was gained nothing
nothing_gained : (held : Option (List ℕ)) → Appends held held []
nothing_gained None = tt
nothing_gained (Some bytes) = sym (append-nil bytes)

module _ {E : Type 0} (held : E → Option (List ℕ)) (faults : E → ℕ) (old_err new_err : E) where
  no_line : (status : ℕ) → new_err ≡ old_err → (status ≡ 0) ⊎ (status ≡ 7)
      → Gains held faults old_err new_err (line_of status)
  no_line status same (inl e) = subst (λ (s : ℕ). Gains held faults old_err new_err (line_of s))
      (sym e) (subst (λ (x : E). Gains held faults old_err x []) (sym same)
      (inl (nothing_gained (held old_err))))
  no_line status same (inr e) = subst (λ (s : ℕ). Gains held faults old_err new_err (line_of s))
      (sym e) (subst (λ (x : E). Gains held faults old_err x []) (sym same)
      (inl (nothing_gained (held old_err))))

  at : (status k : ℕ) → status ≡ k → Gains held faults old_err new_err (line_of k)
      → Gains held faults old_err new_err (line_of status)
  at status k e l = subst (λ (s : ℕ). Gains held faults old_err new_err (line_of s)) (sym e) l

  pub line :
      (ask : Ask) (old new : Option (List ℕ)) (fault : Type 0) (was now : Option (List ℕ))
      (failed untouched : Type 0) (status : ℕ)
      → IsEnd ask old new fault was now failed untouched (Gains held faults old_err new_err)
      (new_err ≡ old_err) status
      → (status ≡ 1) ⊎ ((status ≡ 8) ⊎ Gains held faults old_err new_err (line_of status))
  line ask old new fault was now failed untouched status (judged log text whole is j w s) =
      inr (inr (no_line status s (told_status ask j.verdict text status j.told)))
  line ask old new fault was now failed untouched status
      (cut_off log text meant whole is j p f l e) = inr (inr (at status 4 e l))
  line ask old new fault was now failed untouched status (refused log kind place whole is r u l e) =
      inl e
  line ask old new fault was now failed untouched status (wrong place whole w u l e) = inr (inl e)
  line ask old new fault was now failed untouched status (too_long took u l e) = inr (inl e)
  line ask old new fault was now failed untouched status (unread took f u l e) =
      inr (inr (at status 3 e l))
  line ask old new fault was now failed untouched status (no_memory took u l e) =
      inr (inr (at status 6 e l))
