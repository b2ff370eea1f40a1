-- What each end of the command says.
use Rattle.std.proofs.Common.{◌≡◌, ℕ, List, [], Option, Some, None, true, false, ◌⊎◌, inl, inr}
use Rattle.std.proofs.Common.{refl, ap, sym, ◌∙◌, subst}
use Rattle.std.proofs.lemmas.Bool.{true≢false}
use Rattle.std.proofs.lemmas.List.{append-nil}
use Rattle.std.specs.Io.KnownBytes.{Appends}
use Rattle.join_base.specs.Bytes.{GainsPrefix}
use Rattle.sort_check.specs.declared.judged.Judged.{Judged}
use Rattle.sort_check.specs.declared.judged.Judged.TheVariants.{Yes, No}
use Rattle.text_program.specs.Streams.{Gains, line_of}
use Rattle.sort_judge.specs.Verdict.{verdict_status}
use Rattle.sort_judge.specs.Command.{IsTold, was_judged, IsSortStatus, IsSourceReadAt}
use Rattle.sort_judge.specs.Command.{IsRefusedSource, WritesVerdict}
use Rattle.sort_judge.specs.inside.Ends.{IsEnd, judged, cut_off, refused, unread, no_memory}

-- ---- statuses

two_statuses : (v : Judged) → (verdict_status v ≡ 0) ⊎ (verdict_status v ≡ 7)
two_statuses Yes = inl refl
two_statuses (No kind place) = inr refl

told_status : (text told : List ℕ) (status : ℕ) → IsTold text told status
    → (status ≡ 0) ⊎ (status ≡ 7)
told_status text told status h =
    elim (two_statuses h.verdict) [ inl e ↦ inl (h.status_is ∙ e) | inr e ↦ inr (h.status_is ∙ e) ]

module _ (status : ℕ) where
  abbrev IsTwo : Type 0
  IsTwo = (status ≡ 0) ⊎ (status ≡ 7)

  is_known : IsTwo → IsSortStatus status
  is_known (inl e) = inl e
  is_known (inr e) = inr (inr (inr (inr (inr e))))

  not_one : IsTwo → status ≡ 1 → ⊥
  not_one (inl a) e = cc
  not_one (inr a) e = cc

  not_four : IsTwo → status ≡ 4 → ⊥
  not_four (inl a) e = cc
  not_four (inr a) e = cc

  not_three : IsTwo → status ≡ 3 → ⊥
  not_three (inl a) e = cc
  not_three (inr a) e = cc

  not_six : IsTwo → status ≡ 6 → ⊥
  not_six (inl a) e = cc
  not_six (inr a) e = cc

  with_verdict : IsTwo → was_judged status ≡ false → ⊥
  with_verdict (inl a) e = true≢false (ap was_judged (sym a) ∙ e)
  with_verdict (inr a) e = true≢false (ap was_judged (sym a) ∙ e)

  without : (k : ℕ) → was_judged k ≡ false → status ≡ k → was_judged status ≡ true → ⊥
  without k none a e = true≢false (sym e ∙ ap was_judged a ∙ none)

  no_cut : IsTwo → (status ≡ 3) ⊎ (status ≡ 6) → ⊥
  no_cut t (inl e) = not_three t e
  no_cut t (inr e) = not_six t e

  not_cut : status ≡ 4 → (status ≡ 3) ⊎ (status ≡ 6) → ⊥
  not_cut a (inl e) = cc
  not_cut a (inr e) = cc

  one_no_cut : status ≡ 1 → (status ≡ 3) ⊎ (status ≡ 6) → ⊥
  one_no_cut a (inl e) = cc
  one_no_cut a (inr e) = cc

-- ---- the clauses

module _ (old new : Option (List ℕ)) (fault : Type 0) (was now : Option (List ℕ))
    (failed untouched : Type 0) (gains : List ℕ → Type 0) (silent : Type 0) (status : ℕ) where
  abbrev End : Type 0
  End = IsEnd old new fault was now failed untouched gains silent status

  pub known : End → IsSortStatus status
  known (judged text told whole is j w s) = is_known status (told_status text told status j)
  known (cut_off text told meant whole is j p f l e) = inr (inr (inr (inl e)))
  known (refused kind place took r u l e) = inr (inl e)
  known (unread took f u l e) = inr (inr (inl e))
  known (no_memory took u l e) = inr (inr (inr (inr (inl e))))

  pub read_fault : End → status ≡ 3 → fault
  read_fault (judged text told whole is j w s) h =
      absurd (not_three status (told_status text told status j) h)
  read_fault (cut_off text told meant whole is j p f l e) h = absurd cc
  read_fault (refused kind place took r u l e) h = absurd cc
  read_fault (unread took f u l e) h = f
  read_fault (no_memory took u l e) h = absurd cc

  pub write_fault : End → status ≡ 4 → failed
  write_fault (judged text told whole is j w s) h =
      absurd (not_four status (told_status text told status j) h)
  write_fault (cut_off text told meant whole is j p f l e) h = f
  write_fault (refused kind place took r u l e) h = absurd cc
  write_fault (unread took f u l e) h = absurd cc
  write_fault (no_memory took u l e) h = absurd cc

  pub reads : End → IsSourceReadAt status old new
  reads (judged text told whole is j w s) = record {
    verdict = λ _. whole;
    refused = λ _. inl whole;
    cut_short = λ _. whole.0;
  }
  reads (cut_off text told meant whole is j p f l e) = record {
    verdict = λ _. whole;
    refused = λ _. inl whole;
    cut_short = λ _. whole.0;
  }
  reads (refused kind place took r u l e) = record {
    verdict = λ h. absurd (without status 1 refl e h);
    refused = λ _. took;
    cut_short = λ h. absurd (one_no_cut status e h);
  }
  reads (unread took f u l e) = record {
    verdict = λ h. absurd (without status 3 refl e h);
    refused = λ h. absurd cc;
    cut_short = λ _. took;
  }
  reads (no_memory took u l e) = record {
    verdict = λ h. absurd (without status 6 refl e h);
    refused = λ h. absurd cc;
    cut_short = λ _. took;
  }

  pub refusal : End → status ≡ 1 → IsRefusedSource old gains
  refusal (judged text told whole is j w s) h =
      absurd (not_one status (told_status text told status j) h)
  refusal (cut_off text told meant whole is j p f l e) h = absurd cc
  refusal (refused kind place took r u l e) h =
      record { kind = kind; place = place; refusal = r; line = l }
  refusal (unread took f u l e) h = absurd cc
  refusal (no_memory took u l e) h = absurd cc

  pub has_told : End → was_judged status ≡ true → WritesVerdict old status was now
  has_told (judged text told whole is j w s) h = record {
    text = text;
    verdict = j.verdict;
    is_text = is;
    is = j.is;
    written = inl (j.status_is, subst (Appends was now) j.told_is w);
  }
  has_told (cut_off text told meant whole is j p f l e) h = record {
    text = text;
    verdict = j.verdict;
    is_text = is;
    is = j.is;
    written = inr (e, subst (GainsPrefix was now) j.told_is p);
  }
  has_told (refused kind place took r u l e) h = absurd (without status 1 refl e h)
  has_told (unread took f u l e) h = absurd (without status 3 refl e h)
  has_told (no_memory took u l e) h = absurd (without status 6 refl e h)

  pub out_untouched : End → was_judged status ≡ false → untouched
  out_untouched (judged text told whole is j w s) h =
      absurd (with_verdict status (told_status text told status j) h)
  out_untouched (cut_off text told meant whole is j p f l e) h =
      absurd (true≢false (ap was_judged (sym e) ∙ h))
  out_untouched (refused kind place took r u l e) h = u
  out_untouched (unread took f u l e) h = u
  out_untouched (no_memory took u l e) h = u

  pub is_silent : End → (status ≡ 0) ⊎ (status ≡ 7) → silent
  is_silent (judged text told whole is j w s) two = s
  is_silent (cut_off text told meant whole is j p f l e) two = absurd (not_four status two e)
  is_silent (refused kind place took r u l e) two = absurd (not_one status two e)
  is_silent (unread took f u l e) two = absurd (not_three status two e)
  is_silent (no_memory took u l e) two = absurd (not_six status two e)

-- what is as it was gained nothing
nothing_gained : (held : Option (List ℕ)) → Appends held held []
nothing_gained None = tt
nothing_gained (Some bytes) = sym (append-nil bytes)

module _ {E : Type 0} (held : E → Option (List ℕ)) (faults : E → ℕ) (old_err new_err : E) where
  no_line : (status : ℕ) → new_err ≡ old_err → (status ≡ 0) ⊎ (status ≡ 7)
      → Gains held faults old_err new_err (line_of status)
  no_line status same (inl e) = subst (λ (s : ℕ). Gains held faults old_err new_err (line_of s))
      (sym e) (subst (λ (x : E). Gains held faults old_err x []) (sym same)
      (inl (nothing_gained (held old_err))))
  no_line status same (inr e) = subst (λ (s : ℕ). Gains held faults old_err new_err (line_of s))
      (sym e) (subst (λ (x : E). Gains held faults old_err x []) (sym same)
      (inl (nothing_gained (held old_err))))

  at : (status k : ℕ) → status ≡ k → Gains held faults old_err new_err (line_of k)
      → Gains held faults old_err new_err (line_of status)
  at status k e l = subst (λ (s : ℕ). Gains held faults old_err new_err (line_of s)) (sym e) l

  pub line :
      (old new : Option (List ℕ)) (fault : Type 0) (was now : Option (List ℕ))
      (failed untouched : Type 0) (status : ℕ)
      → IsEnd old new fault was now failed untouched (Gains held faults old_err new_err)
      (new_err ≡ old_err) status
      → (status ≡ 1) ⊎ Gains held faults old_err new_err (line_of status)
  line old new fault was now failed untouched status (judged text told whole is j w s) =
      inr (no_line status s (told_status text told status j))
  line old new fault was now failed untouched status (cut_off text told meant whole is j p f l e) =
      inr (at status 4 e l)
  line old new fault was now failed untouched status (refused kind place took r u l e) = inl e
  line old new fault was now failed untouched status (unread took f u l e) = inr (at status 3 e l)
  line old new fault was now failed untouched status (no_memory took u l e) = inr (at status 6 e l)
