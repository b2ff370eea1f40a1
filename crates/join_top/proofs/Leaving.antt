-- What a run leaves.
use Rattle.std.proofs.Common.{◌≡◌, ℕ, ◌≤◌, List, Bool, true, false, Option, Some, None, IfSome}
use Rattle.std.proofs.Common.{is_some, refl, sym, ap, ◌∙◌, subst, length, IsTrue, ◌⊎◌, inl, inr}
use Rattle.std.proofs.Common.{◌↔◌, lit≤}
use Rattle.chem_model.specs.declared.numbered.Numbered.{Numbered}
use Rattle.chem_model.specs.ProgramFacts.{ProgramTerms}
use Rattle.chem_model.specs.Reduction.{Quiet}
use Rattle.chem_model.specs.Numbered.{erase}
use Rattle.chem_model.specs.Runs.{IsRun}
use Rattle.chem_model.specs.Apply.{states}
use Rattle.chem_model.specs.Laws.{erase_all}
use Rattle.trace_history.specs.Kept.{BookKept, solution}
use Rattle.trace_history.specs.Book.{IsStuck, IsQuiet, Replays}
use Rattle.trace_text.specs.declared.text.Ending.{Ending}
use Rattle.join_words.specs.declared.answer.Asked.{Asked}
use Rattle.trace_text.specs.declared.text.Ending.TheVariants.{Quiescent, Stopped}
use Rattle.join_top.specs.declared.run.Kept.{Kept as Left}
use Rattle.join_top.specs.declared.top.Ended.{Ended}
use Rattle.site_runner.specs.declared.outcome.How.{How}
use Rattle.join_top.specs.declared.job.Begun.{Begun}
use Rattle.join_top.specs.Task.{Words, task, text_run}
use Rattle.text_program.specs.Text.{IsProgramOfText}
use Rattle.text_program.specs.Streams.{OnTold, IsWritten}
use Rattle.join_top.specs.RunJoin.{ComesExactly, has_run, EndsAs, IsRunAsked, Keeps, GoesWith}
use Rattle.join_top.specs.RunJoin.{IsMadeBy, IsMadeAsAsked, IsTextOf}
use Rattle.join_top.specs.inside.Job.{IsJob, IsRunOfJob, IsStatusOfJob}
use Rattle.join_top.specs.inside.Ran.{ending_of, IsEnded, IsWholeOfBook, IsRunBy}

same_solution : (k : BookKept) (n m : Numbered) → solution k ≡ Some n → solution k ≡ Some m → n ≡ m
same_solution k n m e f = cc

-- what a book leaves at the end of a run
pub ended :
    (a : Asked) (source : List ℕ) (p : ProgramTerms) (k : BookKept) (how : How) (quiet : Bool)
    (ending : Ending) (text : List ℕ)
    → IsRunBy a.by a.workers a.budget a.loss p (record { book = k; how = how })
    → Replays k → IsRun k.program (erase_all (states k.program k.journal))
    → (IsTrue quiet ↔ IsStuck k) → (IsTrue quiet ↔ IsQuiet k)
    → ending ≡ ending_of quiet
    → IsWholeOfBook a source k ending text
    → IsEnded a source (record { program = k.program; journal = k.journal; how = how }) text ending
ended a source p k how quiet ending text made replays run stuck_is quiet_is ends whole =
    let n = replays.0 in
    record {
      solution = n;
      is_run = record { replays = replays.1; run = run; within = made.finished.within };
      ends = subst (EndsAs a.budget k.journal n) (sym ends) (ends_as n replays.1 quiet refl);
      whole = whole n replays.1;
    }
  where
    not_spent : quiet ≡ false → IsStuck k ⊎ (length k.journal ≡ a.budget)
        → length k.journal ≡ a.budget
    not_spent e (inl s) = let t : quiet ≡ true = stuck_is.1 s in cc
    not_spent e (inr s) = s

    ends_as : (n : Numbered) → solution k ≡ Some n → (t : Bool) → quiet ≡ t
        → EndsAs a.budget k.journal n (ending_of t)
    ends_as n e true h = quiet_is.0 h n e
    ends_as n e false h = (
      (λ q. let t : quiet ≡ true =
          quiet_is.1 (λ m f.
          subst (λ (x : Numbered). Quiet x.version x.seen (erase x)) (same_solution k n m e f) q) in
          cc),
      not_spent h made.finished.ends,
    )

-- ---- what the top call says of it

pub on_told : (told : Option (List ℕ)) (source : List ℕ) (P : List ℕ → Type 0)
    → OnTold told (λ t. t ≡ source) → P source → OnTold told P
on_told None source P e p = tt
on_told (Some text) source P e p = subst P (sym e) p

on_some : (kept : Option Left) (P Q : Left → Type 0) → ((k : Left) → P k → Q k) → IfSome kept P
    → IfSome kept Q
on_some None P Q f h = tt
on_some (Some kept) P Q f h = f kept h

module _ {S : Type 0} (words : Words) (left : S → Option (List ℕ)) (old new : S) (job : Begun)
    (is_job : IsJob S words left old new job) (was now : Option (List ℕ)) where
  program_of : (status : ℕ) (kept : Left) → IsRunOfJob job status was now kept
      → IsProgramOfText job.text kept.program
  program_of status kept run = subst (IsProgramOfText job.text) (sym run.program) is_job.is_program

  run_asked : (status : ℕ) (kept : Left) → IsRunOfJob job status was now kept
      → IsRunAsked words (left old) kept
  run_asked status kept run = record {
    asked = job.asked;
    solution = run.ended.solution;
    ending = run.ending;
    is_asked = is_job.is_asked;
    is_program =
        on_told (text_run words (left old)) job.text (λ text. IsProgramOfText text kept.program)
        is_job.is_text (program_of status kept run);
    is_run = run.ended.is_run;
    ends = run.ended.ends;
  }

  text_of_run : (status : ℕ) (kept : Left) → IsRunOfJob job status was now kept
      → (text : List ℕ) × IsTextOf words (left old) status kept text × IsWritten status text was now
  text_of_run status kept run =
      let it : IsTextOf words (left old) status kept run.text = record {
        asked = job.asked;
        source = job.text;
        solution = run.ended.solution;
        ending = run.ending;
        is_asked = is_job.is_asked;
        is_source = is_job.is_text;
        is_program = program_of status kept run;
        replays = run.ended.is_run.replays;
        ends = run.ended.ends;
        status_is = run.goes;
        whole = run.ended.whole;
      } in
      (run.text, it, run.written)

  module _ (it : Ended) (run : IfSome it.kept (IsRunOfJob job it.status was now)) where
    pub keeps : is_some it.kept ≡ has_run it.status → Keeps words (left old) it
    keeps exactly =
        record { exactly = exactly; run = on_some it.kept _ _ (run_asked it.status) run }

    pub made_as_asked : IfSome it.kept (IsMadeAsAsked words)
    made_as_asked = on_some it.kept _ _
        (λ kept r. record { asked = job.asked; is_asked = is_job.is_asked; made = r.made }) run

    pub whole_text :
        IfSome it.kept (λ kept. (text : List ℕ) × IsTextOf words (left old) it.status kept text
        × IsWritten it.status text was now)
    whole_text = on_some it.kept _ _ (text_of_run it.status) run

-- ---- the statuses of a job

module _ (status : ℕ) where
  pub known : IsStatusOfJob status → status ≤ 6
  known (inl e) = subst (λ (n : ℕ). n ≤ 6) (sym e) (lit≤ tt)
  known (inr (inl e)) = subst (λ (n : ℕ). n ≤ 6) (sym e) (lit≤ tt)
  known (inr (inr (inl e))) = subst (λ (n : ℕ). n ≤ 6) (sym e) (lit≤ tt)
  known (inr (inr (inr e))) = subst (λ (n : ℕ). n ≤ 6) (sym e) (lit≤ tt)

  pub no_refusal : IsStatusOfJob status → status ≡ 1 → ⊥
  no_refusal (inl e) h = cc
  no_refusal (inr (inl e)) h = cc
  no_refusal (inr (inr (inl e))) h = cc
  no_refusal (inr (inr (inr e))) h = cc

  pub no_usage : IsStatusOfJob status → status ≡ 2 → ⊥
  no_usage (inl e) h = cc
  no_usage (inr (inl e)) h = cc
  no_usage (inr (inr (inl e))) h = cc
  no_usage (inr (inr (inr e))) h = cc

  pub no_read_fault : IsStatusOfJob status → status ≡ 3 → ⊥
  no_read_fault (inl e) h = cc
  no_read_fault (inr (inl e)) h = cc
  no_read_fault (inr (inr (inl e))) h = cc
  no_read_fault (inr (inr (inr e))) h = cc

  pub usage : (words : Words) (a : Asked) → task words ≡ Some a → IsStatusOfJob status
      → ComesExactly status 2 (task words ≡ None)
  usage words a asked s = record {
    only = λ e. absurd (no_usage s e);
    always = λ none. absurd (let no : Some a ≡ None = sym asked ∙ none in cc);
  }

-- ---- the end of a run

goes_as_job : (status : ℕ) (ending : Ending) → GoesWith status ending → IsStatusOfJob status
goes_as_job status Quiescent (inl e) = inl e
goes_as_job status Quiescent (inr e) = inr (inl e)
goes_as_job status Stopped (inl e) = inr (inr (inl e))
goes_as_job status Stopped (inr e) = inr (inl e)

-- the statuses of a run that is kept
is_run_status : (status : ℕ) (ending : Ending) → GoesWith status ending → true ≡ has_run status
is_run_status status Quiescent (inl e) = ap has_run (sym e)
is_run_status status Quiescent (inr e) = ap has_run (sym e)
is_run_status status Stopped (inl e) = ap has_run (sym e)
is_run_status status Stopped (inr e) = ap has_run (sym e)

module _ (it : Ended) (status : ℕ) (kept : Left)
    (is : it ≡ record { status = status; kept = Some kept }) where
  pub goes_on : (ending : Ending) → GoesWith status ending → IsStatusOfJob it.status
  goes_on ending goes =
      subst (λ (x : Ended). IsStatusOfJob x.status) (sym is) (goes_as_job status ending goes)

  pub is_kept : (ending : Ending) → GoesWith status ending → is_some it.kept ≡ has_run it.status
  is_kept ending goes = subst (λ (x : Ended). is_some x.kept ≡ has_run x.status) (sym is)
      (is_run_status status ending goes)

  pub is_run_of : (job : Begun) (was now : Option (List ℕ)) (text : List ℕ) (ending : Ending)
      → kept.program ≡ job.program → IsEnded job.asked job.text kept text ending
      → IsMadeBy job.asked.by job.asked.workers job.asked.budget job.asked.loss
      job.program kept.journal kept.how
      → GoesWith status ending → IsWritten status text was now
      → IfSome it.kept (IsRunOfJob job it.status was now)
  is_run_of job was now text ending same ended made goes written =
      let run : IsRunOfJob job status was now kept = record {
        text = text;
        ending = ending;
        program = same;
        ended = ended;
        made = subst (λ (p : ProgramTerms).
            IsMadeBy job.asked.by job.asked.workers job.asked.budget job.asked.loss
            p kept.journal kept.how)
            (sym same) made;
        goes = goes;
        written = written;
      } in
      subst (λ (x : Ended). IfSome x.kept (IsRunOfJob job x.status was now)) (sym is) run
