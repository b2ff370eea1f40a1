-- Where something is wanted of a log, its judgement says all, and where a source is judged by its
-- sorts, that judgement; elsewhere the run does; and where memory ran out, nothing was done.
use Rattle.std.proofs.Common.{◌≡◌, ◌≤◌, refl, inr, None, lit≤}
use Rattle.std.proofs.lemmas.Bool.{false≢true}
use Rattle.join_base.specs.Counts.{Rose}
use Rattle.log_judge.specs.Judged.{has_verdict, IsLogStatus, IsLogReadAt}
use Rattle.sort_judge.specs.Command.{was_judged, IsSortStatus, IsSourceReadAt}
use Rattle.text_program.specs.Streams.{Gains}
use Rattle.join_top.specs.declared.top.Ended.{Ended}
use Rattle.join_top.specs.declared.job.Stop.TheVariants as stop
use Rattle.join_top.specs.Task.{task, log_asked, sorts_asked, ByTask, OnLog, OnSorts}
use Rattle.join_top.specs.RunJoin.{ComesExactly, Reads, Refuses, Keeps, has_run, RefusesLog}
use Rattle.join_top.specs.RunJoin.{RefusesBytes, TellsVerdict, GainsLine, GainsLogLine}
use Rattle.join_top.specs.RunJoin.{RefusesSource, TellsSorts, GainsSortLine}
use Rattle.join_top.proofs.Logs.{on_run, on_log, on_both, on_sorts, off_sorts, either_sorts}
use Rattle.join_top.proofs.Logs.{no_sorts, by_log, by_sorts, by_run, by_any, usage, sort_usage}
use Rattle.join_top.proofs.Logs.{unread, unread_source, out_of_memory, sorts_out_of_memory, at_six}
use Rattle.join_top.proofs.Logs.{not_silent, not_ended}
use Rattle.join_top.proofs.Stopping as stopped
use Rattle.join_top.proofs.top.run_join.Goals as goal

-- ---- a log

pub returns-in-Log-clause-known : goal.returns-in-Log-clause-known
returns-in-Log-clause-known g c =
    by_log c.args.words.now _ _ _ c.in-Log.ask c.in-Log.ensures c.judge_log.ensures.known

pub returns-in-Log-clause-usage : goal.returns-in-Log-clause-usage
returns-in-Log-clause-usage g c =
    usage c.args.words.now c.in-Log.ask _ c.in-Log.ensures c.judge_log.ensures.known

pub returns-in-Log-clause-reads_all : goal.returns-in-Log-clause-reads_all
returns-in-Log-clause-reads_all g c =
    by_log c.args.words.now _ _ _ c.in-Log.ask c.in-Log.ensures c.judge_log.ensures.reads

pub returns-in-Log-clause-refusal : goal.returns-in-Log-clause-refusal
returns-in-Log-clause-refusal g c =
    by_log c.args.words.now _ _ _ c.in-Log.ask c.in-Log.ensures c.judge_log.ensures.refusal

pub returns-in-Log-clause-no_log : goal.returns-in-Log-clause-no_log
returns-in-Log-clause-no_log g c =
    on_log (log_asked c.args.words.now) c.in-Log.ask _ _ c.in-Log.ensures c.judge_log.ensures.no_log

pub returns-in-Log-clause-kept : goal.returns-in-Log-clause-kept
returns-in-Log-clause-kept g c = by_log c.args.words.now _ _ _ c.in-Log.ask c.in-Log.ensures refl

pub returns-in-Log-clause-verdict : goal.returns-in-Log-clause-verdict
returns-in-Log-clause-verdict g c = on_log (log_asked c.args.words.now) c.in-Log.ask _ _
    c.in-Log.ensures c.judge_log.ensures.verdict

pub returns-in-Log-clause-sorts : goal.returns-in-Log-clause-sorts
returns-in-Log-clause-sorts g c = off_sorts (sorts_asked c.args.words.now) _ _
    (no_sorts c.args.words.now c.in-Log.ask c.in-Log.ensures) tt

pub returns-in-Log-clause-out_untouched : goal.returns-in-Log-clause-out_untouched
returns-in-Log-clause-out_untouched g c =
    by_log c.args.words.now _ _ _ c.in-Log.ask c.in-Log.ensures c.judge_log.ensures.out_untouched

pub returns-in-Log-clause-err_line : goal.returns-in-Log-clause-err_line
returns-in-Log-clause-err_line g c = by_log c.args.words.now _ _ _ c.in-Log.ask c.in-Log.ensures
    (record { line = c.judge_log.ensures.line; untouched = c.judge_log.ensures.silent })

-- ---- a source that is judged by its sorts

pub returns-in-Sorts-clause-known : goal.returns-in-Sorts-clause-known
returns-in-Sorts-clause-known g c = by_sorts c.args.words.now _ _ _
    c.in-Sorts.ensures.0 c.in-Sorts.ensures.1 c.judge_sorts.ensures.known

pub returns-in-Sorts-clause-usage : goal.returns-in-Sorts-clause-usage
returns-in-Sorts-clause-usage g c =
    sort_usage c.args.words.now _ c.in-Sorts.ensures.1 c.judge_sorts.ensures.known

pub returns-in-Sorts-clause-reads_all : goal.returns-in-Sorts-clause-reads_all
returns-in-Sorts-clause-reads_all g c = by_sorts c.args.words.now _ _ _
    c.in-Sorts.ensures.0 c.in-Sorts.ensures.1 c.judge_sorts.ensures.reads

pub returns-in-Sorts-clause-refusal : goal.returns-in-Sorts-clause-refusal
returns-in-Sorts-clause-refusal g c = by_sorts c.args.words.now _ _ _
    c.in-Sorts.ensures.0 c.in-Sorts.ensures.1 c.judge_sorts.ensures.refusal

pub returns-in-Sorts-clause-no_log : goal.returns-in-Sorts-clause-no_log
returns-in-Sorts-clause-no_log g c = on_run (log_asked c.args.words.now) _ _ c.in-Sorts.ensures.0 tt

pub returns-in-Sorts-clause-kept : goal.returns-in-Sorts-clause-kept
returns-in-Sorts-clause-kept g c =
    by_sorts c.args.words.now _ _ _ c.in-Sorts.ensures.0 c.in-Sorts.ensures.1 refl

pub returns-in-Sorts-clause-verdict : goal.returns-in-Sorts-clause-verdict
returns-in-Sorts-clause-verdict g c =
    on_run (log_asked c.args.words.now) _ _ c.in-Sorts.ensures.0 tt

pub returns-in-Sorts-clause-sorts : goal.returns-in-Sorts-clause-sorts
returns-in-Sorts-clause-sorts g c =
    on_sorts (sorts_asked c.args.words.now) _ _ c.in-Sorts.ensures.1 c.judge_sorts.ensures.verdict

pub returns-in-Sorts-clause-out_untouched : goal.returns-in-Sorts-clause-out_untouched
returns-in-Sorts-clause-out_untouched g c = by_sorts c.args.words.now _ _ _
    c.in-Sorts.ensures.0 c.in-Sorts.ensures.1 c.judge_sorts.ensures.out_untouched

pub returns-in-Sorts-clause-err_line : goal.returns-in-Sorts-clause-err_line
returns-in-Sorts-clause-err_line g c =
    by_sorts c.args.words.now _ _ _ c.in-Sorts.ensures.0 c.in-Sorts.ensures.1
    (record { line = c.judge_sorts.ensures.line; untouched = c.judge_sorts.ensures.silent })

-- ---- a run

pub returns-in-Other-clause-known : goal.returns-in-Other-clause-known
returns-in-Other-clause-known g c = by_run c.args.words.now _ _ _
    c.in-Other.ensures.0 c.in-Other.ensures.1 c.run_program.ensures.known

pub returns-in-Other-clause-reads_all : goal.returns-in-Other-clause-reads_all
returns-in-Other-clause-reads_all g c = by_run c.args.words.now _ _ _
    c.in-Other.ensures.0 c.in-Other.ensures.1 c.run_program.ensures.reads_all

pub returns-in-Other-clause-refusal : goal.returns-in-Other-clause-refusal
returns-in-Other-clause-refusal g c = by_run c.args.words.now _ _ _
    c.in-Other.ensures.0 c.in-Other.ensures.1 c.run_program.ensures.refusal

pub returns-in-Other-clause-no_log : goal.returns-in-Other-clause-no_log
returns-in-Other-clause-no_log g c = on_run (log_asked c.args.words.now) _ _ c.in-Other.ensures.0 tt

pub returns-in-Other-clause-kept : goal.returns-in-Other-clause-kept
returns-in-Other-clause-kept g c = by_run c.args.words.now _ _ _
    c.in-Other.ensures.0 c.in-Other.ensures.1 c.run_program.ensures.kept

pub returns-in-Other-clause-verdict : goal.returns-in-Other-clause-verdict
returns-in-Other-clause-verdict g c =
    on_run (log_asked c.args.words.now) _ _ c.in-Other.ensures.0 tt

pub returns-in-Other-clause-sorts : goal.returns-in-Other-clause-sorts
returns-in-Other-clause-sorts g c =
    off_sorts (sorts_asked c.args.words.now) _ _ c.in-Other.ensures.1 tt

pub returns-in-Other-clause-out_untouched : goal.returns-in-Other-clause-out_untouched
returns-in-Other-clause-out_untouched g c = by_run c.args.words.now _ _ _
    c.in-Other.ensures.0 c.in-Other.ensures.1 c.run_program.ensures.out_untouched

pub returns-in-Other-clause-err_line : goal.returns-in-Other-clause-err_line
returns-in-Other-clause-err_line g c = by_run c.args.words.now _ _ _
    c.in-Other.ensures.0 c.in-Other.ensures.1 c.run_program.ensures.err_line

-- ---- no memory for the words

pub returns-in-NoMemory-clause-known : goal.returns-in-NoMemory-clause-known
returns-in-NoMemory-clause-known g c =
    at_six c.end.result c.end.ensures.ended (λ (it : Ended).
    ByTask c.args.words.now (λ _. IsLogStatus it.status) (IsSortStatus it.status) (it.status ≤ 6))
    (by_any c.args.words.now _ _ _ (λ _. out_of_memory) sorts_out_of_memory (lit≤ tt))

pub returns-in-NoMemory-clause-usage : goal.returns-in-NoMemory-clause-usage
returns-in-NoMemory-clause-usage g c =
    let s = c.args.source.now in
    at_six c.end.result c.end.ensures.ended
    (λ (it : Ended). ComesExactly it.status 2 (task c.args.words.now ≡ None))
    (stopped.usage c.args.words.now g.S.Source.left g.S.Source.faults s s stop.Memory 6 refl refl)

pub returns-in-NoMemory-clause-reads_all : goal.returns-in-NoMemory-clause-reads_all
returns-in-NoMemory-clause-reads_all g c =
    let s = c.args.source.now in
    at_six c.end.result c.end.ensures.ended (λ (it : Ended).
    ByTask c.args.words.now (λ _. IsLogReadAt it.status (g.S.Source.left s) (g.S.Source.left s))
    (IsSourceReadAt it.status (g.S.Source.left s) (g.S.Source.left s))
    (Reads c.args.words.now it.status g.S.Source.left s s))
    (by_any c.args.words.now _ _ _ (λ _. unread (g.S.Source.left s))
    (unread_source (g.S.Source.left s))
    (stopped.reads c.args.words.now g.S.Source.left g.S.Source.faults s s stop.Memory 6 refl refl))

pub returns-in-NoMemory-clause-refusal : goal.returns-in-NoMemory-clause-refusal
returns-in-NoMemory-clause-refusal g c =
    let told = g.S.Source.left c.args.source.now in
    at_six c.end.result c.end.ensures.ended (λ (it : Ended). ByTask c.args.words.now (λ _.
    RefusesLog it.status told (Gains g.E.Sink.held g.E.Sink.faults c.args.err.now c.end.new.err))
    (RefusesSource it.status told
    (Gains g.E.Sink.held g.E.Sink.faults c.args.err.now c.end.new.err))
    (Refuses c.args.words.now told it g.E.Sink.held g.E.Sink.faults c.args.err.now c.end.new.err))
    (by_any c.args.words.now _ _ _ (λ _ e. absurd cc) (λ e. absurd cc) (λ e. absurd cc))

pub returns-in-NoMemory-clause-no_log : goal.returns-in-NoMemory-clause-no_log
returns-in-NoMemory-clause-no_log g c =
    at_six c.end.result c.end.ensures.ended
    (λ (it : Ended). OnLog (log_asked c.args.words.now) (λ _.
    RefusesBytes it.status (g.S.Source.left c.args.source.now) (g.S.Source.left c.args.source.now)
    (Gains g.E.Sink.held g.E.Sink.faults c.args.err.now c.end.new.err)))
    (on_both (log_asked c.args.words.now) _ _ (λ _ e. absurd cc) tt)

pub returns-in-NoMemory-clause-kept : goal.returns-in-NoMemory-clause-kept
returns-in-NoMemory-clause-kept g c =
    at_six c.end.result c.end.ensures.ended
    (λ (it : Ended). ByTask c.args.words.now (λ _. it.kept ≡ None) (it.kept ≡ None)
    (Keeps c.args.words.now (g.S.Source.left c.args.source.now) it))
    (by_any c.args.words.now _ _ _ (λ _. refl) refl
    (stopped.keeps_none stop.Memory 6 refl c.args.words.now (g.S.Source.left c.args.source.now)
    (record { status = 6; kept = None }) refl refl))

pub returns-in-NoMemory-clause-verdict : goal.returns-in-NoMemory-clause-verdict
returns-in-NoMemory-clause-verdict g c =
    at_six c.end.result c.end.ensures.ended (λ (it : Ended). OnLog (log_asked c.args.words.now)
    (λ ask. TellsVerdict ask it.status (g.S.Source.left c.args.source.now)
    (g.K.Sink.held c.args.out.now) (g.K.Sink.held c.args.out.now)))
    (on_both (log_asked c.args.words.now) _ _ (λ _ h. absurd (false≢true h)) tt)

pub returns-in-NoMemory-clause-sorts : goal.returns-in-NoMemory-clause-sorts
returns-in-NoMemory-clause-sorts g c =
    at_six c.end.result c.end.ensures.ended (λ (it : Ended).
    OnSorts (sorts_asked c.args.words.now) (TellsSorts it.status (g.S.Source.left c.args.source.now)
    (g.K.Sink.held c.args.out.now) (g.K.Sink.held c.args.out.now)))
    (either_sorts (sorts_asked c.args.words.now) _ _ (λ h. absurd (false≢true h)) tt)

pub returns-in-NoMemory-clause-out_untouched : goal.returns-in-NoMemory-clause-out_untouched
returns-in-NoMemory-clause-out_untouched g c =
    by_any c.args.words.now _ _ _ (λ _ _. refl) (λ _. refl) (λ _. refl)

pub returns-in-NoMemory-clause-err_line : goal.returns-in-NoMemory-clause-err_line
returns-in-NoMemory-clause-err_line g c =
    at_six c.end.result c.end.ensures.ended (λ (it : Ended). ByTask c.args.words.now
    (λ _. GainsLogLine it.status g.E.Sink.held g.E.Sink.faults c.args.err.now c.end.new.err)
    (GainsSortLine it.status g.E.Sink.held g.E.Sink.faults c.args.err.now c.end.new.err)
    (GainsLine it.status g.E.Sink.held g.E.Sink.faults c.args.err.now c.end.new.err))
    (by_any c.args.words.now _ _ _ (λ _. record {
      line = inr (inr c.end.ensures.line);
      untouched = λ two. absurd (not_silent 6 refl two);
    }) (record { line = inr c.end.ensures.line; untouched = λ two. absurd (not_silent 6 refl two) })
    (record { line = inr c.end.ensures.line; untouched = λ two. absurd (not_ended 6 refl two) }))
