-- Where there is no job, the statuses tell why; where there is one, its run is the one that is
-- kept.
use Rattle.std.proofs.Common.{refl}
use Rattle.join_top.proofs.Leaving as ran
use Rattle.join_top.proofs.Reading.{read_all}
use Rattle.join_top.proofs.Stopping as stopped
use Rattle.join_top.proofs.top.run_program.Goals as goal

pub returns-in-Err-clause-known : goal.returns-in-Err-clause-known
returns-in-Err-clause-known g c = stopped.known c.in-Err.stop _ c.tell_stop.ensures.status

pub returns-in-Err-clause-usage : goal.returns-in-Err-clause-usage
returns-in-Err-clause-usage g c =
    stopped.usage c.args.words.now g.S.Source.left g.S.Source.faults c.args.source.now
    c.read_job.new.source c.in-Err.stop _ c.in-Err.ensures.stop c.tell_stop.ensures.status

pub returns-in-Err-clause-read_fault : goal.returns-in-Err-clause-read_fault
returns-in-Err-clause-read_fault g c =
    stopped.read_fault c.args.words.now g.S.Source.left g.S.Source.faults c.args.source.now
    c.read_job.new.source c.in-Err.stop _ c.in-Err.ensures.stop c.tell_stop.ensures.status

pub returns-in-Err-clause-reads_all : goal.returns-in-Err-clause-reads_all
returns-in-Err-clause-reads_all g c =
    stopped.reads c.args.words.now g.S.Source.left g.S.Source.faults c.args.source.now
    c.read_job.new.source c.in-Err.stop _ c.in-Err.ensures.stop c.tell_stop.ensures.status

pub returns-in-Err-clause-refusal : goal.returns-in-Err-clause-refusal
returns-in-Err-clause-refusal g c = λ e. stopped.is_refused c.args.words.now g.S.Source.left
    g.S.Source.faults c.args.source.now c.read_job.new.source _ c.in-Err.stop _
    c.in-Err.ensures.stop c.tell_stop.ensures.status e (c.tell_stop.ensures.refusal e)

pub returns-in-Err-clause-kept : goal.returns-in-Err-clause-kept
returns-in-Err-clause-kept g c =
    stopped.keeps_none c.in-Err.stop _ c.tell_stop.ensures.status c.args.words.now
    (g.S.Source.left c.args.source.now) c.tell_stop.result refl c.tell_stop.ensures.kept

pub returns-in-Err-clause-how : goal.returns-in-Err-clause-how
returns-in-Err-clause-how g c =
    stopped.nothing_kept c.tell_stop.result.kept c.tell_stop.ensures.kept _

pub returns-in-Err-clause-whole_text : goal.returns-in-Err-clause-whole_text
returns-in-Err-clause-whole_text g c =
    stopped.nothing_kept c.tell_stop.result.kept c.tell_stop.ensures.kept _

pub returns-in-Err-clause-write_fault : goal.returns-in-Err-clause-write_fault
returns-in-Err-clause-write_fault g c =
    λ e. absurd (stopped.no_write c.in-Err.stop _ c.tell_stop.ensures.status e)

pub returns-in-Ok-clause-known : goal.returns-in-Ok-clause-known
returns-in-Ok-clause-known g c = ran.known _ c.run_job-ended.ensures.status

pub returns-in-Ok-clause-usage : goal.returns-in-Ok-clause-usage
returns-in-Ok-clause-usage g c = ran.usage _
    c.args.words.now c.in-Ok.job.asked c.in-Ok.ensures.job.is_asked c.run_job-ended.ensures.status

pub returns-in-Ok-clause-read_fault : goal.returns-in-Ok-clause-read_fault
returns-in-Ok-clause-read_fault g c =
    λ e. absurd (ran.no_read_fault _ c.run_job-ended.ensures.status e)

pub returns-in-Ok-clause-reads_all : goal.returns-in-Ok-clause-reads_all
returns-in-Ok-clause-reads_all g c =
    read_all g.S.Source.left _ _ _ c.args.source.now c.read_job.new.source c.in-Ok.ensures.job.ring
    (ran.no_usage _ c.run_job-ended.ensures.status) c.in-Ok.ensures.job.all

pub returns-in-Ok-clause-refusal : goal.returns-in-Ok-clause-refusal
returns-in-Ok-clause-refusal g c = λ e. absurd (ran.no_refusal _ c.run_job-ended.ensures.status e)

pub returns-in-Ok-clause-kept : goal.returns-in-Ok-clause-kept
returns-in-Ok-clause-kept g c = ran.keeps c.args.words.now g.S.Source.left c.args.source.now
    c.read_job.new.source c.in-Ok.job c.in-Ok.ensures.job _ _
    c.run_job-ended.result c.run_job-ended.ensures.run c.run_job-ended.ensures.exactly

pub returns-in-Ok-clause-how : goal.returns-in-Ok-clause-how
returns-in-Ok-clause-how g c =
    ran.made_as_asked c.args.words.now g.S.Source.left c.args.source.now c.read_job.new.source
    c.in-Ok.job c.in-Ok.ensures.job _ _ c.run_job-ended.result c.run_job-ended.ensures.run

pub returns-in-Ok-clause-whole_text : goal.returns-in-Ok-clause-whole_text
returns-in-Ok-clause-whole_text g c =
    ran.whole_text c.args.words.now g.S.Source.left c.args.source.now c.read_job.new.source
    c.in-Ok.job c.in-Ok.ensures.job _ _ c.run_job-ended.result c.run_job-ended.ensures.run
