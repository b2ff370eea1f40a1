-- Each way in which a command on a log ends says so.
use Rattle.log_judge.proofs.Ended as ended
use Rattle.log_judge.proofs.judge.judge_log.Goals as goal

pub returns-clause-known : goal.returns-clause-known
returns-clause-known g c = ended.known _ _ _ _ _ _ _ _ _ _ _ c.judge.ensures

pub returns-clause-read_fault : goal.returns-clause-read_fault
returns-clause-read_fault g c = ended.read_fault _ _ _ _ _ _ _ _ _ _ _ c.judge.ensures

pub returns-clause-reads : goal.returns-clause-reads
returns-clause-reads g c = ended.reads _ _ _ _ _ _ _ _ _ _ _ c.judge.ensures

pub returns-clause-refusal : goal.returns-clause-refusal
returns-clause-refusal g c = ended.refusal _ _ _ _ _ _ _ _ _ _ _ c.judge.ensures

pub returns-clause-no_log : goal.returns-clause-no_log
returns-clause-no_log g c = ended.no_log _ _ _ _ _ _ _ _ _ _ _ c.judge.ensures

pub returns-clause-verdict : goal.returns-clause-verdict
returns-clause-verdict g c = ended.has_told _ _ _ _ _ _ _ _ _ _ _ c.judge.ensures

pub returns-clause-write_fault : goal.returns-clause-write_fault
returns-clause-write_fault g c = ended.write_fault _ _ _ _ _ _ _ _ _ _ _ c.judge.ensures

pub returns-clause-out_untouched : goal.returns-clause-out_untouched
returns-clause-out_untouched g c = ended.out_untouched _ _ _ _ _ _ _ _ _ _ _ c.judge.ensures

pub returns-clause-silent : goal.returns-clause-silent
returns-clause-silent g c = ended.is_silent _ _ _ _ _ _ _ _ _ _ _ c.judge.ensures

pub returns-clause-line : goal.returns-clause-line
returns-clause-line g c = ended.line g.E.Sink.held g.E.Sink.faults c.args.err.now c.judge.new.err _
    _ _ _ _ _ _ _ _ c.judge.ensures
