-- The run that is kept is the one of the job.
use Rattle.std.proofs.Common.{ℕ, List, subst}
use Rattle.join_top.specs.inside.Ran.{IsEnded}
use Rattle.join_top.proofs.Leaving.{goes_on, is_kept, is_run_of}
use Rattle.join_top.proofs.top.run_job.Goals as goal

pub returns-in-Ok-clause-status : goal.returns-in-Ok-clause-status
returns-in-Ok-clause-status g c = goes_on c.end-in-Ok.result _
    c.in-Ok.ran.kept c.end-in-Ok.ensures.ended c.in-Ok.ran.ending c.write_text-status.ensures.status

pub returns-in-Ok-clause-exactly : goal.returns-in-Ok-clause-exactly
returns-in-Ok-clause-exactly g c = is_kept c.end-in-Ok.result _
    c.in-Ok.ran.kept c.end-in-Ok.ensures.ended c.in-Ok.ran.ending c.write_text-status.ensures.status

pub returns-in-Ok-clause-run : goal.returns-in-Ok-clause-run
returns-in-Ok-clause-run g c =
    let job = c.args.job.now in
    let ran = c.in-Ok.ran in
    let ended = subst (λ (text : List ℕ). IsEnded job.asked text ran.kept ran.text ran.ending)
    c.as_slice.ensures.members c.in-Ok.ensures.ended in
    is_run_of c.end-in-Ok.result _ ran.kept c.end-in-Ok.ensures.ended job _ _
    ran.text ran.ending c.in-Ok.ensures.program ended
    c.in-Ok.ensures.made c.write_text-status.ensures.status c.write_text-status.ensures.written
