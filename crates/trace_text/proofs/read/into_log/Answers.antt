-- What was read is the one log, or the one field that is wrong first.
use Rattle.trace_text.specs.ReadLog.{parts}
use Rattle.trace_text.proofs.Steps.{as_wrong}
use Rattle.trace_text.proofs.WholeLog.{found, found_reads, found_refuses, bad_at_place, bad_reads}
use Rattle.trace_text.proofs.WholeLog.{bad_refuses}
use Rattle.trace_text.proofs.read.into_log.Goals as goal

pub overflow_sub-result : goal.overflow_sub-result
overflow_sub-result c = rw c.len-count.ensures.count ((bad_at_place c.args.bytes c.in-Err-Wrong.left
    (as_wrong c.in-Err-Wrong.field-0 c.in-Err-Wrong.left _
    c.in-Err-Wrong.field-0-is c.in-Err-Wrong.ensures)).0)

pub returns-in-Ok-clause-found : goal.returns-in-Ok-clause-found
returns-in-Ok-clause-found c = found c.args.bytes (parts c.in-Ok.log) c.in-Ok.ensures

pub returns-in-Ok-clause-reads : goal.returns-in-Ok-clause-reads
returns-in-Ok-clause-reads c = λ log h. found_reads c.args.bytes c.in-Ok.log log c.in-Ok.ensures h

pub returns-in-Ok-clause-refuses : goal.returns-in-Ok-clause-refuses
returns-in-Ok-clause-refuses c =
    λ place w. found_refuses c.args.bytes c.in-Ok.log place c.in-Ok.ensures w

pub returns-in-Err-Wrong-clause-bad : goal.returns-in-Err-Wrong-clause-bad
returns-in-Err-Wrong-clause-bad c = rw c.len-count.ensures.count ((bad_at_place c.args.bytes
    c.in-Err-Wrong.left (as_wrong c.in-Err-Wrong.field-0 c.in-Err-Wrong.left _
    c.in-Err-Wrong.field-0-is c.in-Err-Wrong.ensures)).1)

pub returns-in-Err-Wrong-clause-reads : goal.returns-in-Err-Wrong-clause-reads
returns-in-Err-Wrong-clause-reads c =
    rw c.len-count.ensures.count (λ log h. bad_reads c.args.bytes c.in-Err-Wrong.left log
    (as_wrong c.in-Err-Wrong.field-0 c.in-Err-Wrong.left _
    c.in-Err-Wrong.field-0-is c.in-Err-Wrong.ensures) h)

pub returns-in-Err-Wrong-clause-refuses : goal.returns-in-Err-Wrong-clause-refuses
returns-in-Err-Wrong-clause-refuses c =
    rw c.len-count.ensures.count (λ place w. bad_refuses c.args.bytes c.in-Err-Wrong.left place
    (as_wrong c.in-Err-Wrong.field-0 c.in-Err-Wrong.left _
    c.in-Err-Wrong.field-0-is c.in-Err-Wrong.ensures) w)
