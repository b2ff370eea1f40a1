use Rattle.sort_lines.specs.Lines.{lines_of}
use Rattle.sort_lines.proofs.Declared.{answers_sorts, answers_fault}
use Rattle.sort_lines.proofs.read.read_sorts.Goals as goal

pub returns-clause-reads : goal.returns-clause-reads
returns-clause-reads c = answers_sorts (lines_of c.args.bytes.now)
    c.sorts_read.result c.sorts_read.ensures.sorts c.sorts_read.ensures.fault

pub returns-clause-refuses : goal.returns-clause-refuses
returns-clause-refuses c = answers_fault (lines_of c.args.bytes.now)
    c.sorts_read.result c.sorts_read.ensures.sorts c.sorts_read.ensures.fault
