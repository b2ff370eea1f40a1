use Rattle.sort_lines.specs.Lines.{lines_of}
use Rattle.sort_judge.proofs.Said.{is_verdict, keeps}
use Rattle.sort_judge.proofs.told.verdict.Goals as goal

pub returns-in-Err-clause-verdict : goal.returns-in-Err-clause-verdict
returns-in-Err-clause-verdict c = is_verdict (lines_of c.args.text.now) c.args.tree.now
    c.args.program.now c.in-Err.end c.fault.result c.in-Err.ensures.fault c.fault.ensures

pub returns-in-Err-clause-keeps : goal.returns-in-Err-clause-keeps
returns-in-Err-clause-keeps c = keeps (lines_of c.args.text.now)
    c.args.tree.now c.args.program.now c.in-Err.end c.fault.result c.fault.ensures
