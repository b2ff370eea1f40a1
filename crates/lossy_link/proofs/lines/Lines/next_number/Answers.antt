use Rattle.std.proofs.Common.{length, sym, ap, ◌∙◌}
use Rattle.lossy_link.specs.declared.line.Line.{Line}
use Rattle.lossy_link.proofs.Filing.{read_some, read_none}
use Rattle.lossy_link.proofs.lines.Lines.next_number.Goals as goal

pub returns-in-Some-clause-is : goal.returns-in-Some-clause-is
returns-in-Some-clause-is c =
    c.len.ensures.count
    ∙ ap (λ (l : Line). length l.history.handed) (sym (read_some c.self.inside.table.entries
    c.args.self.now c.self.view_is c.self.invariant.filed c.args.from c.args.into
    c.in-Some.line.now c.in-Some.ensures.value))

pub returns-in-None-clause-is : goal.returns-in-None-clause-is
returns-in-None-clause-is c = ap (λ (l : Line). length l.history.handed)
    (sym (read_none c.self.inside.table.entries c.args.self.now c.self.view_is
    c.self.invariant.filed c.args.from c.args.into c.in-None.ensures.value))
