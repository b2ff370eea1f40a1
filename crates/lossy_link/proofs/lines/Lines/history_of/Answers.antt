use Rattle.std.proofs.Common.{List, ◌<◌, length, sym, ap, subst}
use Rattle.lossy_link.specs.declared.line.Line.{Line}
use Rattle.lossy_link.specs.Lines.{AreUsed}
use Rattle.lossy_link.specs.inside.Table.{same_pair}
use Rattle.lossy_link.proofs.Filing.{found_each, read_some, read_none}
use Rattle.lossy_link.proofs.lines.Lines.history_of.Goals as goal

pub returns-in-Some-clause-some : goal.returns-in-Some-clause-some
returns-in-Some-clause-some c = ap (λ (l : Line). l.history)
    (sym (read_some c.self.inside.table.entries c.args.self.now c.self.view_is
    c.self.invariant.filed c.args.from c.args.into c.in-Some.line.now c.in-Some.ensures.value))

pub returns-in-Some-clause-used : goal.returns-in-Some-clause-used
returns-in-Some-clause-used c = λ used.
    found_each (λ (l : Line). 0 < length l.history.sent) (same_pair (c.args.from, c.args.into))
    c.self.inside.table.entries c.in-Some.line.now
    (subst (λ (ls : List Line). AreUsed ls) (sym c.self.view_is) used)
    (sym c.in-Some.ensures.value)

pub returns-in-None-clause-none : goal.returns-in-None-clause-none
returns-in-None-clause-none c = read_none c.self.inside.table.entries c.args.self.now
    c.self.view_is c.self.invariant.filed c.args.from c.args.into c.in-None.ensures.value
