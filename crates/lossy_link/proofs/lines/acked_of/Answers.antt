use Rattle.std.proofs.Common.{sym, ap}
use Rattle.lossy_link.specs.declared.line.Line.{Line}
use Rattle.lossy_link.proofs.Filing.{found_line, found_none}
use Rattle.lossy_link.proofs.lines.acked_of.Goals as goal

pub returns-in-Some : goal.returns-in-Some
returns-in-Some c = ap (λ (l : Line). l.acked) (sym (found_line c.args.from c.args.into
    c.args.table.now.entries c.in-Some.line.now c.requires (sym c.in-Some.ensures.value)))

pub returns-in-None : goal.returns-in-None
returns-in-None c = ap (λ (l : Line). l.acked) (sym (found_none c.args.from c.args.into
    c.args.table.now.entries c.requires (sym c.in-None.ensures.value)))
