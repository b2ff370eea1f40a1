use Rattle.std.proofs.Common.{◌≤◌, List, length, sym, ap, subst, ◌∙◌}
use Rattle.lossy_link.specs.declared.line.Line.{Line}
use Rattle.lossy_link.specs.Lines.{line_of, with_acked}
use Rattle.lossy_link.proofs.Filing.{acked_values, closed_filed, open_filed}
use Rattle.lossy_link.proofs.lines.Lines.acknowledge.Goals as goal

pub invariant_of-self : goal.invariant_of-self
invariant_of-self c =
    let es = c.self.inside.table.entries in
    let within = subst (λ (ls : List Line).
    c.args.number ≤ length (line_of c.args.from c.args.into ls).history.sent)
    (sym c.self.view_is) c.requires.within in
    closed_filed c.args.from c.args.into es c.self.inside.pairs c.self.invariant c.args.number
    c.raise_acked.new.table.entries c.raise_acked.ensures.is within
    (sym c.raise_acked.ensures.more ∙ c.if-not-raise_acked.true) c.remove.new.self
    c.remove.ensures.updates.0

pub invariant_of-self-else-not-raise_acked : goal.invariant_of-self-else-not-raise_acked
invariant_of-self-else-not-raise_acked c =
    let es = c.self.inside.table.entries in
    let within = subst (λ (ls : List Line).
    c.args.number ≤ length (line_of c.args.from c.args.into ls).history.sent)
    (sym c.self.view_is) c.requires.within in
    open_filed c.args.from c.args.into es c.self.inside.pairs c.self.invariant c.args.number
    c.raise_acked.new.table.entries c.raise_acked.ensures.is within
    (sym c.raise_acked.ensures.more ∙ c.if-not-raise_acked.false)

pub returns-then-not-raise_acked : goal.returns-then-not-raise_acked
returns-then-not-raise_acked c =
    let es = c.self.inside.table.entries in
    let within = subst (λ (ls : List Line).
    c.args.number ≤ length (line_of c.args.from c.args.into ls).history.sent)
    (sym c.self.view_is) c.requires.within in
    acked_values c.args.from c.args.into es c.self.inside.pairs c.self.invariant c.args.number
    c.raise_acked.new.table.entries c.raise_acked.ensures.is within
    ∙ ap (with_acked c.args.from c.args.into c.args.number) c.self.view_is

pub returns-else-not-raise_acked : goal.returns-else-not-raise_acked
returns-else-not-raise_acked c =
    let es = c.self.inside.table.entries in
    let within = subst (λ (ls : List Line).
    c.args.number ≤ length (line_of c.args.from c.args.into ls).history.sent)
    (sym c.self.view_is) c.requires.within in
    acked_values c.args.from c.args.into es c.self.inside.pairs c.self.invariant c.args.number
    c.raise_acked.new.table.entries c.raise_acked.ensures.is within
    ∙ ap (with_acked c.args.from c.args.into c.args.number) c.self.view_is
