use Rattle.std.proofs.Common.{sym, subst}
use Rattle.std.specs.Prelude.{IfNone, IfSome}
use Rattle.lossy_link.specs.declared.line.Line.{Line}
use Rattle.lossy_link.specs.Links.{IsOpenIn, NoneOpenIn}
use Rattle.lossy_link.proofs.Filing.{none_open, read_some}
use Rattle.lossy_link.proofs.lines.Lines.open_at.Goals as goal

pub returns-in-Some-clause-none : goal.returns-in-Some-clause-none
returns-in-Some-clause-none c =
    let same = read_some c.self.inside.table.entries c.args.self.now c.self.view_is
    c.self.invariant.filed c.args.from c.args.into c.in-Some.line.now c.in-Some.ensures.value in
    subst (λ (l : Line). IfNone c.open_in.result (NoneOpenIn l c.args.number)) (sym same)
    c.open_in.ensures.none

pub returns-in-Some-clause-some : goal.returns-in-Some-clause-some
returns-in-Some-clause-some c =
    let same = read_some c.self.inside.table.entries c.args.self.now c.self.view_is
    c.self.invariant.filed c.args.from c.args.into c.in-Some.line.now c.in-Some.ensures.value in
    subst (λ (l : Line). IfSome c.open_in.result (λ x. IsOpenIn l c.args.number x.now)) (sym same)
    c.open_in.ensures.some

pub returns-in-None-clause-none : goal.returns-in-None-clause-none
returns-in-None-clause-none c = none_open c.self.inside.table.entries c.args.self.now
    c.self.view_is c.self.invariant.filed c.args.from c.args.into c.args.number
    c.in-None.ensures.value
