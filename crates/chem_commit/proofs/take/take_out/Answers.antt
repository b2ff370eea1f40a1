-- The atom that is taken out, or none.
use Rattle.std.proofs.Common.{◌∙◌, ◌-◌}
use Rattle.std.specs.Prelude.{take, drop}
use Rattle.chem_model.specs.Apply.{without}
use Rattle.chem_commit.proofs.Firsts.{one_out, later_stays, none_stays}
use Rattle.chem_commit.proofs.Picking.{apart_left, differ-without}
use Rattle.chem_commit.proofs.take.take_out.Goals as goal

pub returns-then-index-count-clause-left : goal.returns-then-index-count-clause-left
returns-then-index-count-clause-left c = (later_stays c.args.id c.args.atoms.now c.in-Some.index
    c.args.count c.in-Some.ensures c.if-index-count.true c.requires.within).0

pub returns-then-index-count-clause-out : goal.returns-then-index-count-clause-out
returns-then-index-count-clause-out c = (later_stays c.args.id c.args.atoms.now c.in-Some.index
    c.args.count c.in-Some.ensures c.if-index-count.true c.requires.within).1

pub returns-else-index-count-clause-left : goal.returns-else-index-count-clause-left
returns-else-index-count-clause-left c = (one_out c.args.id c.args.atoms.now c.in-Some.index
    c.args.count c.in-Some.ensures c.if-index-count.false c.requires.within).0

pub returns-else-index-count-clause-out : goal.returns-else-index-count-clause-out
returns-else-index-count-clause-out c = c.remove.ensures
    ∙ (one_out c.args.id c.args.atoms.now c.in-Some.index c.args.count c.in-Some.ensures
    c.if-index-count.false c.requires.within).1

pub returns-in-None-clause-left : goal.returns-in-None-clause-left
returns-in-None-clause-left c =
    (none_stays c.args.id c.args.atoms.now c.args.count c.in-None.ensures c.requires.within).0

pub returns-in-None-clause-out : goal.returns-in-None-clause-out
returns-in-None-clause-out c =
    (none_stays c.args.id c.args.atoms.now c.args.count c.in-None.ensures c.requires.within).1

pub returns-else-index-count-clause-apart : goal.returns-else-index-count-clause-apart
returns-else-index-count-clause-apart c =
    let left = take c.args.count c.args.atoms.now in
    let both = one_out c.args.id c.args.atoms.now c.in-Some.index c.args.count c.in-Some.ensures
    c.if-index-count.false c.requires.within in
    apart_left (without c.args.id left) (drop c.args.count c.args.atoms.now)
    c.remove.new.self (c.args.count - 1) (c.remove.ensures ∙ both.1)
    both.0 (differ-without c.args.id left c.requires.apart)
