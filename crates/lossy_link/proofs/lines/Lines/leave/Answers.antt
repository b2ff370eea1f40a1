use Rattle.std.proofs.Common.{sym, ap, ◌∙◌}
use Rattle.std.specs.BTreeSet.{contains}
use Rattle.lossy_link.specs.Lines.{flight_from, with_sent}
use Rattle.lossy_link.specs.inside.Table.{pair_cmp}
use Rattle.lossy_link.proofs.Filing.{left_filed, left_values, not_true, same_filed, taken_out}
use Rattle.lossy_link.proofs.lines.Lines.leave.Goals as goal

pub invariant_of-self-in-Ok : goal.invariant_of-self-in-Ok
invariant_of-self-in-Ok c = left_filed c.args.from c.args.into c.self.inside.table.entries
    c.self.inside.pairs c.self.invariant c.args.bytes c.add_sent.new.table.entries
    c.in-Ok.ensures.ok c.insert.new.self c.in_ok-new.ensures.updates.0

pub invariant_of-self-then-new : goal.invariant_of-self-then-new
invariant_of-self-then-new c =
    let absent = not_true (contains pair_cmp c.self.inside.pairs (c.args.from, c.args.into))
    (sym c.in_ok-new.ensures.added ∙ c.if-new.true) in
    same_filed c.self.inside.table.entries c.add_sent.new.table.entries c.self.inside.pairs
    c.remove.new.self c.self.invariant c.in-Err.ensures.err
    (taken_out c.args.from c.args.into c.self.inside.pairs c.insert.new.self
    c.in_ok-new.ensures.updates.0 c.remove.new.self absent c.remove.ensures.updates.0)

pub returns-in-Ok : goal.returns-in-Ok
returns-in-Ok c = left_values c.args.from c.args.into c.self.inside.table.entries
    c.self.inside.pairs c.self.invariant c.args.bytes c.add_sent.new.table.entries
    c.in-Ok.ensures.ok
    ∙ ap (with_sent (flight_from c.args.from c.args.into c.args.bytes)) c.self.view_is
