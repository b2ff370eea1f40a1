-- A name more stands in the list and, past the first few, in the map.
use Rattle.std.proofs.Common.{◌≤◌, length, drop, ap, sym, ◌∙◌, arith, rules}
use Rattle.chem_model.specs.Fill.{name_at}
use Rattle.chem_plain.specs.inside.Names.{walked}
use Rattle.chem_plain.proofs.Finds.{One, one_more}
use Rattle.chem_plain.proofs.names.NameTable.push.Goals as goal

pub invariant_of-self-else-is_err : goal.invariant_of-self-else-is_err
invariant_of-self-else-is_err c =
    let many : walked ≤ length c.self.inside.entries =
    omega (arith, c.len-count.ensures.count, c.if-count-ge-WALKED.true) in
    let one : One c.self.inside.index c.put.new.index c.args.binder c.args.name = search rules in
    λ q.
    one_more c.self.inside.entries c.args.binder c.args.name c.self.inside.index c.put.new.index
    many c.self.invariant one q
    ∙ ap (λ l. name_at (drop walked l) q) (sym c.in_ok-push.ensures.ok)
