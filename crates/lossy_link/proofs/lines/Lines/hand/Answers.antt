use Rattle.std.proofs.Common.{ap, ◌∙◌}
use Rattle.std.proofs.lemmas.Result.{on_ok_weaker}
use Rattle.lossy_link.specs.Lines.{with_handed}
use Rattle.lossy_link.proofs.Filing.{either_filed, handed_values}
use Rattle.lossy_link.proofs.lines.Lines.hand.Goals as goal

pub invariant_of-self : goal.invariant_of-self
invariant_of-self c = either_filed c.add_handed.result c.args.from c.args.into
    c.self.inside.table.entries c.self.inside.pairs c.args.bytes c.add_handed.new.table.entries
    c.self.invariant c.add_handed.ensures.ok c.add_handed.ensures.err

pub returns : goal.returns
returns c = on_ok_weaker c.add_handed.result (λ is. handed_values c.args.from c.args.into
    c.self.inside.table.entries c.self.inside.pairs c.self.invariant c.args.bytes
    c.add_handed.new.table.entries is
    ∙ ap (with_handed c.args.from c.args.into c.args.bytes) c.self.view_is) c.add_handed.ensures.ok
