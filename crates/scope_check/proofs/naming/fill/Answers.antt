use Rattle.std.proofs.Common.{arith, ap, ◌∙◌}
use Rattle.std.specs.List.{swap}
use Rattle.scope_check.proofs.Filled.{filled}
use Rattle.scope_check.proofs.naming.fill.Goals as goal

pub returns : goal.returns
returns c =
    filled c.args.scopes.now.items c.args.slot c.len-last.result _ c.args.scope
    c.swap.new.self.items c.pop.new.self.items c.requires (omega (arith, c.len-last.ensures))
    (omega (arith, c.swap.ensures.len, c.in_ok-push.ensures.len))
    (c.swap.ensures.items
    ∙ ap (λ l. swap l c.args.slot c.len-last.result) c.in_ok-push.ensures.items) c.pop.ensures.rest
