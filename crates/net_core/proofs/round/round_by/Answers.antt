use Rattle.loc_tree.specs.Tree.{bare}
use Rattle.net_core.specs.inside.Idle.{AreIdle}
use Rattle.net_core.specs.inside.Slots.{HasSent}
use Rattle.net_core.proofs.Fitting.{on_ok}
use Rattle.net_core.proofs.Idling.{none_known}
use Rattle.net_core.proofs.round.round_by.Goals as goal

pub returns-clause-idle : goal.returns-clause-idle
returns-clause-idle g c =
    let code = c.args.terms.code.now in
    let new = c.round_of.new.parts in
    on_ok (HasSent code c.args.terms.limits.quota c.args.parts.now new c.round_of.new.senders.items)
    (AreIdle code (bare new.tree) new.sites.items c.clear.new.self.items) c.round_of.result
    (λ sent. none_known code (bare new.tree) new.sites.items c.clear.new.self.items
    c.clear.ensures.items)
    c.round_of.ensures.sent
