use Rattle.std.proofs.Common.{◌∙◌, sym, ap, length}
use Rattle.net_core.specs.Whole.{NetParts}
use Rattle.net_core.proofs.Carrying.{carried_length}
use Rattle.net_core.proofs.net.Net.flights.Goals as goal

pub returns : goal.returns
returns c =
    c.self.invariant.net.whole.flying.counted
    ∙ sym (carried_length c.self.inside.parts.flights.items)
    ∙ ap (λ (v : NetParts). length v.net.packets) c.self.view_is
