use Rattle.std.proofs.Common.{ap}
use Rattle.net_core.specs.Whole.{NetParts}
use Rattle.net_core.proofs.net.Net.events.Goals as goal

pub returns : goal.returns
returns c = ap (λ (v : NetParts). v.events) c.self.view_is
