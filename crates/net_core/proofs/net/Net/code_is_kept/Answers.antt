use Rattle.std.proofs.Common.{subst}
use Rattle.env_store.specs.CodeFacts.{IsCode}
use Rattle.net_core.specs.Whole.{NetParts}
use Rattle.net_core.proofs.net.Net.code_is_kept.Goals as goal

pub returns : goal.returns
returns c =
    subst (λ (v : NetParts). IsCode v.code) c.self.view_is c.self.invariant.net.whole.running.code
