use Rattle.std.proofs.Common.{sym, refl, ◌∙◌, subst}
use Rattle.std.specs.Prelude.{◌↔◌, IsTrue}
use Rattle.net_core.specs.Choosing.{Allows}
use Rattle.net_core.specs.Parts.{net_of}
use Rattle.net_core.specs.Whole.{NetParts}
use Rattle.net_core.proofs.Carrying.{carried_length}
use Rattle.net_core.proofs.net.Net.enabled.Goals as goal

pub returns : goal.returns
returns c =
    let p = c.self.inside.parts in
    let net = net_of c.self.inside.code.seen p in
    let count =
    carried_length p.flights.items ∙ sym c.self.invariant.net.whole.flying.counted in
    subst (λ (v : NetParts). IsTrue c.is_enabled.result ↔ Allows v.code v.net c.args.choice.now)
    c.self.view_is (c.is_enabled.ensures net
    (record { sites_are = sym c.as_slice.ensures.value; tree_is = refl }) refl count)
