use Rattle.std.proofs.Common.{◌≡◌, ◌∙◌, Option, Some, None, true, false, refl, sym, subst}
use Rattle.std.specs.Prelude.{IfNone, is_some}
use Rattle.net_core.specs.declared.choice.Choice.{Choice}
use Rattle.net_core.specs.Choosing.{NoneMeetsAny}
use Rattle.net_core.specs.Parts.{net_of}
use Rattle.net_core.specs.Whole.{NetParts}
use Rattle.net_core.specs.inside.Searched.{HasSites}
use Rattle.net_core.proofs.net.Net.may_meet.Goals as goal

if_none : (o : Option Choice) (P : Type 0) → is_some o ≡ false → IfNone o P → P
if_none None P e f = f
if_none (Some x) P e f = absurd (let clash : true ≡ false = e in cc)

pub returns : goal.returns
returns c = λ fails.
    let p = c.self.inside.parts in
    let code = c.self.inside.code in
    let net = net_of code.seen p in
    let parts : HasSites c.as_slice-sites.result.now p.tree net =
    record { sites_are = sym c.as_slice-sites.ensures.value; tree_is = refl } in
    let none = if_none c.first_request.result _ (sym c.is_some.ensures ∙ fails)
    c.first_request.ensures.none in
    subst (λ (v : NetParts). NoneMeetsAny v.code v.net) c.self.view_is (none code net parts refl)
