use Rattle.std.proofs.Common.{◌≡◌, ◌∙◌, true, Some, slice_get, sym, ap, refl, subst}
use Rattle.std.specs.Prelude.{IfNone}
use Rattle.net_laws.specs.Net.{Net}
use Rattle.net_core.specs.Parts.{net_of}
use Rattle.net_core.specs.Scheduling.{ReadyOpensNone}
use Rattle.net_core.specs.inside.Searched.{HasSites}
use Rattle.net_core.specs.Whole.{NetParts}
use Rattle.net_core.proofs.Idling.{idle_opens_none}
use Rattle.net_core.proofs.OpeningHere.{if_none}
use Rattle.net_core.proofs.net.Net.opening_at.Goals as goal

pub returns-then-is_idle_at-clause-none : goal.returns-then-is_idle_at-clause-none
returns-then-is_idle_at-clause-none c =
    let p = c.self.inside.parts in
    let code = c.self.inside.code in
    let idle = c.self.inside.idle.items in
    let flag : slice_get idle c.args.site ≡ Some true =
    ap (λ bs. slice_get bs c.args.site) (sym c.as_slice.ensures.value)
    ∙ c.is_idle_at.ensures c.if-is_idle_at.true in
    subst (λ (v : NetParts). ReadyOpensNone v.code v.net c.args.site) c.self.view_is
    (idle_opens_none code (net_of code.seen p) idle c.args.site c.self.invariant.quiet flag)

pub returns-clause-none : goal.returns-clause-none
returns-clause-none c =
    let p = c.self.inside.parts in
    let code = c.self.inside.code in
    let net = net_of code.seen p in
    let parts : HasSites c.as_slice-2.result.now p.tree net =
    record { sites_are = sym c.as_slice-2.ensures.value; tree_is = refl } in
    subst (λ (v : NetParts). IfNone c.opening_of.result (ReadyOpensNone v.code v.net c.args.site))
    c.self.view_is
    (if_none c.opening_of.result
    ((n : Net) → HasSites c.as_slice-2.result.now p.tree n → ReadyOpensNone code n c.args.site)
    (ReadyOpensNone code net c.args.site) (λ f. f net parts) c.opening_of.ensures.none)
