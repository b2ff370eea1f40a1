use Rattle.std.proofs.Common.{◌≡◌, Some, sym, ap, subst, refl, inl, inr}
use Rattle.chem_model.specs.declared.event.AtomId.{AtomId}
use Rattle.std.specs.Prelude.{◌↔◌, IsTrue, nat_lt}
use Rattle.net_core.specs.declared.choice.Choice.{Choice}
use Rattle.net_core.specs.Choosing.{Allows, request_of}
use Rattle.net_core.proofs.FirstRequests.{site_tells}
use Rattle.net_core.proofs.NextChoices.{may_deliver}
use Rattle.net_core.proofs.searching.is_enabled.Goals as goal

pub returns-in-Deliver : goal.returns-in-Deliver
returns-in-Deliver c = λ net parts same count.
    let flight = c.in-Deliver.flight in
    let packets = c.args.packets in
    subst (λ (x : Choice). IsTrue (nat_lt flight packets) ↔ Allows c.args.code.now net x)
    (sym c.in-Deliver.is) (may_deliver net packets count flight (nat_lt flight packets) refl)

pub returns-in-Move : goal.returns-in-Move
returns-in-Move c = λ net parts same count.
    let x = c.args.choice.now in
    let tells =
    λ (a : AtomId) (asks : request_of x ≡ Some a). site_tells c.args.version c.args.sites.now
    c.args.tree.now c.args.code.now net parts same x a c.meeting_site.result c.is_some.result asks
    c.is_some.ensures c.meeting_site.ensures.none c.meeting_site.ensures.some in
    elim c.in-Move.is [
      | inl (a, e) ↦ tells a (ap request_of e)
      | inr other ↦ elim other [
        | inl (a, e) ↦ tells a (ap request_of e)
        | inr (a, e) ↦ tells a (ap request_of e)
      ]
    ]
