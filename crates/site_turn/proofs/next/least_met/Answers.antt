use Rattle.std.proofs.Common.{◌≡◌, ◌∙◌, ◌<◌, Some, true, sym, ap, arith, length}
use Rattle.std.specs.Prelude.{slice_get}
use Rattle.std.proofs.lemmas.Option.{slice_get_within}
use Rattle.wire_packet.specs.GroupFacts.{RequestParts}
use Rattle.site_turn.specs.Next.{may_meet}
use Rattle.site_turn.proofs.Requests.{none_first, none_next, none_at_all, least_here}
use Rattle.site_turn.proofs.Requests.{found_at}
use Rattle.site_turn.proofs.next.least_met.Goals as goal

pub loop-request-init : goal.loop-request-init
loop-request-init c = none_first c.args.version c.args.tree.now c.args.site.now

pub may_meet-requires-clause-here : goal.may_meet-requires-clause-here
may_meet-requires-clause-here c =
    found_at c.args.site.now.requests c.loop-request.index c.in-Some.request.now
    c.site_is_kept.ensures.asked.rising (sym c.in-Some.ensures)

pub returns-then-may_meet-clause-some : goal.returns-then-may_meet-clause-some
returns-then-may_meet-clause-some c =
    let w = c.args.version in
    let t = c.args.tree.now in
    let s = c.args.site.now in
    let q : RequestParts =
    record { id = c.request.inside.id; loc = c.request.inside.loc; ask = c.request.inside.ask } in
    let at : slice_get s.requests c.loop-request.index ≡ Some q =
    sym c.in-Some.ensures ∙ ap (λ (r : RequestParts). Some r) (sym c.request.view_is) in
    let met : may_meet w t s q.id ≡ true =
    ap (λ (r : RequestParts). may_meet w t s r.id) c.request.view_is ∙ sym c.may_meet.ensures
    ∙ c.if-may_meet.true in
    least_here w t s c.loop-request.index q c.site_is_kept.ensures.asked.rising at met
    c.loop-request.invariant

pub overflow_add-index : goal.overflow_add-index
overflow_add-index c =
    let few = c.site_is_kept.ensures.asked.few in
    let within : c.loop-request.index < length c.args.site.now.requests =
    slice_get_within c.args.site.now.requests c.loop-request.index c.in-Some.request.now
    (sym c.in-Some.ensures) in
    omega arith

pub loop-request-smaller : goal.loop-request-smaller
loop-request-smaller c =
    let within : c.loop-request.index < length c.args.site.now.requests =
    slice_get_within c.args.site.now.requests c.loop-request.index c.in-Some.request.now
    (sym c.in-Some.ensures) in
    omega arith

pub loop-request-preserved : goal.loop-request-preserved
loop-request-preserved c =
    none_next c.args.version c.args.tree.now c.args.site.now c.loop-request.index
    c.in-Some.request.now (sym c.in-Some.ensures) (sym c.may_meet.ensures ∙ c.if-may_meet.false)
    c.loop-request.invariant

pub returns-clause-none : goal.returns-clause-none
returns-clause-none c = none_at_all c.args.version c.args.tree.now c.args.site.now
    c.loop-request.index (sym c.in_default.ensures) c.loop-request.invariant
