use Rattle.std.proofs.Common.{◌≡◌, ◌+◌, ℕ, List, true, arith, eq-eqb, sym, subst}
use Rattle.router.specs.Delivering.{can_deliver}
use Rattle.net_core.specs.Parts.{message_in, IsMessageText, IsMessageFlight}
use Rattle.net_laws.proofs.Holds.{each_get}
use Rattle.net_core.proofs.Alone.{none_came, may_come, comes, passes_by, coming_as}
use Rattle.net_core.proofs.Mail.{not_same}
use Rattle.net_core.proofs.SiteReactions.{member_at}
use Rattle.net_core.proofs.turn.work_off.Goals.{then-flight-number+in_ok-bring_text, else-flight-number}
use Rattle.net_core.proofs.turn.work_off.Goals as goal

pub loop-flight-init : goal.loop-flight-init
loop-flight-init c = none_came c.args.code.now c.args.tree.now c.args.site.now.number
    c.args.flights.now c.args.site.now c.new-on.result c.new-on.ensures

pub bring_text-requires-clause-spelled : goal.bring_text-requires-clause-spelled
bring_text-requires-clause-spelled c =
    let f = c.flight-item.result in
    let at = member_at c.args.flights.now c.loop-flight.flight-index f c.loop-flight-test.true
    c.flight-item.is in
    subst IsMessageText (sym c.as_slice-bytes.ensures.members)
    (each_get IsMessageFlight c.args.flights.now c.loop-flight.flight-index f at c.requires.spelled)

pub bring_text-requires-clause-can : goal.bring_text-requires-clause-can
bring_text-requires-clause-can c =
    let f = c.flight-item.result in
    let i = c.args.site.now.number in
    let n = c.loop-flight.flight-index in
    let at = member_at c.args.flights.now n f c.loop-flight-test.true c.flight-item.is in
    let same : f.target ≡ i = omega (arith, c.number-number.ensures, c.if-flight-number.true) in
    subst (λ (bs : List ℕ). can_deliver c.args.tree.now c.loop-flight.site (message_in bs) ≡ true)
    (sym c.as_slice-bytes.ensures.members)
    (may_come c.args.code.now c.args.tree.now i c.args.flights.now c.args.site.now n
    c.loop-flight.site c.loop-flight.on c.loop-flight.invariant f at (eq-eqb f.target i same)
    c.requires.alone.0 c.requires.alone.1)

pub loop-flight-preserved : goal.loop-flight-preserved
loop-flight-preserved c =
    let f = c.flight-item.result in
    let code = c.args.code.now in
    let tree = c.args.tree.now in
    let s = c.args.site.now in
    let i = s.number in
    let fs = c.args.flights.now in
    let n = c.loop-flight.flight-index in
    let at = member_at fs n f c.loop-flight-test.true c.flight-item.is in
    let spelled = each_get IsMessageFlight fs n f at c.requires.spelled in
    elim c.if-flight-number.branch [
      | then-flight-number+in_ok-bring_text w ↦
          let same : f.target ≡ i =
          omega (arith, c.number-number.ensures, w.if-flight-number.true) in
          coming_as code tree i fs s (n + 1) w.bring_text.new.site c.if-flight-number.site
          w.bring_text.new.on c.if-flight-number.on w.site-is w.on-is
          (comes code tree i fs s n c.loop-flight.site c.loop-flight.on c.loop-flight.invariant f at
          (eq-eqb f.target i same) c.requires.alone.0 c.requires.alone.1 spelled
          w.bring_text.new.site w.bring_text.new.on w.as_slice-bytes.result.now
          w.as_slice-bytes.ensures.members w.in_ok-bring_text.ensures.ok
          (w.in_ok-bring_text.ensures.fit code))
      | else-flight-number w ↦
          coming_as code tree i fs s (n + 1) c.loop-flight.site c.if-flight-number.site
          c.loop-flight.on c.if-flight-number.on w.site-is w.on-is
          (passes_by code tree i fs s n c.loop-flight.site c.loop-flight.on c.loop-flight.invariant
          f at (not_same f.target i (λ same.
          absurd (omega (arith, c.number-number.ensures, w.if-flight-number.false, same)))))
    ]
