use Rattle.std.proofs.Common.{List, length, refl, ap, sym, ◌∙◌, arith}
use Rattle.net_core.specs.declared.drained.FlightFrom.{FlightFrom}
use Rattle.lossy_link.specs.Lines.{all_sent}
use Rattle.lossy_link.proofs.Wanting.{none_left, on_err}
use Rattle.lossy_link.proofs.steps.leave_all.Goals as goal

pub loop-packet-preserved : goal.loop-packet-preserved
loop-packet-preserved c = record {
  sent = ap (all_sent c.next.new.self) c.in_ok-leave.ensures
      ∙ ap (λ (ps : List FlightFrom). all_sent ps c.loop-packet.lines) (sym c.in-Some.ensures)
      ∙ c.loop-packet.invariant.sent;
  none = λ none. absurd (none_left c.loop-packet.left c.in-Some.packet c.next.new.self
      c.in-Some.ensures (c.loop-packet.invariant.none none));
}

pub loop-packet-init : goal.loop-packet-init
loop-packet-init c = record { sent = refl; none = λ e. e }

pub loop-packet-smaller : goal.loop-packet-smaller
loop-packet-smaller c = omega (arith, ap (λ (ps : List FlightFrom). length ps) c.in-Some.ensures)

pub returns-clause-sent : goal.returns-clause-sent
returns-clause-sent c =
    let none = rw c.in_default.is at c.next.ensures in
    ap (λ (ps : List FlightFrom). all_sent ps c.loop-packet.lines) (sym none.0)
    ∙ c.loop-packet.invariant.sent

pub returns-in_err-leave-clause-left : goal.returns-in_err-leave-clause-left
returns-in_err-leave-clause-left c =
    on_err c.from_residual.result (λ none. none_left c.loop-packet.left c.in-Some.packet
    c.next.new.self c.in-Some.ensures (c.loop-packet.invariant.none none))
