use Rattle.std.proofs.Common.{◌≡◌, ◌+◌, ℕ, sym, subst, arith}
use Rattle.net_core.specs.declared.choice.Choice.{Choice}
use Rattle.net_core.specs.Choosing.{Allows}
use Rattle.net_core.specs.Parts.{net_of}
use Rattle.net_core.specs.Whole.{IsWhole}
use Rattle.net_core.proofs.Deliveries.{as_before_net, as_before_whole}
use Rattle.net_core.proofs.Done.{may_react, may_deliver, reacted_acts, reacted_sends}
use Rattle.net_core.proofs.Done.{delivered_acts, delivered_sends}
use Rattle.net_core.proofs.Fitting.{on_err}
use Rattle.net_core.proofs.acting.make.Goals as goal

pub react_pick-requires-clause-may : goal.react_pick-requires-clause-may
react_pick-requires-clause-may c = may_react c.args.code.now c.requires.whole.1.running.code
    c.args.parts.now c.in-React.site c.in-React.pick
    (subst (λ (x : Choice). Allows c.args.code.now (net_of c.args.code.now.seen c.args.parts.now) x)
    c.in-React.is c.requires.allowed)

pub deliver_flight-requires-clause-flight : goal.deliver_flight-requires-clause-flight
deliver_flight-requires-clause-flight c =
    may_deliver c.args.code.now c.args.parts.now c.in-Deliver.flight c.requires.whole.1.flying
    (subst (λ (x : Choice). Allows c.args.code.now (net_of c.args.code.now.seen c.args.parts.now) x)
    c.in-Deliver.is c.requires.allowed)

pub returns-in_err-target-in-Deliver-clause-err : goal.returns-in_err-target-in-Deliver-clause-err
returns-in_err-target-in-Deliver-clause-err c =
    on_err ((events : ℕ) → IsWhole c.args.code.now c.args.parts.now events
    → IsWhole c.args.code.now c.deliver_flight.new.parts events)
    c.from_residual-in_err-target-in-Deliver.result
    (λ events whole. c.deliver_flight.ensures.whole c.args.code.now events whole)

pub returns-in_err-target-in-Deliver-clause-same : goal.returns-in_err-target-in-Deliver-clause-same
returns-in_err-target-in-Deliver-clause-same c =
    on_err (net_of c.args.code.now.seen c.deliver_flight.new.parts
    ≡ net_of c.args.code.now.seen c.args.parts.now) c.from_residual-in_err-target-in-Deliver.result
    (c.in_err-target-in-Deliver.ensures.err c.args.code.now.seen)

pub returns-in_ok-event-in-React-clause-acts : goal.returns-in_ok-event-in-React-clause-acts
returns-in_ok-event-in-React-clause-acts c =
    reacted_acts c.args.code.now (net_of c.args.code.now.seen c.args.parts.now)
    (net_of c.args.code.now.seen c.react_pick.new.parts) c.args.choice.now c.in-React.site
    c.in-React.pick c.in_ok-event-in-React.event c.in-React.is c.in_ok-event-in-React.ensures.reacts

pub returns-in_ok-target-in-Deliver-clause-acts : goal.returns-in_ok-target-in-Deliver-clause-acts
returns-in_ok-target-in-Deliver-clause-acts c =
    delivered_acts c.args.code.now (net_of c.args.code.now.seen c.args.parts.now)
    (net_of c.args.code.now.seen c.deliver_flight.new.parts) c.args.choice.now c.in-Deliver.flight
    c.in-Deliver.is (c.in_ok-target-in-Deliver.ensures.ok c.args.code.now.seen)

pub returns-in_ok-target-in-Deliver-clause-whole : goal.returns-in_ok-target-in-Deliver-clause-whole
returns-in_ok-target-in-Deliver-clause-whole c = λ events few whole.
    let e : events + 0 ≡ events = omega arith in
    subst (IsWhole c.args.code.now c.deliver_flight.new.parts) (sym e)
    (c.deliver_flight.ensures.whole c.args.code.now events whole)

pub returns-in_err-event-in-React-clause-err : goal.returns-in_err-event-in-React-clause-err
returns-in_err-event-in-React-clause-err c =
    on_err ((events : ℕ) → IsWhole c.args.code.now c.args.parts.now events
    → IsWhole c.args.code.now c.react_pick.new.parts events) c.from_residual.result
    (λ events whole. as_before_whole c.args.code.now c.args.parts.now c.react_pick.new.parts events
    c.in_err-event-in-React.ensures.err whole)

pub returns-in_err-event-in-React-clause-same : goal.returns-in_err-event-in-React-clause-same
returns-in_err-event-in-React-clause-same c =
    on_err (net_of c.args.code.now.seen c.react_pick.new.parts
    ≡ net_of c.args.code.now.seen c.args.parts.now)
    c.from_residual.result (as_before_net c.args.code.now.seen c.args.parts.now
    c.react_pick.new.parts c.in_err-event-in-React.ensures.err)

pub returns-in_err-sender-in-Move-clause-err : goal.returns-in_err-sender-in-Move-clause-err
returns-in_err-sender-in-Move-clause-err c =
    on_err ((events : ℕ) → IsWhole c.args.code.now c.args.parts.now events
    → IsWhole c.args.code.now c.meet.new.parts events) c.from_residual-in_err-sender-in-Move.result
    (λ events whole. as_before_whole c.args.code.now c.args.parts.now c.meet.new.parts events
    c.in_err-sender-in-Move.ensures.err whole)

pub returns-in_err-sender-in-Move-clause-same : goal.returns-in_err-sender-in-Move-clause-same
returns-in_err-sender-in-Move-clause-same c = on_err
    (net_of c.args.code.now.seen c.meet.new.parts ≡ net_of c.args.code.now.seen c.args.parts.now)
    c.from_residual-in_err-sender-in-Move.result (as_before_net c.args.code.now.seen
    c.args.parts.now c.meet.new.parts c.in_err-sender-in-Move.ensures.err)

pub returns-in_ok-event-in-React-clause-sent_by : goal.returns-in_ok-event-in-React-clause-sent_by
returns-in_ok-event-in-React-clause-sent_by c =
    reacted_sends (net_of c.args.code.now.seen c.args.parts.now)
    c.args.choice.now c.in-React.site c.in-React.pick c.in-React.is

pub returns-in_ok-target-in-Deliver-clause-sent_by :
    goal.returns-in_ok-target-in-Deliver-clause-sent_by
returns-in_ok-target-in-Deliver-clause-sent_by c =
    delivered_sends (net_of c.args.code.now.seen c.args.parts.now)
    c.args.choice.now c.in-Deliver.flight c.in_ok-target-in-Deliver.target c.in-Deliver.is
    (c.in_ok-target-in-Deliver.ensures.sent_by c.args.code.now.seen)
