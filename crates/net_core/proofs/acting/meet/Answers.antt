use Rattle.std.proofs.Common.{◌≡◌, ℕ, List, sym, ap, subst, arith}
use Rattle.net_core.specs.Acting.{Detects}
use Rattle.net_core.specs.Parts.{net_of}
use Rattle.env_store.specs.CodeParts.{CodeParts}
use Rattle.net_core.proofs.Done.{moved_acts, moved_sends, detected_acts, halted_acts}
use Rattle.net_core.proofs.Noted.{halt_sends, detect_sends, met_low}
use Rattle.net_core.proofs.acting.meet.Goals as goal

pub returns-in-Move-clause-acts : goal.returns-in-Move-clause-acts
returns-in-Move-clause-acts c =
    moved_acts c.args.code.now (net_of c.args.code.now.seen c.args.parts.now)
    (net_of c.args.code.now.seen c.move_request.new.parts) c.args.choice.now c.in-Move.atom
    c.move_request.result c.in-Move.is c.move_request.ensures.event c.move_request.ensures.moves

pub returns-in-Move-clause-sent_by : goal.returns-in-Move-clause-sent_by
returns-in-Move-clause-sent_by c =
    moved_sends c.args.code.now (net_of c.args.code.now.seen c.args.parts.now)
    (net_of c.args.code.now.seen c.move_request.new.parts) c.args.choice.now c.in-Move.atom
    c.move_request.result c.in-Move.is c.move_request.ensures.sent_by

pub overflow_cast-result : goal.overflow_cast-result
overflow_cast-result c =
    let low = met_low (net_of c.args.code.now.seen c.args.parts.now) c.args.parts.now.version
    c.args.parts.now.tree c.args.choice.now c.in-Halt.atom c.args.number c.requires.met in
    let few = c.requires.whole.1.running.few_sites in
    omega arith

pub returns-in-Halt-clause-acts : goal.returns-in-Halt-clause-acts
returns-in-Halt-clause-acts c =
    halted_acts c.args.code.now (net_of c.args.code.now.seen c.args.parts.now)
    (net_of c.args.code.now.seen c.halt_request-event.new.parts)
    c.args.choice.now c.in-Halt.atom c.halt_request-event.result c.in-Halt.is
    c.halt_request-event.ensures.event (c.halt_request-event.ensures.halts c.args.code.now.seen)

pub returns-in-Halt-clause-sent_by : goal.returns-in-Halt-clause-sent_by
returns-in-Halt-clause-sent_by c =
    halt_sends (net_of c.args.code.now.seen c.args.parts.now) c.args.parts.now.version
    c.args.parts.now.tree c.args.choice.now c.in-Halt.atom c.args.number c.requires.met c.in-Halt.is

pub returns-in-Halt-clause-whole : goal.returns-in-Halt-clause-whole
returns-in-Halt-clause-whole c =
    λ events few whole. c.halt_request-event.ensures.whole c.args.code.now events few whole

pub overflow_cast-result-in-Detect : goal.overflow_cast-result-in-Detect
overflow_cast-result-in-Detect c =
    let low = met_low (net_of c.args.code.now.seen c.args.parts.now) c.args.parts.now.version
    c.args.parts.now.tree c.args.choice.now c.in-Detect.atom c.args.number c.requires.met in
    let few = c.requires.whole.1.running.few_sites in
    omega arith

pub returns-in_ok-event-in-Detect-clause-acts : goal.returns-in_ok-event-in-Detect-clause-acts
returns-in_ok-event-in-Detect-clause-acts c =
    let seen : c.code.inside.seen ≡ c.args.code.now.seen =
    ap (λ (k : CodeParts). k.seen) c.code.view_is in
    detected_acts c.args.code.now (net_of c.args.code.now.seen c.args.parts.now)
    (net_of c.args.code.now.seen c.detect_request.new.parts) c.args.choice.now c.in-Detect.atom
    c.in_ok-event-in-Detect.event c.in-Detect.is c.in_ok-event-in-Detect.ensures.event
    (subst (λ (ks : List ℕ).
    Detects (net_of ks c.args.parts.now) c.in-Detect.atom (net_of ks c.detect_request.new.parts))
    seen c.in_ok-event-in-Detect.ensures.detects)

pub returns-in_ok-event-in-Detect-clause-sent_by : goal.returns-in_ok-event-in-Detect-clause-sent_by
returns-in_ok-event-in-Detect-clause-sent_by c =
    detect_sends (net_of c.args.code.now.seen c.args.parts.now)
    c.args.parts.now.version c.args.parts.now.tree c.args.choice.now c.in-Detect.atom c.args.number
    c.requires.met c.in-Detect.is

pub returns-in_ok-event-in-Detect-clause-whole : goal.returns-in_ok-event-in-Detect-clause-whole
returns-in_ok-event-in-Detect-clause-whole c = λ events few whole.
    let seen : c.code.inside.seen ≡ c.args.code.now.seen =
    ap (λ (k : CodeParts). k.seen) c.code.view_is in
    c.in_ok-event-in-Detect.ensures.whole c.args.code.now events (sym seen) few whole
