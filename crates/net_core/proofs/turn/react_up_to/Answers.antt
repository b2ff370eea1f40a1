use Rattle.std.proofs.Common.{arith}
use Rattle.net_core.proofs.Alone.{reacting_fits, reacts_more, reacted_all, reacted_most}
use Rattle.net_core.proofs.Idling.{none_bare}
use Rattle.net_core.proofs.OpeningHere.{births_are, all_open}
use Rattle.net_core.proofs.turn.react_up_to.Goals as goal

pub ready-requires-clause-tree : goal.ready-requires-clause-tree
ready-requires-clause-tree c =
    (reacting_fits c.args.code.now c.args.tree.now c.args.site.now.number c.args.quota
    c.args.site.now c.loop-event._event c.loop-event.site c.loop-event.made c.loop-event.invariant
    c.requires.0 c.requires.1 c.requires.2).in_tree

pub ready-requires-clause-code : goal.ready-requires-clause-code
ready-requires-clause-code c =
    (reacting_fits c.args.code.now c.args.tree.now c.args.site.now.number c.args.quota
    c.args.site.now c.loop-event._event c.loop-event.site c.loop-event.made c.loop-event.invariant
    c.requires.0 c.requires.1 c.requires.2).in_code

pub react_once-requires-clause-fit : goal.react_once-requires-clause-fit
react_once-requires-clause-fit c =
    reacting_fits c.args.code.now c.args.tree.now c.args.site.now.number c.args.quota
    c.args.site.now c.loop-event._event c.loop-event.site c.loop-event.made c.loop-event.invariant
    c.requires.0 c.requires.1 c.requires.2

pub returns-in_default-clause-reacted : goal.returns-in_default-clause-reacted
returns-in_default-clause-reacted c =
    reacted_all c.args.code.now c.args.tree.now c.args.site.now.number c.args.quota c.args.site.now
    c.loop-event._event c.loop-event.site c.loop-event.made c.loop-event.invariant
    (λ q r. absurd (none_bare c.args.code.now c.args.tree.now c.loop-event.site
    c.in_default.ensures.none q r.pick r.fires))

pub returns-in_default-clause-idle : goal.returns-in_default-clause-idle
returns-in_default-clause-idle c = λ flag.
    none_bare c.args.code.now c.args.tree.now c.loop-event.site c.in_default.ensures.none

pub returns-then-births-gt0-clause-reacted : goal.returns-then-births-gt0-clause-reacted
returns-then-births-gt0-clause-reacted c =
    let more = c.if-births-gt0.true in
    reacted_all c.args.code.now c.args.tree.now c.args.site.now.number c.args.quota c.args.site.now
    c.loop-event._event c.loop-event.site c.loop-event.made c.loop-event.invariant
    (all_open c.args.code.now c.args.tree.now c.loop-event.site c.in-Some.pick
    c.in-Some.ensures.some c.births.result c.births.ensures (omega arith))

pub loop-event-preserved : goal.loop-event-preserved
loop-event-preserved c =
    let ready = c.in-Some.ensures.some in
    let none = births_are c.args.code.now c.args.tree.now c.loop-event.site c.in-Some.pick ready
    c.births.result c.births.ensures in
    let done = c.in_ok-react_once.ensures in
    reacts_more c.args.code.now c.args.tree.now c.args.site.now.number c.args.quota c.args.site.now
    c.loop-event._event c.loop-event.site c.loop-event.made c.loop-event.invariant c.requires.0
    c.requires.1 c.requires.2
    c.loop-event-test.true c.react_once.new.site c.in-Some.pick ready
    (let few = c.if-births-gt0.false in omega (arith, none)) done.event
    done.effects (done.reacts ready.pick ready.fires.covers.picks)
    c.react_once.new.made done.noted

pub returns-clause-reacted : goal.returns-clause-reacted
returns-clause-reacted c =
    let all = c.loop-event-test.false in
    reacted_most c.args.code.now c.args.tree.now c.args.site.now.number c.args.quota c.args.site.now
    c.loop-event._event c.loop-event.site c.loop-event.made c.loop-event.invariant (omega arith)
