use Rattle.std.proofs.Common.{◌≡◌, ◌∙◌, ◌<◌, ℕ, length, sym, subst, arith}
use Rattle.net_core.specs.inside.Runs.{spread}
use Rattle.net_core.specs.inside.Turns.{Beside, AreThrough}
use Rattle.net_core.proofs.InPlace.{none_through, sites_many, may_work, may_pass, one_through}
use Rattle.net_core.proofs.Leading.{get_some}
use Rattle.net_core.proofs.turns.turn_all.Goals as goal

pub loop-number-init : goal.loop-number-init
loop-number-init c = none_through c.args.turns.code.now c.args.turns.quota c.args.turns.flights.now
    c.args.parts.now (record {
      events = c.args.journal.now;
      froms = spread c.args.senders.now.items;
      idle = c.args.idle.now.items;
    }) c.requires.idle

pub turn_at-requires-clause-number : goal.turn_at-requires-clause-number
turn_at-requires-clause-number c =
    let held = c.args.parts.now.sites.ok in
    let many = sites_many c.args.turns.code.now c.args.turns.quota c.args.turns.flights.now _ _
    c.loop-number.number c.loop-number.parts _ c.loop-number.invariant in
    omega (arith, held, many, c.loop-number-test.true, c.len-number-end.ensures)

pub turn_at-requires-clause-many : goal.turn_at-requires-clause-many
turn_at-requires-clause-many c =
    let many = sites_many c.args.turns.code.now c.args.turns.quota c.args.turns.flights.now _ _
    c.loop-number.number c.loop-number.parts _ c.loop-number.invariant in
    c.loop-number.invariant.long ∙ c.requires.many ∙ sym many

pub turn_at-requires-clause-can : goal.turn_at-requires-clause-can
turn_at-requires-clause-can c = λ s at.
    may_work c.args.turns.code.now c.args.turns.quota c.args.turns.flights.now _ _
    c.loop-number.number c.loop-number.parts _ c.loop-number.invariant s at c.requires.each

pub turn_at-requires-clause-pass : goal.turn_at-requires-clause-pass
turn_at-requires-clause-pass c = λ s at flag.
    may_pass c.args.turns.code.now c.args.turns.quota c.args.turns.flights.now _ _
    c.loop-number.number c.loop-number.parts _ c.loop-number.invariant s at c.requires.numbered
    c.requires.uncalled flag

pub loop-number-preserved : goal.loop-number-preserved
loop-number-preserved c =
    let held = c.args.parts.now.sites.ok in
    let many = sites_many c.args.turns.code.now c.args.turns.quota c.args.turns.flights.now _ _
    c.loop-number.number c.loop-number.parts _ c.loop-number.invariant in
    let below : c.loop-number.number < length c.loop-number.parts.sites.items =
    omega (arith, held, many, c.loop-number-test.true, c.len-number-end.ensures) in
    let here = get_some c.loop-number.parts.sites.items c.loop-number.number below in
    one_through c.args.turns.code.now c.args.turns.quota c.args.turns.flights.now _ _
    c.loop-number.number c.loop-number.parts _ c.loop-number.invariant here.0 here.1 _ _
    (c.in_ok-turn_at.ensures here.0 here.1)

pub returns : goal.returns
returns c =
    let held = c.args.parts.now.sites.ok in
    let all : c.loop-number.number ≡ length c.args.parts.now.sites.items = omega (
      arith,
      held,
      c.loop-number-test.false,
      c.loop-number.auto.number-end,
      c.len-number-end.ensures,
    ) in
    let before : Beside = record {
      events = c.args.journal.now;
      froms = spread c.args.senders.now.items;
      idle = c.args.idle.now.items;
    } in
    let after : Beside = record {
      events = c.loop-number.journal;
      froms = spread c.loop-number.senders.items;
      idle = c.loop-number.idle.items;
    } in
    subst (λ (k : ℕ). AreThrough c.args.turns.code.now c.args.turns.quota c.args.turns.flights.now
    c.args.parts.now before k c.loop-number.parts after) all c.loop-number.invariant
