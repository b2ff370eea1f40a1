use Rattle.std.proofs.Common.{arith}
use Rattle.net_core.specs.Choosing as next
use Rattle.net_core.proofs.NextChoices.{first_delivered, none_under_way, none_after, first_after}
use Rattle.net_core.proofs.searching.next_choice.Goals as goal

pub returns-then-packets-gt0-clause-some : goal.returns-then-packets-gt0-clause-some
returns-then-packets-gt0-clause-some c = λ net parts same count.
    first_delivered net c.args.packets count c.args.code.now c.if-packets-gt0.true

pub returns-in-Some-clause-some : goal.returns-in-Some-clause-some
returns-in-Some-clause-some c = λ net parts same count.
    next.react c.in-Some.site c.in-Some.pick (none_under_way net c.args.packets count (omega arith))
    (c.in-Some.ensures.some net parts)

pub returns-clause-none : goal.returns-clause-none
returns-clause-none c =
    none_after c.args.version c.args.sites.now c.args.tree.now c.args.code.now c.args.packets
    c.first_request.result (omega arith) c.in_default.ensures.none c.first_request.ensures.none

pub returns-clause-some : goal.returns-clause-some
returns-clause-some c =
    first_after c.args.version c.args.sites.now c.args.tree.now c.args.code.now c.args.packets
    c.first_request.result (omega arith) c.in_default.ensures.none c.first_request.ensures.some
