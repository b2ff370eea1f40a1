use Rattle.std.proofs.Common.{◌-◌, sym, subst, length}
use Rattle.net_core.specs.Asking.{asks, requests_of}
use Rattle.net_core.specs.Scheduling.{InTurn, Meets, Forbids}
use Rattle.net_core.specs.Whole.{NetParts}
use Rattle.site_runner.specs.inside.RoundParts.{AreOne, HaveRun}
use Rattle.site_runner.proofs.Rounding.{all_passed, none_meets}
use Rattle.site_runner.proofs.in_rounds.meet_all.Goals as goal

pub returns-then-rests-clause-meets : goal.returns-then-rests-clause-meets
returns-then-rests-clause-meets c =
    let net = c.args.net.now in
    let book = c.args.book.now in
    subst (λ (v : NetParts). HaveRun (InTurn (Meets net.code) (Forbids net.code)
    (c.args.budget - length book.journal) (asks net.net) net.net) net book v book)
    (sym c.rests.ensures.same)
    (all_passed Meets Forbids c.args.budget (asks net.net) net book c.requires.one
    (none_meets net.code net.net (c.rests.ensures.none c.if-rests.true)
    (requests_of net.net.sites)))

pub meet_each-requires-clause-one : goal.meet_each-requires-clause-one
meet_each-requires-clause-one c =
    subst (AreOne c.args.book.now) (sym c.rests.ensures.same) c.requires.one
