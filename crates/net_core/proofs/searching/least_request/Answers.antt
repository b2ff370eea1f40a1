use Rattle.std.proofs.Common.{◌+◌, sym, subst}
use Rattle.net_core.specs.inside.Searched.{IsLeast}
use Rattle.net_core.proofs.SiteReactions.{member_at}
use Rattle.net_core.proofs.FirstRequests.{answer_is, least_step}
use Rattle.net_core.proofs.searching.least_request.Goals as goal

pub loop-number-preserved : goal.loop-number-preserved
loop-number-preserved c =
    let sites = c.args.sites.now in
    let t = c.args.tree.now in
    let v = c.args.version in
    let n = c.loop-number.number in
    let s = c.index-sites-number.result in
    let more = least_step v sites t n s c.loop-number.best c.least_at.result
    (member_at sites n s c.loop-number-test.true c.index-sites-number.is) c.loop-number.invariant
    (answer_is v sites t s c.least_at.result c.least_at.ensures.none c.least_at.ensures.some) in
    subst (IsLeast v sites t (n + 1)) (sym c.lesser-best.ensures) more
