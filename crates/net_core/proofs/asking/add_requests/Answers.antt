use Rattle.std.proofs.Common.{arith}
use Rattle.net_core.proofs.Requests.{one_request, all_taken}
use Rattle.net_core.proofs.asking.add_requests.Goals as goal

pub loop-place-preserved : goal.loop-place-preserved
loop-place-preserved c =
    one_request c.args.site.now.requests c.args.requests.now.items c.loop-place.requests.items
    c.push.new.self.items c.loop-place.place c.request_there.result c.request_there.ensures
    c.loop-place.invariant c.in_ok-push.ensures.items

pub returns : goal.returns
returns c =
    all_taken c.args.site.now.requests c.args.requests.now.items c.loop-place.requests.items
    c.loop-place.place
    (omega (arith, c.loop-place-test.false, c.count_requests-place-end.ensures))
    c.loop-place.invariant
