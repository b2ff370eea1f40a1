use Rattle.std.proofs.Common.{◌≡◌, List, ◌++◌, true, false, ◌||◌, sym, subst, ◌∙◌}
use Rattle.wire_packet.specs.declared.packet.Flight.{Flight}
use Rattle.wire_packet.specs.declared.packet.Waiting.{Waiting}
use Rattle.net_laws.specs.Net.{among}
use Rattle.net_laws.proofs.Posting.{among_append}
use Rattle.site_solution.specs.inside.Leave.{Sorting}
use Rattle.site_solution.proofs.Sorting.{sort-waits, sort-away}
use Rattle.site_solution.proofs.Arriving.{on_ok}
use Rattle.site_solution.proofs.commit.sort_message.Goals as goal

pub returns-in_ok-push : goal.returns-in_ok-push
returns-in_ok-push c =
    let xs = c.args.here.now.locs in
    let ys = c.args.born.now.locs in
    let one = c.args.waiting in
    let old = c.args.sorted.now in
    let e = c.is_hosted.ensures in
    let t = c.if-is_hosted.true in
    let a : (among xs one.loc || among ys one.loc) ≡ true = cc in
    let here : among (xs ++ ys) one.loc ≡ true = among_append xs ys one.loc ∙ a in
    λ left whole s. subst (λ (ws : List Waiting).
    Sorting c.args.tree.now (xs ++ ys) left whole ws old.requests.items old.flights)
    (sym c.in_ok-push.ensures.items) (sort-waits c.args.tree.now (xs ++ ys) whole one left
    old.waiting.items old.requests.items old.flights here s)

pub returns-in_ok-flight : goal.returns-in_ok-flight
returns-in_ok-flight c =
    let xs = c.args.here.now.locs in
    let ys = c.args.born.now.locs in
    let one = c.args.waiting in
    let old = c.args.sorted.now in
    let e = c.is_hosted.ensures in
    let t = c.if-is_hosted.false in
    let a : (among xs one.loc || among ys one.loc) ≡ false = cc in
    let away : among (xs ++ ys) one.loc ≡ false = among_append xs ys one.loc ∙ a in
    on_ok _ c.push-else-is_hosted.result c.push-else-is_hosted.new.self _
    c.push-else-is_hosted.ensures.ok (λ flights left whole s.
    subst (λ (fs : List Flight).
    Sorting c.args.tree.now (xs ++ ys) left whole old.waiting.items old.requests.items fs)
    (sym flights)
    (sort-away c.args.tree.now (xs ++ ys) whole one.loc one.msg c.in_ok-flight.field-0 left
    old.waiting.items old.requests.items old.flights away c.in_ok-flight.ensures s))
