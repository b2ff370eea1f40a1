use Rattle.std.proofs.Common.{rules}
use Rattle.std.proofs.lemmas.List.Sorted.{answers_always}
use Rattle.net_core.proofs.Requests.{sorted_is}
use Rattle.net_core.proofs.asking.put_in_order.Goals as goal

pub returns : goal.returns
returns c =
    let keys = answers_always _ _ _ (λ f a r g h. search rules) in
    sorted_is c.args.requests.now.items c.sort_by_key.new.self.items
    (c.in_ok-sort_by_key.ensures.sorted (λ q. (q.id.site, q.id.k)) keys)
    (c.sort_by_key.ensures.stable (λ q. (q.id.site, q.id.k)) keys)
