use Rattle.std.proofs.Common.{◌≡◌, ◌∙◌, ◌++◌, length, ap, arith}
use Rattle.std.specs.VecDeque.{deque_len}
use Rattle.net_core.proofs.Members.{pushed}
use Rattle.net_core.proofs.handing.add_last.Goals as goal

pub returns : goal.returns
returns c =
    let last = c.from_vec-last.result in
    let items = c.from_vec-last.ensures.items ∙ c.into_vec.ensures.members in
    let many : deque_len last ≡ length c.args.more = last.ok.0 ∙ ap length items in
    pushed c.append.result c.append.new.self.items (c.args.flights.now.items ++ last.items)
    c.args.flights.now.items c.append.ensures.items
    (c.append.ensures.succeeds (omega (arith, many, c.requires)))
    ∙ ap (λ xs. c.args.flights.now.items ++ xs) items
