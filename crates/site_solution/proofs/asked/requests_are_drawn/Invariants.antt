use Rattle.std.proofs.Common.{◌≡◌, drop}
use Rattle.std.specs.List.{list_all}
use Rattle.site_shelves.specs.Draws.{is_drawn}
use Rattle.wire_packet.specs.GroupFacts.{RequestParts}
use Rattle.site_solution.proofs.asked.requests_are_drawn.Given as goal

abbrev pub invariant-loop-request : goal.invariant-loop-request
invariant-loop-request l =
    list_all (λ (q : RequestParts). is_drawn l.count.number l.count.made q.id.site q.id.k)
    (drop l.request-index l.requests)
    ≡ list_all (λ (q : RequestParts). is_drawn l.count.number l.count.made q.id.site q.id.k)
    l.requests
