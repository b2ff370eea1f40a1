use Rattle.std.proofs.Common.{◌≡◌, ◌≤◌, ◌<◌, ◌+◌, ◌^◌, length, drop}
use Rattle.site_solution.specs.inside.Rising.{with_requests, AreNewIn}
use Rattle.site_solution.proofs.asked.Asked.add_all.Given as goal

abbrev pub invariant-loop-request : goal.invariant-loop-request
invariant-loop-request l = record {
  done :
      with_requests (drop l.request-index l.requests) l.self.items
      ≡ with_requests l.requests l.fn.self.items;
  room : length (drop l.request-index l.requests) ≤ l.self.spare;
  few : length l.self.items + length (drop l.request-index l.requests) < 2 ^ 32;
  new : AreNewIn l.self.items (drop l.request-index l.requests);
}
