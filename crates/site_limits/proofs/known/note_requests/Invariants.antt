use Rattle.wire_packet.specs.GroupFacts.{RequestParts}
use Rattle.site_limits.specs.Limits.{Limits, request_within}
use Rattle.site_limits.specs.Knows.{Noted}
use Rattle.site_limits.proofs.Learned.{Left}
use Rattle.site_limits.proofs.known.note_requests.Given as goal

abbrev pub invariant-loop-one : goal.invariant-loop-one
invariant-loop-one l = Noted l.fn.known l.known
    (Left (λ (d : Limits) (q : RequestParts). request_within d q) l.requests 0 l.one-index)
