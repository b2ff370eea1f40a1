-- What is sent is read as it was.
use Rattle.std.proofs.Common.{◌≡◌, Some, sym, ap, ◌∙◌}
use Rattle.wire_packet.specs.ParcelFacts.{ParcelParts}
use Rattle.wire_packet.specs.GroupFacts.{RequestParts}
use Rattle.wire_packet.specs.declared.parcel.Packet.{Packet}
use Rattle.wire_packet.specs.declared.parcel.Packet.TheVariants as packet
use Rattle.net_laws.specs.Site.{Site}
use Rattle.net_laws.specs.Holding.{request_with, without_request, drop_request}
use Rattle.net_laws.specs.Parcels.{pack, parcel_of}
use Rattle.migration.proofs.Between.{pack_less}

-- the parcel without the request is that of the location once the request is dropped
pub left_out : (s : Site) (q : RequestParts) (p : ParcelParts)
    → request_with q.id s.requests ≡ Some q → p ≡ parcel_of (pack q.loc s)
    → record p { requests = without_request q.id p.requests }
    ≡ parcel_of (pack q.loc (drop_request q.id s))
left_out s q p there is =
    ap (λ (v : ParcelParts). record v { requests = without_request q.id v.requests }) is
    ∙ sym (ap parcel_of (pack_less q.loc q.id q (λ _. q.loc) s there))

pub one_parcel : (p q : ParcelParts) (v : Packet) → v ≡ packet.Parcel p → v ≡ packet.Parcel q
    → p ≡ q
one_parcel p q v e f = cc
