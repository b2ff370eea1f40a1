use Rattle.std.proofs.Common.{ap, ◌∙◌}
use Rattle.wire_packet.specs.GroupFacts.{RequestParts}
use Rattle.net_laws.specs.Holding.{without_request}
use Rattle.net_laws.specs.Parcels.{pack, parcel_of}
use Rattle.migration.proofs.Sent.{left_out, one_parcel}
use Rattle.migration.proofs.carrying.carried.Goals as goal

pub returns : goal.returns
returns c =
    one_parcel c.in-Parcel.parcel c.leave_out.result c.in_ok-parcel.field-0 c.in-Parcel.is
    c.in_ok-parcel.ensures
    ∙ c.leave_out.ensures
    ∙ ap (λ (r : RequestParts).
    record c.in_ok-packed.packed { requests = without_request r.id c.in_ok-packed.packed.requests })
    c.request.view_is
    ∙ left_out c.args.from.now c.args.request.now c.in_ok-packed.packed c.requires
    (c.in_ok-packed.ensures
    ∙ ap (λ (r : RequestParts). parcel_of (pack r.loc c.args.from.now)) c.request.view_is)
