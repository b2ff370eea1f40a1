use Rattle.std.proofs.Common.{sym, subst}
use Rattle.wire_packet.specs.ParcelFacts.{IsParcel}
use Rattle.migration.proofs.Without.{parcel_less}
use Rattle.migration.proofs.leaving.leave_out.Goals as goal

pub invariant_of-result : goal.invariant_of-result
invariant_of-result c =
    subst (λ rs. IsParcel (record {
      loc = c.parcel.inside.loc;
      groups = c.parcel.inside.groups;
      waiting = c.parcel.inside.waiting;
      requests = rs;
    })) (sym c.drop_from.ensures)
    (parcel_less c.args.atom (record {
      loc = c.parcel.inside.loc;
      groups = c.parcel.inside.groups;
      waiting = c.parcel.inside.waiting;
      requests = c.parcel.inside.requests;
    }) c.parcel.invariant)
