use Rattle.net_laws.proofs.Parcels.{parcel_carries}
use Rattle.net_laws.proofs.laws.parcel_carries.Goals as goal

pub returns : goal.returns
returns c = λ told. parcel_carries told
