use Rattle.std.proofs.Common.{refl}
use Rattle.site_shelves.proofs.Naming.{index-reserved}
use Rattle.site_shelves.proofs.finding.reserve_spots.Goals as goal

pub returns-clause-index : goal.returns-clause-index
returns-clause-index c = λ gs index. index-reserved c.args.spots.now (record {
  marks = c.reserve-2.new.self;
  serials = c.reserve.new.self;
  next = c.args.spots.now.next;
}) gs c.reserve.ensures.items refl c.reserve-2.ensures.entries.2 index
