use Rattle.std.proofs.Common.{sym, arith}
use Rattle.site_shelves.proofs.Amounts.{rows-many}
use Rattle.site_shelves.proofs.Queueing.{groups-many, queues-are}
use Rattle.site_shelves.proofs.shelves.Shelves.rows.Goals as goal

pub returns-clause-many : goal.returns-clause-many
returns-clause-many c = rw (← c.self.view_is) (sym (groups-many c.self.inside.groups.groups))

pub returns-clause-few : goal.returns-clause-few
returns-clause-few c = rw (← c.self.view_is)
    (omega (arith, groups-many c.self.inside.groups.groups, c.self.invariant.few))

pub returns-clause-queues : goal.returns-clause-queues
returns-clause-queues c =
    rw (← c.self.view_is) (λ j. sym (queues-are c.self.inside.groups.groups j))

pub returns-clause-messages : goal.returns-clause-messages
returns-clause-messages c = rw (← c.self.view_is) (rows-many c.self.inside.groups.groups)
