-- How many messages wait, as the fields count them.
use Rattle.std.proofs.Common.{◌≡◌, List, [], ◌∷◌, length, refl, arith}
use Rattle.std.proofs.lemmas.List.Sums.{sum_by-cons}
use Rattle.wire_packet.specs.MessageFacts.{MessageParts}
use Rattle.wire_packet.specs.declared.packet.Waiting.{Waiting}
use Rattle.queue_cells.specs.Grouped.{waiting}
use Rattle.queue_cells.specs.Messages.{messages_in}
use Rattle.site_shelves.specs.Counted.{over_queue, over_queues, over_groups, over_stuck, one_each}
use Rattle.site_shelves.specs.inside.Index.{Rows, groups_of}

queue-many : (q : List MessageParts) → over_queue one_each q ≡ length q
queue-many [] = refl
queue-many (m ∷ q) = omega (arith, queue-many q)

queues-many : (qs : List (List MessageParts)) → over_queues one_each qs ≡ waiting qs
queues-many [] = refl
queues-many (q ∷ qs) = omega (arith, queue-many q, queues-many qs, sum_by-cons length q qs)

pub rows-many : (rs : Rows) → messages_in rs ≡ over_groups one_each (groups_of rs)
rows-many [] = refl
rows-many (r ∷ rs) = omega (arith, queues-many r.lists, rows-many rs)

pub stuck-many : (ws : List Waiting) → over_stuck one_each ws ≡ length ws
stuck-many [] = refl
stuck-many (w ∷ ws) = omega (arith, stuck-many ws)
