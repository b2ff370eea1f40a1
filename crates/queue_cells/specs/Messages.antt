-- How many messages stand in groups of queues.
use Rattle.std.specs.Prelude.{ℕ, ◌+◌, List, [], ◌∷◌}
use Rattle.queue_cells.specs.Grouped.{Queued, waiting}

abbrev pub messages_in : {G T : Type 0} → List (Queued G T) → ℕ
messages_in [] = 0
messages_in (q ∷ qs) = waiting q.lists + messages_in qs
