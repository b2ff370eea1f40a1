-- A group of queues whose queues are emptied.
use Rattle.std.specs.Prelude.{ℕ, zero, suc, List, [], ◌∷◌, length}
use Rattle.queue_cells.specs.Grouped.{Queued, idle_group}

module _ {G T : Type 0} where
  -- the groups with empty queues in one of them
  abbrev pub emptied : List (Queued G T) → ℕ → List (Queued G T)
  emptied [] group = []
  emptied (q ∷ qs) zero = idle_group q.told (length q.lists) ∷ qs
  emptied (q ∷ qs) (suc group) = q ∷ emptied qs group
