-- How groups of queues lie in the cells of a slab.
use Rattle.std.specs.Prelude.{◌≡◌, ℕ, ◌+◌, ◌≤◌, Bool, false, not, List, [], ◌∷◌, map, length}
use Rattle.std.specs.Prelude.{Option, eqb, replicate, sum_by}
use Rattle.slab.specs.Slab.{Slab, slab_len}
use Rattle.queue_cells.specs.declared.cells.Cell.{Cell}
use Rattle.queue_cells.specs.declared.cells.Ends.{Ends}
use Rattle.queue_cells.specs.declared.rows.Row.{Row}
use Rattle.queue_cells.specs.Grouped.{Queued}
use Rattle.queue_cells.specs.inside.Walk.{messages, AllQueues, all_uses, total}

-- the queue holds a message
abbrev pub is_held : Ends → Bool
is_held e = not (eqb e.count 0)

-- the ends of a queue that never had a message
abbrev pub no_ends : Ends
no_ends = record { head = 0; tail = 0; count = 0 }

-- each queue of the group is new, and the status says so
pub record IsIdle {G : Type 0} (r : Row G) : Type 0 where
  pub ends : r.ends.items ≡ replicate (length r.status) no_ends
  pub status : r.status ≡ replicate (length r.status) false

module _ {G T : Type 0} where
  -- the group that a row and the cells are
  abbrev pub queued : List (Option (Cell T)) → Row G → Queued G T
  queued slots r = record { told = r.told; lists = map (messages slots) r.ends.items }

  -- the row's queues are there, and the status has a bit exactly where a queue isn't empty
  pub record IsRow (slots : List (Option (Cell T))) (r : Row G) : Type 0 where
    pub queues : AllQueues slots r.ends.items
    pub status : r.status ≡ map is_held r.ends.items

  -- each of these is a row
  abbrev pub AllRows : List (Option (Cell T)) → List (Row G) → Type 0
  AllRows slots [] = Unit {0}
  AllRows slots (r ∷ rs) = IsRow slots r × AllRows slots rs

  -- how often this key stands in any queue of these rows
  abbrev pub row_uses : List (Option (Cell T)) → ℕ → List (Row G) → ℕ
  row_uses slots k [] = 0
  row_uses slots k (r ∷ rs) = all_uses slots k r.ends.items + row_uses slots k rs

  -- each is a row; no cell stands in two queues or twice in one; and each cell stands in one
  pub record AreRows (cells : Slab (Cell T)) (rows : List (Row G)) : Type 0 where
    pub each : AllRows cells.slots rows
    pub once : (k : ℕ) → row_uses cells.slots k rows ≤ 1
    pub counted : sum_by (λ r. total r.ends.items) rows ≡ slab_len cells
