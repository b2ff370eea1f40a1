-- How queues lie in the cells of a slab.
use Rattle.std.specs.Prelude.{◌≡◌, ◌≢◌, ℕ, zero, suc, ◌+◌, List, [], ◌∷◌, ◌++◌, map, length, Option}
use Rattle.std.specs.Prelude.{Some, None, slice_index_or, eqb, cond, sum_by}
use Rattle.queue_cells.specs.declared.cells.Cell.{Cell}
use Rattle.queue_cells.specs.declared.cells.Ends.{Ends}

-- how many messages all queues have together
abbrev pub total : List Ends → ℕ
total es = sum_by (λ e. e.count) es

module _ {T : Type 0} where
  -- a cell's message with its key, and then what begins at its next cell
  abbrev pub from_cell : ℕ → (ℕ → List (ℕ × T)) → Option (Cell T) → List (ℕ × T)
  from_cell key rest None = []
  from_cell key rest (Some cell) = (key, cell.message) ∷ rest cell.next

  -- so many messages from this key on, each with its key; fewer where a cell is missing
  abbrev pub walk : List (Option (Cell T)) → ℕ → ℕ → List (ℕ × T)
  walk slots zero key = []
  walk slots (suc n) key = from_cell key (walk slots n) (slice_index_or slots key None)

  -- what is met between the ends of a queue
  abbrev pub walked : List (Option (Cell T)) → Ends → List (ℕ × T)
  walked slots e = walk slots e.count e.head

  -- the messages of a queue
  abbrev pub messages : List (Option (Cell T)) → Ends → List T
  messages slots e = map (λ p. p.1) (walked slots e)

  -- how often this key stands in what was walked
  abbrev pub uses : ℕ → List (ℕ × T) → ℕ
  uses k [] = 0
  uses k (p ∷ ps) = cond (eqb p.0 k) 1 0 + uses k ps

  -- the last key, or this number where there is none
  abbrev pub last_key : List (ℕ × T) → ℕ → ℕ
  last_key [] d = d
  last_key (p ∷ ps) d = last_key ps p.0

  -- each cell of the queue is there, and its tail is the last of them
  pub record IsQueue (slots : List (Option (Cell T))) (e : Ends) : Type 0 where
    pub whole : length (walked slots e) ≡ e.count
    pub last : last_key (walked slots e) e.tail ≡ e.tail

  -- each of these is a queue
  abbrev pub AllQueues : List (Option (Cell T)) → List Ends → Type 0
  AllQueues slots [] = Unit {0}
  AllQueues slots (e ∷ es) = IsQueue slots e × AllQueues slots es

  -- how often this key stands in any of these queues
  abbrev pub all_uses : List (Option (Cell T)) → ℕ → List Ends → ℕ
  all_uses slots k [] = 0
  all_uses slots k (e ∷ es) = uses k (walked slots e) + all_uses slots k es

  -- the cell with another key to lead to
  abbrev pub leading : Cell T → ℕ → Cell T
  leading cell key = record { message = cell.message; next = key }

  -- a message was chained to this queue's end, in a cell that was vacant, and the cells of other
  -- queues stay
  pub record Chained
      (old new : List (Option (Cell T)))
      (before after : Ends)
      (message : T) : Type 0 where
    pub key : ℕ
    pub vacant : slice_index_or old key None ≡ None
    pub longer : walked new after ≡ walked old before ++ (key, message) ∷ []
    pub queue : IsQueue new after
    pub count : after.count ≡ before.count + 1
    pub others : (k : ℕ) → k ≢ key → uses k (walked old before) ≡ 0 →
        slice_index_or new k None ≡ slice_index_or old k None

  -- the front of this queue was taken, and every other cell stays
  pub record Unchained
      (old new : List (Option (Cell T)))
      (before after : Ends)
      (message : T) : Type 0 where
    pub shorter : walked old before ≡ (before.head, message) ∷ walked new after
    pub queue : IsQueue new after
    pub count : before.count ≡ after.count + 1
    pub others : (k : ℕ) → k ≢ before.head →
        slice_index_or new k None ≡ slice_index_or old k None
