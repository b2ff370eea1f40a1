-- What becomes of an event that is proposed to the book behind its lock, with a worker's pass.
use Rattle.std.specs.Prelude.{◌≡◌, ℕ, ◌<◌, ◌≤◌, [], ◌∷◌, ◌++◌, true, false, length}
use Rattle.chem_model.specs.declared.event.Event.{Event}
use Rattle.trace_history.specs.Kept.{BookKept, is_enabled}
use Rattle.site_turn.specs.declared.turn.Turn.{Turn}
use Rattle.site_turn.specs.declared.turn.Turn.TheVariants.{Did, Passed, Nothing, NotEnabled, Full}
use Rattle.shared_net.specs.Passes.{PassKept, next_place}

-- the book with one event more
abbrev pub with_event : BookKept → Event → BookKept
with_event book e = record { program = book.program; journal = book.journal ++ e ∷ [] }

-- the pass with one receipt more
abbrev pub with_receipt : PassKept → ℕ → Event → PassKept
with_receipt pass place e =
    record pass { receipts = pass.receipts ++ record { place = place; event = e } ∷ [] }

-- the book has as many events as the pass's budget, or more
abbrev pub IsFull : BookKept → PassKept → Type 0
IsFull book pass = pass.budget ≤ length book.journal

-- the pass has a receipt, and the journal is no longer than the place of its last one
abbrev pub IsBehind : BookKept → PassKept → Type 0
IsBehind book pass = length book.journal < next_place 0 pass.receipts

-- neither: the budget leaves an event, and the pass can take its receipt
abbrev pub HasRoom : BookKept → PassKept → Type 0
HasRoom book pass =
    (length book.journal < pass.budget) × (next_place 0 pass.receipts ≤ length book.journal)

-- when each answer comes; no two of these cases hold together
abbrev pub IsAnswer : BookKept → PassKept → Event → Turn → Type 0
IsAnswer book pass e Full = IsFull book pass
IsAnswer book pass e Nothing = (length book.journal < pass.budget) × IsBehind book pass
IsAnswer book pass e NotEnabled = HasRoom book pass × (is_enabled book e ≡ false)
IsAnswer book pass e (Did place) =
    HasRoom book pass × (is_enabled book e ≡ true) × (place ≡ length book.journal)
IsAnswer book pass e Passed = ⊥

-- what an answer means for the book: an event that was made is the journal's last one
abbrev pub book_after : BookKept → Event → Turn → BookKept
book_after book e (Did place) = with_event book e
book_after book e Passed = book
book_after book e Nothing = book
book_after book e NotEnabled = book
book_after book e Full = book

-- what it means for the pass: it has the receipt of an event that was made
abbrev pub pass_after : PassKept → Event → Turn → PassKept
pass_after pass e (Did place) = with_receipt pass place e
pass_after pass e Passed = pass
pass_after pass e Nothing = pass
pass_after pass e NotEnabled = pass
pass_after pass e Full = pass

-- the answer, and what the book and the pass are then
pub record Proposes (old : BookKept) (held : PassKept) (e : Event) (turn : Turn)
    (new : BookKept) (after : PassKept) : Type 0 where
  pub answer : IsAnswer old held e turn
  pub book : new ≡ book_after old e turn
  pub pass : after ≡ pass_after held e turn
