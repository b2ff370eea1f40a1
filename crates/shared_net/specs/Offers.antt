-- What becomes of an event that is proposed to the book behind its lock, where it may be that a
-- site can't make it.
use Rattle.std.specs.Prelude.{◌≡◌, ℕ, ◌<◌, ◌⊎◌, true, false, length}
use Rattle.chem_model.specs.declared.event.Event.{Event}
use Rattle.trace_history.specs.Kept.{BookKept, is_enabled}
use Rattle.site_turn.specs.declared.turn.Turn.{Turn}
use Rattle.site_turn.specs.declared.turn.Turn.TheVariants.{Did, Passed, Nothing, NotEnabled, Full}
use Rattle.shared_net.specs.Passes.{PassKept}
use Rattle.shared_net.specs.Proposes.{IsFull, IsBehind, HasRoom, book_after, pass_after}
use Rattle.shared_net.specs.Proposes.{with_event, with_receipt}

-- the budget leaves an event, the pass can take its receipt, and the event fits
pub record IsOpen (Fits : Type 0) (book : BookKept) (pass : PassKept) : Type 0 where
  pub room : HasRoom book pass
  pub fits : Fits

-- when each answer comes, where the event can be made exactly if `Fits` holds; no two of these
-- cases hold together
abbrev pub IsOfferAnswer : Type 0 → BookKept → PassKept → Event → Turn → Type 0
IsOfferAnswer Fits book pass e Full = IsFull book pass
IsOfferAnswer Fits book pass e Nothing =
    (length book.journal < pass.budget) × (IsBehind book pass ⊎ (Fits → ⊥))
IsOfferAnswer Fits book pass e NotEnabled = IsOpen Fits book pass × (is_enabled book e ≡ false)
IsOfferAnswer Fits book pass e (Did place) =
    IsOpen Fits book pass × (is_enabled book e ≡ true) × (place ≡ length book.journal)
IsOfferAnswer Fits book pass e Passed = ⊥

-- the answer, and what the book and the pass are then
pub record Offers (Fits : Type 0) (old : BookKept) (held : PassKept) (e : Event) (turn : Turn)
    (new : BookKept) (after : PassKept) : Type 0 where
  pub answer : IsOfferAnswer Fits old held e turn
  pub book : new ≡ book_after old e turn
  pub pass : after ≡ pass_after held e turn

-- ---- what the pass alone shows

-- an event that was made has exactly one receipt more, with its place; else the pass is as it was
abbrev pub Turned : PassKept → Turn → PassKept → Type 0
Turned old (Did place) new = (e : Event) × (new ≡ with_receipt old place e)
Turned old Passed new = ⊥
Turned old Nothing new = new ≡ old
Turned old NotEnabled new = new ≡ old
Turned old Full new = new ≡ old

-- one receipt more
pub record HasGained (old new : PassKept) : Type 0 where
  pub place : ℕ
  pub event : Event
  pub pass : new ≡ with_receipt old place event

-- it is as it was, or has one receipt more
abbrev pub MayGain : PassKept → PassKept → Type 0
MayGain old new = (new ≡ old) ⊎ HasGained old new

-- ---- and on want of memory

-- book and pass are as they were
pub record IsUntouched (old : BookKept) (held : PassKept) (new : BookKept) (after : PassKept)
    : Type 0 where
  pub book : new ≡ old
  pub pass : after ≡ held

-- such an event was made, and the pass has exactly its receipt
pub record HasCommitted (Is : Event → Type 0) (old : BookKept) (held : PassKept) (new : BookKept)
    (after : PassKept) : Type 0 where
  pub event : Event
  pub event_is : Is event
  pub book : new ≡ with_event old event
  pub pass : after ≡ with_receipt held (length old.journal) event

-- no event was made, or one
abbrev pub MayHaveCommitted :
    (Event → Type 0) → BookKept → PassKept → BookKept → PassKept → Type 0
MayHaveCommitted Is old held new after =
    IsUntouched old held new after ⊎ HasCommitted Is old held new after
