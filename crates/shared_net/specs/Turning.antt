-- What a turn does to the pass of its worker, and what the workers leave of all passes.
use Rattle.std.specs.Prelude.{◌≡◌, ℕ, List, map}
use Rattle.chem_model.specs.declared.event.Event.{Event}
use Rattle.site_turn.specs.declared.turn.Turn.{Turn}
use Rattle.site_turn.specs.declared.turn.Turn.TheVariants.{Did, Passed, Nothing, NotEnabled, Full}
use Rattle.shared_net.specs.Passes.{PassKept}
use Rattle.shared_net.specs.Proposes.{with_receipt}
use Rattle.shared_net.specs.Turns.{noted}

-- the pass notes what the turn came to, and has exactly one receipt more where an event was made,
-- with the place of that event
abbrev pub Turns : PassKept → Turn → PassKept → Type 0
Turns old (Did place) new = (e : Event) × (new ≡ noted (Did place) (with_receipt old place e))
Turns old Passed new = new ≡ noted Passed old
Turns old Nothing new = new ≡ noted Nothing old
Turns old NotEnabled new = new ≡ noted NotEnabled old
Turns old Full new = new ≡ noted Full old

-- whose pass it is, and its budget
abbrev pub owner : PassKept → ℕ × ℕ
owner p = (p.number, p.budget)

-- they are the passes of the same workers, in the same order, with the same budgets
abbrev pub HaveSameOwners : List PassKept → List PassKept → Type 0
HaveSameOwners old new = map owner new ≡ map owner old
