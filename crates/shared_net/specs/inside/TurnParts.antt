-- What the parts of a turn do to the pass, before the turn is noted.
use Rattle.std.specs.Prelude.{◌≡◌}
use Rattle.chem_model.specs.declared.event.Event.{Event}
use Rattle.site_turn.specs.declared.turn.Turn.{Turn}
use Rattle.site_turn.specs.declared.turn.Turn.TheVariants.{Did, Passed, Nothing, NotEnabled, Full}
use Rattle.site_turn.specs.declared.stepping.Step.{Step}
use Rattle.site_turn.specs.declared.stepping.Step.TheVariants.{Ended, Wide}
use Rattle.shared_net.specs.Passes.{PassKept}
use Rattle.shared_net.specs.Proposes.{with_receipt}

-- one receipt more where an event was made, and else none
abbrev pub Steps : PassKept → Turn → PassKept → Type 0
Steps old (Did place) new = (e : Event) × (new ≡ with_receipt old place e)
Steps old Passed new = new ≡ old
Steps old Nothing new = new ≡ old
Steps old NotEnabled new = new ≡ old
Steps old Full new = new ≡ old

-- the same of the part under the tree's read lock
abbrev pub StepsFirst : PassKept → Step → PassKept → Type 0
StepsFirst old (Ended turn) new = Steps old turn new
StepsFirst old (Wide passed) new = new ≡ old
