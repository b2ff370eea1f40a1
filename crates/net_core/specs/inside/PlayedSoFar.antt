-- What one choice more adds to those that are made.
use Rattle.std.specs.Prelude.{◌≡◌, List, [], ◌∷◌, ◌++◌, Option, Some, None}
use Rattle.chem_model.specs.declared.event.Event.{Event}
use Rattle.net_core.specs.declared.choice.Choice.{Choice}
use Rattle.net_core.specs.Making.{HasActed}
use Rattle.net_core.specs.Whole.{NetParts}

abbrev pub listed : Option Event → List Event
listed None = []
listed (Some e) = e ∷ []

-- one choice more is made, and its event is behind the others
pub record MakesMore (old : NetParts) (es : List Event) (x : Choice) (new : NetParts)
    (more : List Event) : Type 0 where
  pub outcome : Option Event
  pub acted : HasActed old x outcome new
  pub events : more ≡ es ++ listed outcome
