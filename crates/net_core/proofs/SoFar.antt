-- That the first choices of a list are made.
use Rattle.std.specs.Prelude.{◌≡◌, ℕ, ◌+◌, ◌≤◌, List, length, take}
use Rattle.chem_model.specs.declared.event.Event.{Event}
use Rattle.net_core.specs.declared.choice.Choice.{Choice}
use Rattle.net_core.specs.Played.{ActsAll}
use Rattle.net_core.specs.Whole.{NetParts}

-- the first n choices are made
pub record IsPlaying (old : NetParts) (xs : List Choice) (n : ℕ) (es : List Event)
    (new : NetParts) : Type 0 where
  pub made : ActsAll old.code old.net (take n xs) es new.net
  pub code : new.code ≡ old.code
  pub events : new.events ≡ old.events + length es
  pub few : length es ≤ n
