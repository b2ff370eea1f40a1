-- That the first steps of a list are made.
use Rattle.std.specs.Prelude.{◌≡◌, ℕ, ◌+◌, ◌≤◌, List, length, take}
use Rattle.chem_model.specs.declared.event.Event.{Event}
use Rattle.net_core.specs.Whole.{NetParts}
use Rattle.lossy_link.specs.declared.step.Step.{Step}
use Rattle.lossy_link.specs.Links.{Links}
use Rattle.lossy_link.specs.Over.{AllStepTo}

-- the first n steps are made
pub record IsPlaying (old : Links NetParts) (xs : List Step) (n : ℕ) (es : List Event)
    (new : Links NetParts) : Type 0 where
  pub made : AllStepTo old (take n xs) es new
  pub events : new.net.events ≡ old.net.events + length es
  pub few : length es ≤ n
