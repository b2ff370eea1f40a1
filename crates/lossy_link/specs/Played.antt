-- How a list of steps is made.
use Rattle.std.specs.Prelude.{◌≡◌, ◌+◌, ◌≤◌, List, [], ◌∷◌, length, take, drop}
use Rattle.net_core.specs.Played.{Replays}
use Rattle.net_core.specs.Whole.{NetParts}
use Rattle.net_core.specs.declared.plays.Played.{Played}
use Rattle.net_core.specs.declared.plays.PlayStop.{PlayStop}
use Rattle.net_core.specs.declared.plays.PlayStop.TheVariants as stop
use Rattle.lossy_link.specs.declared.step.Step.{Step}
use Rattle.lossy_link.specs.Lines.{AreInOrder}
use Rattle.lossy_link.specs.Links.{Links}
use Rattle.lossy_link.specs.Over.{AllStepTo, IsEnabled}
use Rattle.lossy_link.specs.Standing.{net_of_links}

-- the first of these steps isn't enabled
pub record IsStuckAt (l : Links NetParts) (xs : List Step) : Type 0 where
  pub next : Step
  pub rest : List Step
  pub is : xs ≡ next ∷ rest
  pub not : IsEnabled l next → ⊥

-- of the steps that are left: there are none, or the next one isn't enabled
abbrev pub Stops : PlayStop → Links NetParts → List Step → Type 0
Stops stop.All l left = left ≡ []
Stops stop.NotEnabled l left = IsStuckAt l left
Stops stop.Memory l left = ⊥

-- The first `done` steps were made and no other, and these are their events. From each solution for
-- which the links stood the events replay to one for which they then stand; of each pair what the
-- receiver was given is the front of what was sent.
pub record HasPlayed (old : Links NetParts) (xs : List Step) (p : Played) (new : Links NetParts)
    : Type 0 where
  pub made : AllStepTo old (take p.done xs) p.events new
  pub within : p.done ≤ length xs
  pub stops : Stops p.stop new (drop p.done xs)
  pub code : new.net.code ≡ old.net.code
  pub events : new.net.events ≡ old.net.events + length p.events
  pub replays : Replays old.net.code (net_of_links old) p.events (net_of_links new)
  pub order : AreInOrder new.lines
