-- Links over a network of sites that run code: nothing is under way in it, as all its packets are
-- with the links.
use Rattle.std.specs.Prelude.{◌≡◌, ℕ, ◌+◌, ◌-◌, List, ◌++◌, Option, Some, length, replicate}
use Rattle.chem_model.specs.declared.event.Event.{Event}
use Rattle.net_core.specs.Acting.{Delivers}
use Rattle.net_core.specs.Acts.{Acts}
use Rattle.net_core.specs.Choosing.{Allows}
use Rattle.net_core.specs.Drained.{AreHandedOut}
use Rattle.net_core.specs.Received.{with_last}
use Rattle.net_core.specs.Senders.{IsSentBy}
use Rattle.net_core.specs.Whole.{NetParts}
use Rattle.net_core.specs.declared.choice.Choice.{Choice}
use Rattle.net_core.specs.declared.choice.Choice.TheVariants as choice
use Rattle.net_core.specs.declared.drained.FlightFrom.{FlightFrom}
use Rattle.lossy_link.specs.declared.step.Step.{Step}
use Rattle.lossy_link.specs.Links.{Links, Steps, StepsAll, IsEnabledWhere}

-- an enabled choice that is no delivery
abbrev pub AllowsOver : NetParts → Choice → Type 0
AllowsOver net (choice.React i p) = Allows net.code net.net (choice.React i p)
AllowsOver net (choice.Deliver f) = ⊥
AllowsOver net (choice.Move a) = Allows net.code net.net (choice.Move a)
AllowsOver net (choice.Halt a) = Allows net.code net.net (choice.Halt a)
AllowsOver net (choice.Detect a) = Allows net.code net.net (choice.Detect a)

-- the choice is made, and what it sends is handed out, from the site that the choice says
pub record ActsOver (old : NetParts) (x : Choice) (e : Event) (new : NetParts)
    (out : List FlightFrom) : Type 0 where
  pub mid : NetParts
  pub acts : Acts old.code old.net x (Some e) mid.net
  pub code : mid.code ≡ old.code
  pub events : mid.events ≡ old.events + 1
  pub sender : ℕ
  pub sent_by : IsSentBy old.net x sender
  pub froms :
      mid.froms
      ≡ old.froms ++ replicate (length mid.net.packets - length old.net.packets) sender
  pub handed_out : AreHandedOut mid out new

-- a packet comes to a site and is delivered there, and where it goes on it is handed out, from this
-- site
pub record ReceivesOver (old : NetParts) (site : ℕ) (bytes : List ℕ) (new : NetParts)
    (out : List FlightFrom) : Type 0 where
  pub mid : NetParts
  pub delivers : Delivers (with_last old.net site bytes) (length old.net.packets) mid.net
  pub code : mid.code ≡ old.code
  pub events : mid.events ≡ old.events
  pub froms :
      mid.froms ≡ old.froms ++ replicate (length mid.net.packets - length old.net.packets) site
  pub handed_out : AreHandedOut mid out new

abbrev pub StepsTo : Links NetParts → Step → Option Event → Links NetParts → Type 0
StepsTo = Steps NetParts ActsOver ReceivesOver

abbrev pub AllStepTo : Links NetParts → List Step → List Event → Links NetParts → Type 0
AllStepTo = StepsAll NetParts ActsOver ReceivesOver

abbrev pub IsEnabled : Links NetParts → Step → Type 0
IsEnabled = IsEnabledWhere NetParts AllowsOver
