-- What making a choice does to a network.
use Rattle.std.specs.Prelude.{◌≡◌, ℕ, ◌+◌, ◌-◌, ◌++◌, Option, Some, None, length, replicate}
use Rattle.chem_model.specs.declared.event.Event.{Event}
use Rattle.net_laws.specs.Net.{Net}
use Rattle.net_core.specs.declared.choice.Choice.{Choice}
use Rattle.net_core.specs.Acts.{Acts}
use Rattle.net_core.specs.Falling.{deliveries_left}
use Rattle.net_core.specs.Laws.{IsLedFrom}
use Rattle.net_core.specs.Senders.{IsSentBy, kept}
use Rattle.net_core.specs.Whole.{NetParts}

-- how many events a choice is
abbrev pub counted : Option Event → ℕ
counted None = 0
counted (Some e) = 1

-- a delivery leaves one delivery less
abbrev pub Falls : Net → Option Event → Net → Type 0
Falls old None new = deliveries_left old ≡ deliveries_left new + 1
Falls old (Some e) new = Unit {0}

-- The choice is made: what it leaves is a function of the network, the code and the choice. Of each
-- solution for which the network stood it stands for what the event leads to; at a delivery, which
-- has no event, for the same. What is sent is under way behind all others, from the site that sent
-- it.
pub record HasActed (old : NetParts) (x : Choice) (o : Option Event) (new : NetParts) : Type 0
  where
    pub acts : Acts old.code old.net x o new.net
    pub code : new.code ≡ old.code
    pub events : new.events ≡ old.events + counted o
    pub leads : IsLedFrom old.net o new.net old.code
    pub falls : Falls old.net o new.net
    pub sender : ℕ
    pub sent_by : IsSentBy old.net x sender
    pub froms :
        new.froms
        ≡ kept x old.froms
        ++ replicate (length new.net.packets - length (kept x old.net.packets)) sender
