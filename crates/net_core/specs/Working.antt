-- What the calls of a round answer.
use Rattle.std.specs.Prelude.{◌≡◌, ℕ, ◌+◌, ◌*◌, ◌<◌, ◌≤◌, List, length}
use Rattle.chem_model.specs.declared.event.Event.{Event}
use Rattle.env_store.specs.CodeParts.{CodeParts}
use Rattle.reducer.specs.declared.pick.Pick.{Pick}
use Rattle.net_laws.specs.Net.{Net}
use Rattle.net_core.specs.declared.choice.Choice.{Choice}
use Rattle.net_core.specs.declared.choice.Choice.TheVariants as choice
use Rattle.net_core.specs.Lending.{AreSentInTurn}
use Rattle.net_core.specs.Played.{Replays}
use Rattle.net_core.specs.Scheduling.{IsReadyAt, births_of, AreTurns, numbers}
use Rattle.net_core.specs.Whole.{NetParts}

-- the choice is the reaction that is ready at the site i, and that opens locations
pub record IsOpeningAt (c : CodeParts) (net : Net) (i : ℕ) (x : Choice) : Type 0 where
  pub pick : Pick
  pub is : x ≡ choice.React i pick
  pub ready : IsReadyAt c net i pick
  pub some : 0 < births_of c pick

-- Each site had its turn, one after another, with these events, at most so many of each. They
-- replay from each solution for which the network stood to one for which it then stands. What is
-- under way is from the sites that left it, site after site. Neither the tree nor the number of
-- sites changed.
pub record HasWorked (quota : ℕ) (old : NetParts) (es : List Event) (new : NetParts) : Type 0
  where
    pub turns :
        AreTurns old.code quota (numbers old.net) (length old.net.packets) old.net es new.net
    pub code : new.code ≡ old.code
    pub events : new.events ≡ old.events + length es
    pub within : length es ≤ quota * length old.net.sites
    pub tree : new.net.tree ≡ old.net.tree
    pub sites : length new.net.sites ≡ length old.net.sites
    pub replays : Replays old.code old.net es new.net
    pub froms :
        AreSentInTurn old.code quota old.net.tree old.net.packets 0 old.net.sites new.froms
