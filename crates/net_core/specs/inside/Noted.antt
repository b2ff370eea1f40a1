-- A choice that was made, with the site that sent what it sent.
use Rattle.std.specs.Prelude.{◌≡◌, ℕ, ◌-◌, ◌++◌, List, Option, length, replicate}
use Rattle.chem_model.specs.declared.event.Event.{Event}
use Rattle.env_store.specs.CodeParts.{CodeParts}
use Rattle.net_core.specs.declared.choice.Choice.{Choice}
use Rattle.net_core.specs.declared.parts.Parts.{Parts}
use Rattle.net_core.specs.Acts.{Acts}
use Rattle.net_core.specs.Parts.{net_of}
use Rattle.net_core.specs.Senders.{IsSentBy, kept}

-- in parts, with these senders of what is under way before and after it
pub record IsMadeNoted (c : CodeParts) (old : Parts) (froms : List ℕ) (x : Choice)
    (o : Option Event) (new : Parts) (later : List ℕ) : Type 0 where
  pub acts : Acts c (net_of c.seen old) x o (net_of c.seen new)
  pub sender : ℕ
  pub sent_by : IsSentBy (net_of c.seen old) x sender
  pub noted :
      let left = kept x (net_of c.seen old).packets in
      later ≡ kept x froms
      ++ replicate (length (net_of c.seen new).packets - length left) sender
