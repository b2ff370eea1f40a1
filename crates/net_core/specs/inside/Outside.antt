-- A packet that came from outside, by the parts of a network.
use Rattle.std.specs.Prelude.{◌≡◌, ℕ, ◌-◌, ◌++◌, List, length, replicate}
use Rattle.env_store.specs.CodeParts.{CodeParts}
use Rattle.net_core.specs.declared.parts.Parts.{Parts}
use Rattle.net_core.specs.declared.senders.Run.{Run}
use Rattle.net_core.specs.Acting.{Delivers}
use Rattle.net_core.specs.Parts.{net_of}
use Rattle.net_core.specs.Received.{with_last}
use Rattle.net_core.specs.Whole.{IsWhole, IsNetWhole}
use Rattle.net_core.specs.inside.Runs.{spread}

pub record IsReceived (c : CodeParts) (old : Parts) (site : ℕ) (bytes : List ℕ) (events : ℕ)
    (new : Parts) : Type 0 where
  pub delivers :
      let net = net_of c.seen old in
      Delivers (with_last net site bytes) (length net.packets) (net_of c.seen new)
  pub whole : IsWhole c new events

-- and what goes on is from the site
pub record IsReceivedFrom (c : CodeParts) (old : Parts) (senders : List Run) (site : ℕ)
    (bytes : List ℕ) (events : ℕ) (new : Parts) (later : List Run) : Type 0 where
  pub delivers :
      let net = net_of c.seen old in
      Delivers (with_last net site bytes) (length net.packets) (net_of c.seen new)
  pub whole : IsNetWhole c new later events
  pub froms :
      let before = length (net_of c.seen old).packets in
      let now = length (net_of c.seen new).packets in
      spread later ≡ spread senders ++ replicate (now - before) site
