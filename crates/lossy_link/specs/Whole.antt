-- What contracts see of a network over links, and what its type keeps.
use Rattle.std.specs.Prelude.{◌≡◌, List, []}
use Rattle.chem_model.specs.Each.{Each}
use Rattle.env_store.specs.CodeFacts.{IsCode}
use Rattle.net_core.specs.Drained.{AreHandedOut}
use Rattle.net_core.specs.Parts.{IsMessageText}
use Rattle.net_core.specs.Whole.{NetParts, RunsSome}
use Rattle.net_core.specs.declared.drained.FlightFrom.{FlightFrom}
use Rattle.lossy_link.specs.declared.line.Line.{Line}
use Rattle.lossy_link.specs.declared.parts.Parts.{Parts}
use Rattle.lossy_link.specs.Lines.{AreUsed, all_sent}
use Rattle.lossy_link.specs.Links.{Links, AreSound}
use Rattle.lossy_link.specs.Standing.{net_of_links}

abbrev pub links_of : Parts → Links NetParts
links_of p = record { net = p.net; wire = p.wire; lines = p.lines }

-- each packet that was sent is the spelling of a message
abbrev pub AreSpelled : List Line → Type 0
AreSpelled ls = Each (λ (l : Line). Each IsMessageText l.history.sent) ls

-- what is handed over of each pair is the front of what it sent, no more is acknowledged, and what
-- the frames say is so; each line sent a packet, and what was sent is a message's spelling; all
-- packets of the network are with the links, and with those that aren't delivered it runs its code
-- and stands for some solution
pub record IsWhole (l : Links NetParts) : Type 0 where
  pub sound : AreSound l.wire l.lines
  pub used : AreUsed l.lines
  pub spelled : AreSpelled l.lines
  pub code : IsCode l.net.code
  pub drained : l.net.net.packets ≡ []
  pub no_froms : l.net.froms ≡ []
  pub stands : RunsSome l.net.code (net_of_links l)

-- the network hands out its packets, each gets the next number of its pair, from 0, and nothing is
-- on the wire
pub record HasStarted (net : NetParts) (l : Links NetParts) : Type 0 where
  pub packets : List FlightFrom
  pub handed_out : AreHandedOut net packets l.net
  pub wire : l.wire ≡ []
  pub lines : l.lines ≡ all_sent packets []
