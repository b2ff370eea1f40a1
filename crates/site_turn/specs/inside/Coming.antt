-- What becomes of one text of a site's mail.
use Rattle.std.specs.Prelude.{◌≡◌, ℕ, List, ◌++◌, take}
use Rattle.wire_packet.specs.MessageFacts.{MessageParts}
use Rattle.wire_packet.specs.declared.packet.Flight.{Flight}
use Rattle.wire_packet.specs.declared.parcel.Packet.TheVariants as packet
use Rattle.wire_packet.specs.Codec.{IsSpelledBy}
use Rattle.loc_tree.specs.Tree.{Tree}
use Rattle.net_laws.specs.Site.{Site}
use Rattle.site_solution.specs.Answers.{AreFlights}
use Rattle.site_turn.specs.Arriving.{come, HasCome}

-- the message that it spells came, and the flight of one that goes on is added behind the others
pub record Comes (t : Tree) (s : Site) (text : List ℕ) (before : List Flight) (new : Site)
    (after : List Flight) : Type 0 where
  pub msg : MessageParts
  pub spelled : IsSpelledBy (packet.Message msg) text
  pub site : new ≡ (come t msg s).site
  pub more : List Flight
  pub flights : AreFlights (come t msg s).on more
  pub added : after ≡ before ++ more

-- so many of the texts were worked off
pub record HasComeUpTo (t : Tree) (s : Site) (mail : List (List ℕ)) (new : Site) : Type 0 where
  pub done : ℕ
  pub on : List Flight
  pub come_is : HasCome t s (take done mail) new on
