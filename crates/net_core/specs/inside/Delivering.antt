-- Parts of a delivery.
use Rattle.std.specs.Prelude.{◌≡◌, ℕ, List, Option, Some, None, true, false, slice_set}
use Rattle.wire_packet.specs.MessageFacts.{MessageParts}
use Rattle.wire_packet.specs.declared.packet.Flight.{Flight}
use Rattle.loc_tree.specs.Tree.{Tree}
use Rattle.net_laws.specs.Site.{Site}
use Rattle.net_laws.specs.Net.{among, address}
use Rattle.net_laws.specs.Holding.{put}
use Rattle.router.specs.Delivering.{home_at}
use Rattle.site_turn.specs.Bringing.{GoesOn}
use Rattle.net_core.specs.Parts.{message_in}

-- the message was put at the site with this number, or it goes on from there to another
abbrev pub IsBrought : Tree → ℕ → Site → MessageParts → Option ℕ → List Site → List Site → Type 0
IsBrought t i s m None old new =
    (among s.locs (home_at s m) ≡ true) × (new ≡ slice_set old i (put (home_at s m) m s))
IsBrought t i s m (Some target) old new =
    (among s.locs (home_at s m) ≡ false) × (target ≡ address t (home_at s m)) × (new ≡ old)

-- the message that bytes spell was put at the site with this number, or its flight goes on
pub record IsTextBroughtAt (t : Tree) (i : ℕ) (s : Site) (bytes : List ℕ) (more : List Flight)
    (old new : List Site) : Type 0 where
  pub on : Option ℕ
  pub brought : IsBrought t i s (message_in bytes) on old new
  pub goes : GoesOn bytes on more
