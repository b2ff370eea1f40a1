-- What the calls that pour answer.
use Rattle.std.specs.Prelude.{◌≡◌, List, [], ◌∷◌}
use Rattle.chem_model.specs.declared.name.Loc.{Loc}
use Rattle.chem_model.specs.declared.event.Out.{Out}
use Rattle.wire_packet.specs.declared.packet.Flight.{Flight}
use Rattle.wire_packet.specs.declared.parcel.Packet.TheVariants as packet
use Rattle.wire_packet.specs.Codec.{IsSpelledBy}
use Rattle.net_laws.specs.Site.{Site}
use Rattle.net_laws.specs.Net.{Addressed}
use Rattle.net_laws.specs.Posting.{Outcome}
use Rattle.site_solution.specs.declared.effects.Effects.{Effects}

-- it goes where the message goes, and carries the message's spelling
pub record IsFlightOf (p : Addressed) (f : Flight) : Type 0 where
  pub to : f.target ≡ p.target
  pub spelled : IsSpelledBy (packet.Message p.msg) f.bytes

-- one for one
abbrev pub AreFlights : List Addressed → List Flight → Type 0
AreFlights [] [] = Unit {0}
AreFlights [] (f ∷ fs) = ⊥
AreFlights (p ∷ ps) [] = ⊥
AreFlights (p ∷ ps) (f ∷ fs) = IsFlightOf p f × AreFlights ps fs

-- the site is the one that results, and the effects carry what it sends, what is observed, and the
-- locations that are born
pub record Answers (o : Outcome) (shown : List Out) (born : List Loc) (new : Site)
    (e : Effects) : Type 0 where
  pub site : new ≡ o.site
  pub sends : AreFlights o.sends e.sends
  pub outs : e.outs ≡ shown
  pub births : e.births ≡ born
