-- A message that is brought to a site, as the mail of a site says it.
use Rattle.std.proofs.Common.{◌≡◌, ℕ, Bool, true, false, cond, List, [], ◌∷◌, ◌++◌, Some, None}
use Rattle.std.proofs.Common.{refl, sym, ap, ◌∙◌, subst}
use Rattle.chem_laws.proofs.Lists.{append_nil}
use Rattle.wire_packet.specs.MessageFacts.{MessageParts}
use Rattle.wire_packet.specs.declared.packet.Flight.{Flight}
use Rattle.wire_packet.specs.declared.parcel.Packet.TheVariants as packet
use Rattle.wire_packet.specs.Codec.{IsSpelledBy}
use Rattle.env_store.specs.CodeParts.{CodeParts}
use Rattle.loc_tree.specs.Tree.{Tree}
use Rattle.net_laws.specs.Site.{Site}
use Rattle.net_laws.specs.Net.{among, address}
use Rattle.net_laws.specs.Holding.{put}
use Rattle.router.specs.declared.routing.Delivery.TheVariants.{Delivered, Forward}
use Rattle.router.specs.Delivering.{can_deliver, home_at, IsDelivery}
use Rattle.site_solution.specs.Answers.{AreFlights}
use Rattle.site_solution.specs.Staying.{CanAct, StillFits}
use Rattle.site_turn.specs.Arriving.{Arrival, brought, come}
use Rattle.site_turn.specs.Bringing.{IsBroughtTo, GoesOn, Brings}
use Rattle.site_turn.specs.inside.Coming.{Comes}

-- where the tests of one site say what those of another do, its calls have what they need
pub still_acts : (c : CodeParts) (t u : Tree) (old new : Site) → StillFits c t old u new
    → CanAct c t old → CanAct c u new
still_acts c t u old new fits act = record {
  in_tree = fits.in_tree act.in_tree;
  in_code = fits.in_code act.in_code;
  draws = fits.draws act.draws;
}

module _ (t : Tree) (s : Site) (m : MessageParts) (bytes : List ℕ) (on : List Flight)
    (new : Site) where
  pub brought_here : IsDelivery t s m Delivered new → Brings t s m bytes on new on
  brought_here h = record {
    target = None;
    more = [];
    brought = h;
    goes = refl;
    on_is = sym (append_nil on);
  }

  pub brought_on : (target : ℕ) (msg : MessageParts) (after : List Flight)
      → IsDelivery t s m (Forward target msg) new
      → after ≡ on ++ record { target = target; bytes = bytes } ∷ []
      → Brings t s m bytes on new after
  brought_on target msg after h is = record {
    target = Some target;
    more = record { target = target; bytes = bytes } ∷ [];
    brought = (h.0, h.1, h.3);
    goes = refl;
    on_is = is;
  }

module _ (t : Tree) (s : Site) (m : MessageParts) (can : can_deliver t s m ≡ true) where
  abbrev here : Arrival
  here = record { site = put (home_at s m) m s; on = [] }

  abbrev away : Arrival
  away = record { site = s; on = record { target = address t (home_at s m); msg = m } ∷ [] }

  come_as : (u : Bool) → among s.locs (home_at s m) ≡ u → come t m s ≡ cond u here away
  come_as u e = ap (λ (b : Bool). cond b (brought t m s) (record { site = s; on = [] })) can
      ∙ ap (λ (b : Bool). cond b here away) e

  pub brings_come : (bytes : List ℕ) (on : List Flight) (new : Site) (after : List Flight)
      → IsSpelledBy (packet.Message m) bytes → Brings t s m bytes on new after
      → Comes t s bytes on new after
  brings_come bytes on new after spelled h = go h.target h.more h.brought h.goes h.on_is
    where
      go : (target : _) (more : List Flight) → IsBroughtTo t s m target new
          → GoesOn bytes target more → after ≡ on ++ more → Comes t s bytes on new after
      go None more b g is = record {
        msg = m;
        spelled = spelled;
        site = b.1 ∙ sym (ap (λ (a : Arrival). a.site) (come_as true b.0));
        more = more;
        flights = subst (λ (a : Arrival). AreFlights a.on more) (sym (come_as true b.0))
            (subst (AreFlights []) (sym g) tt);
        added = is;
      }
      go (Some target) more b g is = record {
        msg = m;
        spelled = spelled;
        site = b.2 ∙ sym (ap (λ (a : Arrival). a.site) (come_as false b.0));
        more = more;
        flights = subst (λ (a : Arrival). AreFlights a.on more) (sym (come_as false b.0))
            (subst (AreFlights away.on) (sym g) (record { to = b.1; spelled = spelled }, tt));
        added = is;
      }
