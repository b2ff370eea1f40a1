-- A packet that comes from outside and is brought to its site: what it leaves.
use Rattle.std.proofs.Common.{◌≡◌, ℕ, ◌+◌, ◌-◌, ◌<◌, ◌^◌, true, List, [], ◌∷◌, ◌++◌, Option, Some}
use Rattle.std.proofs.Common.{None, Result, Ok, Err, length, replicate, slice_get, refl, sym, ap}
use Rattle.std.proofs.Common.{◌∙◌, subst, arith, length-append}
use Rattle.std.specs.Prelude.{OnOk, OnErr}
use Rattle.std.proofs.lemmas.List.{length-replicate}
use Rattle.chem_model.specs.declared.memory.Memory.{Memory}
use Rattle.chem_model.specs.Each.{Each}
use Rattle.wire_packet.specs.declared.packet.Flight.{Flight}
use Rattle.env_store.specs.CodeParts.{CodeParts}
use Rattle.env_store.specs.Laws.{rules_of_group}
use Rattle.net_laws.specs.Site.{Site}
use Rattle.net_laws.specs.Net.{Addressed, Net, IsOnItsWay}
use Rattle.net_core.specs.UnderWay.{with_packets}
use Rattle.net_laws.proofs.Holds.{each_get}
use Rattle.router.specs.Delivering.{can_deliver}
use Rattle.net_core.specs.declared.parts.Parts.{Parts}
use Rattle.net_core.specs.declared.senders.Run.{Run}
use Rattle.net_core.specs.Acting.{Delivers}
use Rattle.net_core.specs.Parts.{without, message_in, carried, all_carried, IsMessageText}
use Rattle.net_core.specs.Parts.{IsMessageFlight, net_of}
use Rattle.net_core.specs.Playing.{deliver}
use Rattle.net_core.specs.Received.{flight_to, with_last, HasReceived}
use Rattle.net_core.specs.Whole.{NetParts, RunsSome, AllFit, IsRunning, IsWhole, IsNetWhole}
use Rattle.site_turn.specs.Bringing.{GoesOn}
use Rattle.net_core.specs.inside.Delivering.{IsBrought}
use Rattle.net_core.specs.inside.Handing.{AreAsBefore}
use Rattle.net_core.specs.inside.Outside.{IsReceived, IsReceivedFrom}
use Rattle.net_core.specs.inside.Runs.{spread}
use Rattle.net_core.proofs.Carrying.{carried_append, carried_length}
use Rattle.net_core.proofs.Deliverable.{may_be_delivered}
use Rattle.net_core.proofs.Deliveries.{delivers, delivered_whole, as_before_whole}
use Rattle.net_core.proofs.Falling.{deliveries_fall}
use Rattle.net_core.proofs.Framing.{last_is}
use Rattle.net_core.proofs.Playing.{one_leads}

last_flight : (fs : List Flight) (f : Flight) → slice_get (fs ++ f ∷ []) (length fs) ≡ Some f
last_flight [] f = refl
last_flight (g ∷ fs) f = last_flight fs f

without_last_flight : (fs : List Flight) (f : Flight) → without (length fs) (fs ++ f ∷ []) ≡ fs
without_last_flight [] f = refl
without_last_flight (g ∷ fs) f = ap (λ (gs : List Flight). g ∷ gs) (without_last_flight fs f)

each_and : {X : Type 0} (P : X → Type 0) (xs : List X) (x : X) → Each P xs → P x
    → Each P (xs ++ x ∷ [])
each_and P [] x h g = (g, tt)
each_and P (y ∷ ys) x h g = (h.0, each_and P ys x h.1 g)

-- the site can take it
pub receive_may : (c : CodeParts) (p : Parts) (site : ℕ) (bytes : List ℕ) (s : Site)
    → RunsSome c (with_last (net_of c.seen p) site bytes) → slice_get p.sites.items site ≡ Some s
    → can_deliver p.tree s (message_in bytes) ≡ true
receive_may c p site bytes s some here =
    let net = with_last (net_of c.seen p) site bytes in
    let packet = carried (flight_to site bytes) in
    let flies = last_is (net_of c.seen p).packets packet in
    may_be_delivered (rules_of_group some.program) net
    some.solution some.stands (length (net_of c.seen p).packets) packet s flies here
    (each_get (IsOnItsWay (length p.sites.items)) net.packets (length (net_of c.seen p).packets)
    packet flies some.runs.keeps.packets)

-- it was put there, or it goes on
module _ (c : CodeParts) (old new : Parts) (site : ℕ) (bytes : List ℕ) (events : ℕ) (on : Option ℕ)
    (more : List Flight) (s : Site) (whole : IsWhole c old events) (spelled : IsMessageText bytes)
    (some : RunsSome c (with_last (net_of c.seen old) site bytes))
    (here : slice_get old.sites.items site ≡ Some s)
    (brought : IsBrought old.tree site s (message_in bytes) on old.sites.items new.sites.items)
    (goes : GoesOn bytes on more)
    (version : new.version ≡ old.version) (tree : new.tree ≡ old.tree)
    (trace : new.trace.items ≡ old.trace.items)
    (flights : new.flights.items ≡ old.flights.items ++ more)
    (fit : AllFit c new.tree new.sites.items) (count : new.under_way ≡ old.under_way + length more)
    (few : new.under_way < 2 ^ 32) where
  abbrev flight : Flight
  flight = flight_to site bytes

  abbrev olds : List Flight
  olds = old.flights.items

  abbrev all : List Flight
  all = olds ++ flight ∷ []

  abbrev net : Net
  net = net_of c.seen old

  same : with_packets (all_carried all) net ≡ with_last net site bytes
  same = ap (λ (ps : List Addressed). with_packets ps net) (carried_append olds (flight ∷ []))

  running : IsRunning c (with_packets (all_carried all) net) events
  running = record {
    code = whole.running.code;
    some = subst (RunsSome c) (sym same) some;
    fit = record {
      in_tree = whole.running.fit.in_tree;
      in_code = whole.running.fit.in_code;
      draws = whole.running.fit.draws;
    };
    few_sites = whole.running.few_sites;
    made = whole.running.made;
  }

  number : s.number ≡ site
  number = (some.stands.hosts site s here).number

  left : new.flights.items ≡ without (length olds) all ++ more
  left = flights ∙ ap (λ (fs : List Flight). fs ++ more) (sym (without_last_flight olds flight))

  pub received : IsReceived c old site bytes events new
  received = record {
    delivers =
        subst (λ (n : ℕ). Delivers (with_last net site bytes) n (net_of c.seen new))
        (sym (carried_length olds))
        (subst (λ (m : Net). Delivers m (length olds) (net_of c.seen new)) same
        (delivers c old new all (length olds) flight on more s (last_flight olds flight) here number
        brought goes version tree trace left c.seen));
    whole =
        let long : length all ≡ length olds + 1 = length-append olds (flight ∷ []) in
        delivered_whole c old new all (length olds) flight on more s (last_flight olds flight) here
        number brought goes version tree trace left events running
        (each_and IsMessageFlight olds flight whole.flying.spelled spelled) fit
        (omega (arith, long, count, whole.flying.counted)) few;
  }

-- ---- with its sender

pub received_from :
    (c : CodeParts) (old new : Parts) (was mid later : List Run) (site : ℕ) (bytes : List ℕ)
    (events count : ℕ) → IsNetWhole c old was events → IsReceived c old site bytes events new
    → mid ≡ was → new.under_way ≡ old.under_way + count
    → spread later ≡ spread mid ++ replicate count site
    → IsReceivedFrom c old was site bytes events new later
received_from c old new was mid later site bytes events count whole done same more noted =
    let before = length (net_of c.seen old).packets in
    let now = length (net_of c.seen new).packets in
    let many : count ≡ now - before = omega (
      arith,
      whole.whole.flying.counted,
      done.whole.flying.counted,
      carried_length old.flights.items,
      carried_length new.flights.items,
    ) in
    let froms : spread later ≡ spread was ++ replicate (now - before) site =
    noted ∙ ap (λ (rs : List Run). spread rs ++ replicate count site) same
    ∙ ap (λ (n : ℕ). spread was ++ replicate n site) many in
    record {
      delivers = done.delivers;
      whole = record {
        whole = done.whole;
        sent = omega (
          arith,
          ap length noted,
          ap (λ (rs : List Run). length (spread rs)) same,
          length-append (spread mid) (replicate count site),
          length-replicate count site,
          whole.sent,
        );
      };
      froms = froms;
    }

-- ---- of a network

pub either_whole :
    (c : CodeParts) (old new : Parts) (was later : List Run) (events : ℕ)
    (r : Result (Unit {0}) Memory) → IsNetWhole c old was events
    → OnOk r (IsNetWhole c new later events) → OnErr r (AreAsBefore old new) → OnErr r (later ≡ was)
    → IsNetWhole c new later events
either_whole c old new was later events (Ok x) whole ok err senders = ok
either_whole c old new was later events (Err e) whole ok err senders = record {
  whole = as_before_whole c old new events err whole.whole;
  sent =
      omega (arith, ap (λ (rs : List Run). length (spread rs)) senders, whole.sent, err.under_way);
}

pub has_received : (old new : NetParts) (site : ℕ) (bytes : List ℕ) (events : ℕ)
    → IsRunning old.code old.net events → RunsSome old.code (with_last old.net site bytes)
    → Delivers (with_last old.net site bytes) (length old.net.packets) new.net → new.code ≡ old.code
    → new.events ≡ old.events
    → new.froms ≡ old.froms ++ replicate (length new.net.packets - length old.net.packets) site
    → HasReceived old site bytes new
has_received old new site bytes events running some done code count froms = record {
  delivers = done;
  code = code;
  events = count;
  leads = one_leads old.code (with_last old.net site bytes) new.net None
      running.code (deliver (length old.net.packets) new.net done);
  falls = deliveries_fall (rules_of_group some.program) (with_last old.net site bytes)
      new.net some.solution (length old.net.packets) some.stands some.runs.keeps.packets done;
  froms = froms;
}
