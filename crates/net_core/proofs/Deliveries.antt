-- A delivery, from its parts.
use Rattle.std.proofs.Common.{◌≡◌, ℕ, zero, suc, ◌+◌, ◌<◌, Bool, true, false, cond, List, [], ◌∷◌}
use Rattle.std.proofs.Common.{◌++◌, Option, Some, None, length, slice_get, refl}
use Rattle.std.proofs.Common.{sym, ap, ◌∙◌, subst, arith, length-append}
use Rattle.std.specs.Prelude.{slice_set, slice_index_or, ◌-◌, ◌^◌}
use Rattle.std.proofs.lemmas.Option.{get_or_from_slice_get}
use Rattle.chem_model.specs.declared.name.Loc.{Loc}
use Rattle.chem_model.specs.Each.{Each}
use Rattle.chem_model.specs.Opening.{root_of}
use Rattle.chem_laws.proofs.Lists.{Each-append, append_nil}
use Rattle.wire_packet.specs.MessageFacts.{MessageParts}
use Rattle.wire_packet.specs.declared.packet.Flight.{Flight}
use Rattle.env_store.specs.CodeParts.{CodeParts}
use Rattle.env_store.specs.Laws.{rules_of_group}
use Rattle.loc_tree.specs.Tree.{Tree, bare}
use Rattle.net_laws.specs.Site.{Site}
use Rattle.net_laws.specs.Net.{Addressed, Net, among, home_or, address, without_packet, IsOnItsWay}
use Rattle.net_laws.specs.Holding.{put}
use Rattle.site_solution.specs.Staying.{CanAct}
use Rattle.net_core.specs.UnderWay.{with_packets}
use Rattle.net_laws.proofs.Holds.{each_get}
use Rattle.router.specs.Delivering.{home_at, can_deliver}
use Rattle.net_core.specs.declared.parts.Parts.{Parts}
use Rattle.net_core.specs.Parts.{joined, without, message_in, carried, all_carried, IsMessageFlight}
use Rattle.net_core.specs.Parts.{net_of}
use Rattle.net_core.specs.Whole.{AllFit, AreFlying, IsWhole, IsRunning}
use Rattle.net_core.specs.Acting.{Delivers, delivered}
use Rattle.net_core.specs.inside.Handing.{AreAsBefore}
use Rattle.net_core.specs.Playing.{deliver}
use Rattle.site_turn.specs.Bringing.{IsBroughtTo, GoesOn, Brings}
use Rattle.net_core.specs.inside.Delivering.{IsBrought}
use Rattle.net_core.specs.inside.Delivering.{IsTextBroughtAt}
use Rattle.net_core.proofs.Carrying.{carried_append, carried_without, carried_at, each_without}
use Rattle.net_core.proofs.Deliverable.{may_be_delivered}
use Rattle.net_core.proofs.Fitting.{fit_bare, fits_at, all_fit_set, set_same}
use Rattle.net_core.proofs.Leading.{get_some}
use Rattle.net_core.proofs.Members.{without_length, get_is}
use Rattle.net_core.proofs.Stepping.{running_on}

-- networks of equal fields
pub same_net : (a b : Net) → a.version ≡ b.version → a.seen ≡ b.seen → a.sites ≡ b.sites
    → a.tree ≡ b.tree → a.trace ≡ b.trace → a.packets ≡ b.packets → a ≡ b
same_net a b version seen sites tree trace packets = λ i. record {
  version = version i;
  seen = seen i;
  sites = sites i;
  tree = tree i;
  trace = trace i;
  packets = packets i;
}

pub set_length : {X : Type 0} (xs : List X) (i : ℕ) (x : X) → length (slice_set xs i x) ≡ length xs
set_length [] i x = refl
set_length (y ∷ xs) zero x = refl
set_length (y ∷ xs) (suc i) x = ap suc (set_length xs i x)

pub below_some : {X : Type 0} (xs : List X) (i : ℕ) (x : X) → slice_get xs i ≡ Some x
    → i < length xs
below_some [] i x e = cc
below_some (y ∷ xs) zero x e = omega arith
below_some (y ∷ xs) (suc i) x e = omega (arith, below_some xs i x e)

-- ---- nothing changed

pub as_before_net : (seen : List ℕ) (old new : Parts) → AreAsBefore old new
    → net_of seen new ≡ net_of seen old
as_before_net seen old new h = same_net (net_of seen new) (net_of seen old) h.version refl
    h.sites h.tree (ap joined h.trace) (ap all_carried h.flights)

pub as_before_flying : (old new : Parts) → AreAsBefore old new → AreFlying old → AreFlying new
as_before_flying old new h flying = record {
  spelled = subst (Each IsMessageFlight) (sym h.flights) flying.spelled;
  counted = h.under_way ∙ flying.counted ∙ ap length (sym h.flights);
  few = omega (arith, h.under_way, flying.few);
}

pub as_before_whole : (c : CodeParts) (old new : Parts) (events : ℕ) → AreAsBefore old new
    → IsWhole c old events → IsWhole c new events
as_before_whole c old new events h whole = record {
  running = subst (λ (n : Net). IsRunning c n events) (sym (as_before_net c.seen old new h))
      whole.running;
  flying = as_before_flying old new h whole.flying;
}

-- ---- a message that is brought

-- at one of the sites, as at that site
module _ (t : Tree) (sites : List Site) (i : ℕ) (bytes : List ℕ) (d new : Site) where
  abbrev here : Site
  here = slice_index_or sites i d

  brought_at : (s : Site) → slice_get sites i ≡ Some s → (o : Option ℕ)
      → IsBroughtTo t s (message_in bytes) o new
      → IsBrought t i s (message_in bytes) o sites (slice_set sites i new)
  brought_at s at None b = (b.0, ap (slice_set sites i) b.1)
  brought_at s at (Some target) b = (b.0, b.1, ap (slice_set sites i) b.2 ∙ set_same sites i s at)

  pub text_brought : (before more : List Flight) → before ≡ []
      → Brings t here (message_in bytes) bytes before new more → (s : Site)
      → slice_get sites i ≡ Some s → IsTextBroughtAt t i s bytes more sites (slice_set sites i new)
  text_brought before more none b s at =
      let same : here ≡ s = get_or_from_slice_get sites i s d at in
      let all : more ≡ b.more = b.on_is ∙ ap (λ (fs : List Flight). fs ++ b.more) none in
      record {
        on = b.target;
        brought = brought_at s at b.target
            (subst (λ (u : Site). IsBroughtTo t u (message_in bytes) b.target new) same b.brought);
        goes = subst (GoesOn bytes b.target) (sym all) b.goes;
      }

  pub brought_fit : i < length sites
      → ((c : CodeParts) → CanAct c t here → CanAct c t new) → (c : CodeParts)
      → AllFit c t sites → AllFit c t (slice_set sites i new)
  brought_fit below ready c fit =
      let at = get_some sites i below in
      let fits = fits_at c t sites i at.0 fit at.1 in
      let old : CanAct c t at.0 =
      record { in_tree = fits.in_tree; in_code = fits.in_code; draws = fits.draws } in
      let now =
      ready c (subst (CanAct c t) (sym (get_or_from_slice_get sites i at.0 d at.1)) old) in
      all_fit_set c t sites i new fit
      (record { in_tree = now.in_tree; in_code = now.in_code; draws = now.draws })

-- ---- that it may be delivered

pub flight_spelled : (p : Parts) (f : ℕ) (flight : Flight) → AreFlying p
    → slice_get p.flights.items f ≡ Some flight → IsMessageFlight flight
flight_spelled p f flight flying at =
    each_get IsMessageFlight p.flights.items f flight at flying.spelled

pub target_below : (c : CodeParts) (p : Parts) (events f : ℕ) (flight : Flight) → IsWhole c p events
    → slice_get p.flights.items f ≡ Some flight → flight.target < length p.sites.items
target_below c p events f flight h at =
    let net = net_of c.seen p in
    (each_get (IsOnItsWay (length p.sites.items)) net.packets f (carried flight)
    (carried_at p.flights.items f flight at) h.running.some.runs.keeps.packets).1

pub flight_may : (c : CodeParts) (p : Parts) (events f : ℕ) (flight : Flight) (s : Site)
    → IsWhole c p events → slice_get p.flights.items f ≡ Some flight
    → slice_get p.sites.items flight.target ≡ Some s
    → can_deliver p.tree s (message_in flight.bytes) ≡ true
flight_may c p events f flight s h at here =
    let net = net_of c.seen p in
    let some = h.running.some in
    let flies = carried_at p.flights.items f flight at in
    may_be_delivered (rules_of_group some.program) net some.solution some.stands f (carried flight)
    s flies here
    (each_get (IsOnItsWay (length p.sites.items)) net.packets f (carried flight) flies
    some.runs.keeps.packets)

-- ---- what it leaves

pub goes_few : (bytes : List ℕ) (more : List Flight) (on : Option ℕ) → GoesOn bytes on more
    → length more < 2
goes_few bytes more None g = omega (arith, ap length g)
goes_few bytes more (Some target) g = omega (arith, ap length g)

-- of these packets one was delivered, where the parts have all the rest of the network before it
module _ (c : CodeParts) (old new : Parts) (fs : List Flight) (f : ℕ) (flight : Flight)
    (on : Option ℕ) (more : List Flight) (s : Site) (at : slice_get fs f ≡ Some flight)
    (here : slice_get old.sites.items flight.target ≡ Some s) (number : s.number ≡ flight.target)
    (brought : IsBrought old.tree flight.target s (message_in flight.bytes) on
    old.sites.items new.sites.items) (goes : GoesOn flight.bytes on more)
    (version : new.version ≡ old.version) (tree : new.tree ≡ old.tree)
    (trace : new.trace.items ≡ old.trace.items)
    (flights : new.flights.items ≡ without f fs ++ more) where
  abbrev was : List ℕ → Net
  was seen = with_packets (all_carried fs) (net_of seen old)

  abbrev msg : MessageParts
  msg = message_in flight.bytes

  abbrev home : Loc
  home = home_or (root_of flight.target) msg.on

  at_home : home_at s msg ≡ home
  at_home = ap (λ (i : ℕ). home_or (root_of i) msg.on) number

  packets :
      all_carried new.flights.items ≡ without_packet f (all_carried fs) ++ all_carried more
  packets = ap all_carried flights ∙ carried_append (without f fs) more
      ∙ ap (λ ps. ps ++ all_carried more) (carried_without fs f)

  left : (seen : List ℕ) (o : Option ℕ)
      → IsBrought old.tree flight.target s msg o old.sites.items new.sites.items
      → GoesOn flight.bytes o more
      → net_of seen new ≡ delivered (was seen) f (carried flight) s home
  left seen None b g =
      let others = without_packet f (all_carried fs) in
      let there : among s.locs home ≡ true = ap (among s.locs) (sym at_home) ∙ b.0 in
      let sites : new.sites.items ≡ slice_set old.sites.items flight.target (put home msg s) =
      b.1 ∙ ap (λ (l : Loc). slice_set old.sites.items flight.target (put l msg s)) at_home in
      let put_net : Net = record (was seen) {
        sites = slice_set old.sites.items flight.target (put home msg s);
        packets = others;
      } in
      let on_net : Net = record (was seen) {
        packets =
            others ++ record { target = address old.tree home; msg = msg } ∷ [];
      } in
      let same =
      same_net (net_of seen new) put_net version refl sites (ap bare tree) (ap joined trace)
      (packets ∙ ap (λ (gs : List Flight). others ++ all_carried gs) g ∙ append_nil others) in
      subst (λ (u : Bool). net_of seen new ≡ cond u put_net on_net) (sym there) same
  left seen (Some target) b g =
      let others = without_packet f (all_carried fs) in
      let away : among s.locs home ≡ false = ap (among s.locs) (sym at_home) ∙ b.0 in
      let to : target ≡ address old.tree home = b.1 ∙ ap (address old.tree) at_home in
      let put_net : Net = record (was seen) {
        sites = slice_set old.sites.items flight.target (put home msg s);
        packets = others;
      } in
      let on_net : Net = record (was seen) {
        packets =
            others ++ record { target = address old.tree home; msg = msg } ∷ [];
      } in
      let last : all_carried more ≡ record { target = address old.tree home; msg = msg } ∷ [] =
      ap all_carried g ∙ ap (λ (t : ℕ). record { target = t; msg = msg } ∷ []) to in
      let same = same_net (net_of seen new) on_net version refl b.2 (ap bare tree) (ap joined trace)
      (packets ∙ ap (λ (ps : List Addressed). others ++ ps) last) in
      subst (λ (u : Bool). net_of seen new ≡ cond u put_net on_net) (sym away) same

  pub delivers : (seen : List ℕ) → Delivers (was seen) f (net_of seen new)
  delivers seen = record {
    packet = carried flight;
    site = s;
    packet_is = carried_at fs f flight at;
    site_is = here;
    new_is = left seen on brought goes;
  }

  many_sites : (o : Option ℕ)
      → IsBrought old.tree flight.target s msg o old.sites.items new.sites.items
      → length new.sites.items ≡ length old.sites.items
  many_sites None b =
      ap length b.1 ∙ set_length old.sites.items flight.target (put (home_at s msg) msg s)
  many_sites (Some target) b = ap length b.2

  more_spelled : Each IsMessageFlight fs → (o : Option ℕ) → GoesOn flight.bytes o more
      → Each IsMessageFlight more
  more_spelled spelled None g = subst (Each IsMessageFlight) (sym g) tt
  more_spelled spelled (Some target) g =
      subst (Each IsMessageFlight) (sym g) (each_get IsMessageFlight fs f flight at spelled, tt)

  pub delivered_whole : (events : ℕ) → IsRunning c (was c.seen) events → Each IsMessageFlight fs
      → AllFit c new.tree new.sites.items → new.under_way ≡ length fs - 1 + length more
      → new.under_way < 2 ^ 32 → IsWhole c new events
  delivered_whole events running spelled fit count few = record {
    running =
        let e : events + 0 ≡ events = omega arith in
        subst (IsRunning c (net_of c.seen new)) e (running_on c (was c.seen) (net_of c.seen new)
        None events running (deliver f _ (delivers c.seen))
        (fit_bare c new.tree new.sites.items fit) (many_sites on brought));
    flying = record {
      spelled =
          subst (Each IsMessageFlight) (sym flights) (Each-append IsMessageFlight (without f fs)
          more (each_without IsMessageFlight fs f spelled) (more_spelled spelled on goes));
      counted = omega (
        arith,
        count,
        ap length flights,
        length-append (without f fs) more,
        without_length fs f (below_some fs f flight at),
      );
      few = few;
    };
  }

-- ---- for the code

pub flight_found : (p : Parts) (f : ℕ) (x : Flight) → AreFlying p → f < p.under_way
    → x ≡ slice_index_or p.flights.items f x → slice_get p.flights.items f ≡ Some x
flight_found p f x flying low is =
    get_is p.flights.items f x (omega (arith, low, flying.counted))
    ∙ ap (λ (y : Flight). Some y) (sym is)

pub brought_in :
    (t : Tree) (i : ℕ) (bytes text : List ℕ) (s : Site) (more : List Flight)
    (olds sites news : List Site) → text ≡ bytes → olds ≡ sites
    → ((u : Site) → slice_get olds i ≡ Some u → IsTextBroughtAt t i u text more olds news)
    → slice_get sites i ≡ Some s → IsTextBroughtAt t i s bytes more sites news
brought_in t i bytes text s more olds sites news same kept brought at =
    let here : slice_get olds i ≡ Some s = ap (λ (us : List Site). slice_get us i) kept ∙ at in
    subst (λ (bs : List ℕ). IsTextBroughtAt t i s bs more sites news) same
    (subst (λ (us : List Site). IsTextBroughtAt t i s text more us news) kept (brought s here))
