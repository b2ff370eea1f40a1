-- What an event of a site leaves of a network, from its parts.
use Rattle.std.proofs.Common.{◌≡◌, ℕ, suc, ◌+◌, ◌<◌, ◌≤◌, ◌^◌, Bool, true, false, cond, List, []}
use Rattle.std.proofs.Common.{◌∷◌, ◌++◌, Option, Some, None, length, slice_get, refl, sym, ap, ◌∙◌}
use Rattle.std.proofs.Common.{subst, arith, length-append}
use Rattle.std.specs.Prelude.{slice_set, ◌&&◌, is_some}
use Rattle.std.proofs.lemmas.Bool.{and_parts}
use Rattle.chem_model.specs.declared.name.Loc.{Loc}
use Rattle.chem_model.specs.declared.name.Name.{Name}
use Rattle.chem_model.specs.declared.name.Name.TheVariants as name
use Rattle.chem_model.specs.declared.event.AtomId.{AtomId}
use Rattle.chem_model.specs.declared.event.Event.{Event}
use Rattle.chem_model.specs.declared.event.Event.TheVariants as event
use Rattle.chem_model.specs.declared.event.Out.{Out}
use Rattle.chem_model.specs.declared.numbered.Made.{Made}
use Rattle.chem_model.specs.Each.{Each}
use Rattle.chem_model.specs.declared.operation.Became.{Became}
use Rattle.chem_model.specs.Pour.{is_count, operated_made}
use Rattle.wire_packet.specs.declared.packet.Ask.{Ask}
use Rattle.wire_packet.specs.declared.packet.Ask.TheVariants as request
use Rattle.wire_packet.specs.declared.packet.Flight.{Flight}
use Rattle.env_store.specs.CodeParts.{CodeParts}
use Rattle.loc_tree.specs.Tree.{Tree, is_alive, is_dead, with_mark, bare}
use Rattle.net_laws.specs.Site.{Site}
use Rattle.net_laws.specs.Net.{Addressed, among, address, with_births}
use Rattle.net_laws.specs.Holding.{put, request_with, drop_request, host_all}
use Rattle.net_laws.specs.Posting.{Posted, a_message, a_request, posted_of, Outcome, post, post_all}
use Rattle.net_laws.specs.Choices.{with_outcome}
use Rattle.net_laws.specs.Moves.{continuation_made, moved_made}
use Rattle.net_laws.specs.Meeting.{sent_here}
use Rattle.site_solution.specs.Answers.{AreFlights, Answers}
use Rattle.site_solution.specs.declared.effects.Effects.{Effects}
use Rattle.failure.specs.Halts.{can_halt, is_halt, is_ready}
use Rattle.failure.specs.Deaths.{dead_for, sees_death}
use Rattle.net_core.specs.declared.parts.Parts.{Parts}
use Rattle.net_core.specs.Parts.{joined, all_carried, IsMessageFlight, net_of}
use Rattle.net_core.specs.Acting.{Halts, Detects}
use Rattle.net_core.specs.inside.AtSites.{AllStayFit, HaltsAt, DetectsAt}
use Rattle.net_core.specs.Playing.{Does}
use Rattle.net_core.specs.Whole.{IsWhole}
use Rattle.chem_laws.proofs.Lists.{Each-append}
use Rattle.site_solution.proofs.Dropping.{operated_none}
use Rattle.site_turn.proofs.Room.{all_bare}
use Rattle.net_core.proofs.Stepping.{event_running}
use Rattle.net_core.proofs.Carrying.{carried_append, all_carry}
use Rattle.net_core.proofs.Deliveries.{same_net}

-- ---- a tree's room is nothing to what is posted

pub sent_bare : (t : Tree) (a : Made) (s : Site) → sent_here (bare t) a s ≡ sent_here t a s
sent_bare t a s = all_bare t (posted_of a.atoms) (host_all [] (record s { made = a.next }))

-- ---- how many packets go away

one_sent : (t : Tree) (p : Posted) (s : Site) → length (post t p s).sends ≤ 1
one_sent t (a_message l m) s = go (among s.locs l)
  where
    go : (u : Bool)
        → length (cond {A = Outcome} u (record { site = put l m s; sends = [] })
        (record { site = s; sends = record { target = address t l; msg = m } ∷ [] })).sends ≤ 1
    go true = omega arith
    go false = omega arith
one_sent t (a_request q) s = omega arith

few_sent : (t : Tree) (ps : List Posted) (s : Site) → length (post_all t ps s).sends ≤ length ps
few_sent t [] s = omega arith
few_sent t (p ∷ ps) s =
    let first = post t p s in
    omega (
      arith,
      one_sent t p s,
      few_sent t ps first.site,
      length-append first.sends (post_all t ps first.site).sends,
    )

-- a continuation is one message at most
one_made : (seen : List ℕ) (i : ℕ) (l : Loc) (k : ℕ) (cont : Name)
    → length (posted_of (continuation_made seen i l k cont).atoms) ≤ 1
one_made seen i l k (name.Seen j) = go (is_count (slice_get seen j) 0) refl
  where
    go : (u : Bool) → is_count (slice_get seen j) 0 ≡ u
        → length (posted_of (continuation_made seen i l k (name.Seen j)).atoms) ≤ 1
    go true e = rw e (omega arith)
    go false e = rw e (omega arith)
one_made seen i l k (name.Place a) = omega arith
one_made seen i l k (name.Chan s j h) = omega arith
one_made seen i l k (name.Num n) = omega arith
one_made seen i l k (name.Op n) =
    subst (λ (o : Option Became). length (posted_of (operated_made seen i l k n [] o).atoms) ≤ 1)
    (sym (operated_none n)) (omega arith)

pub continuation_few : (t : Tree) (seen : List ℕ) (i : ℕ) (l : Loc) (k : ℕ) (cont : Name) (s : Site)
    → length (sent_here t (continuation_made seen i l k cont) s).sends ≤ 1
continuation_few t seen i l k cont s =
    let a = continuation_made seen i l k cont in
    omega (
      arith,
      few_sent t (posted_of a.atoms) (host_all [] (record s { made = a.next })),
      one_made seen i l k cont,
    )

-- and what a move makes is that or nothing
pub moved_few :
    (t : Tree) (alive : Bool) (seen : List ℕ) (i : ℕ) (l : Loc) (k : ℕ) (cont : Name) (s : Site)
    → length (sent_here t (moved_made alive seen i l k cont) s).sends ≤ 1
moved_few t true seen i l k cont s = continuation_few t seen i l k cont s
moved_few t false seen i l k cont s = omega arith

pub flights_long : (ps : List Addressed) (fs : List Flight) → AreFlights ps fs
    → length fs ≡ length ps
flights_long [] [] h = refl
flights_long [] (f ∷ fs) h = absurd h
flights_long (p ∷ ps) [] h = absurd h
flights_long (p ∷ ps) (f ∷ fs) h = ap suc (flights_long ps fs h.1)

-- ---- what a site answers, as what the network hands out

pub outcome_net : (seen : List ℕ) (old new : Parts) → new.version ≡ old.version
    → (i : ℕ) (t : Tree) (o : Outcome) (outs : List Out) (births : List Loc) (after : Site)
    (e : Effects) → new.sites.items ≡ slice_set old.sites.items i after
    → Answers o outs births after e → bare new.tree ≡ with_births t i births
    → joined new.trace.items ≡ joined old.trace.items ++ e.outs
    → new.flights.items ≡ old.flights.items ++ e.sends
    → net_of seen new ≡ with_outcome (record (net_of seen old) { tree = t }) i o outs births
outcome_net seen old new version i t o outs births after e sites answers tree trace flights =
    same_net (net_of seen new)
    (with_outcome (record (net_of seen old) { tree = t }) i o outs births) version refl
    (sites ∙ ap (slice_set old.sites.items i) answers.site)
    tree
    (trace ∙ ap (λ (os : List Out). joined old.trace.items ++ os) answers.outs)
    (ap all_carried flights ∙ carried_append old.flights.items e.sends
    ∙ ap (λ (ps : List Addressed). all_carried old.flights.items ++ ps)
    (all_carry o.sends e.sends answers.sends).0)

-- ---- halts

halt_is : (v : Ask) → is_halt v ≡ true → v ≡ request.Halt
halt_is (request.Go b k) e = absurd (cc)
halt_is (request.Fail a k) e = absurd (cc)
halt_is request.Halt e = refl

pub halts_net : (seen : List ℕ) (old new : Parts) → new.version ≡ old.version
    → (i : ℕ) (a : AtomId) (s : Site) → slice_get old.sites.items i ≡ Some s
    → can_halt old.tree a s ≡ true → HaltsAt old.tree new.tree i a s old.sites.items new.sites.items
    → new.trace.items ≡ old.trace.items → new.flights.items ≡ old.flights.items
    → Halts (net_of seen old) a (net_of seen new)
halts_net seen old new version i a s at can halts trace flights =
    let q = halts.halts.asked in
    let ready : is_halt q.ask && is_alive old.tree q.loc ≡ true =
    ap (is_ready old.tree) (sym halts.halts.here) ∙ can in
    let both = and_parts (is_halt q.ask) (is_alive old.tree q.loc) ready in
    record {
      asks =
          record { number = i; site = s; request = q; site_is = at; request_is = halts.halts.here };
      is = halt_is q.ask both.0;
      alive = both.1;
      new_is = same_net (net_of seen new) (record (net_of seen old) {
        sites = slice_set old.sites.items i (drop_request a s);
        tree = with_mark (bare old.tree) q.loc;
      }) version refl
          (halts.sites ∙ ap (slice_set old.sites.items i) halts.halts.site)
          (ap bare halts.halts.tree)
          (ap joined trace)
          (ap all_carried flights);
    }

-- ---- detections

some_if : (u : Bool) (e : Event) → is_some (cond u (Some e) None) ≡ true → u ≡ true
some_if true e h = refl
some_if false e h = absurd (cc)

pub detects_net : (seen : List ℕ) (old new : Parts) → new.version ≡ old.version
    → (i : ℕ) (a : AtomId) (s : Site) (e : Effects) → slice_get old.sites.items i ≡ Some s
    → s.number ≡ i → is_some (dead_for old.tree a s) ≡ true
    → DetectsAt seen old.tree i a s old.sites.items new.sites.items e
    → bare new.tree ≡ bare old.tree → joined new.trace.items ≡ joined old.trace.items ++ e.outs
    → new.flights.items ≡ old.flights.items ++ e.sends
    → Detects (net_of seen old) a (net_of seen new)
detects_net seen old new version i a s e at number dead detects tree trace flights =
    let d = detects.detects in
    let q = d.asked in
    let sees : sees_death old.tree (Some q) ≡ true =
    ap (sees_death old.tree) (sym d.here)
    ∙ some_if (sees_death old.tree (request_with a s.requests)) (event.Detect a) dead in
    let told : is_alive old.tree q.loc && is_dead old.tree d.target ≡ true =
    ap (λ (v : Ask). sees_death old.tree (Some (record q { ask = v }))) (sym d.asks) ∙ sees in
    let both = and_parts (is_alive old.tree q.loc) (is_dead old.tree d.target) told in
    let from = λ (k : ℕ). continuation_made seen k q.loc s.made d.cont in
    let answers : Answers (sent_here (bare old.tree) (from i) (drop_request a s)) (from i).outs []
    detects.after e =
    subst (λ (k : ℕ). Answers (sent_here (bare old.tree) (from k) (drop_request a s))
    (from k).outs [] detects.after e) number
    (subst (λ (o : Outcome). Answers o (from s.number).outs [] detects.after e)
    (sym (sent_bare old.tree (from s.number) (drop_request a s))) d.answers) in
    record {
      asks = record { number = i; site = s; request = q; site_is = at; request_is = d.here };
      target = d.target;
      cont = d.cont;
      is = d.asks;
      alive = both.0;
      dead = both.1;
      new_is = outcome_net seen old new version i (bare old.tree)
          (sent_here (bare old.tree) (from i) (drop_request a s)) (from i).outs [] detects.after e
          detects.sites answers tree trace flights;
    }

-- ---- the facts of the type, after an event

pub event_whole : (c : CodeParts) (old new : Parts) (e : Event) (events : ℕ) → IsWhole c old events
    → events < 2 ^ 32 → Does c (net_of c.seen old) (Some e) (net_of c.seen new)
    → AllStayFit c (bare new.tree) new.sites.items → length new.sites.items ≡ length old.sites.items
    → (more : List Flight) → Each IsMessageFlight more
    → new.flights.items ≡ old.flights.items ++ more
    → new.under_way ≡ old.under_way + length more → new.under_way < 2 ^ 32
    → IsWhole c new (events + 1)
event_whole c old new e events h few does fit many more spelled flights count low = record {
  running =
      event_running c (net_of c.seen old) (net_of c.seen new) e events h.running does fit many few;
  flying = record {
    spelled = subst (Each IsMessageFlight) (sym flights)
        (Each-append IsMessageFlight old.flights.items more h.flying.spelled spelled);
    counted = omega (
      arith,
      count,
      h.flying.counted,
      ap length flights,
      length-append old.flights.items more,
    );
    few = low;
  };
}

pub stay_bare : (c : CodeParts) (t : Tree) (sites : List Site) → AllStayFit c t sites
    → AllStayFit c (bare t) sites
stay_bare c t sites h =
    record { in_tree = h.in_tree; in_code = h.in_code; drawn = h.drawn; fresh = h.fresh }
