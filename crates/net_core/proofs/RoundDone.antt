-- A round, from what is taken back of lent sites.
use Rattle.std.proofs.Common.{◌≡◌, ℕ, zero, suc, ◌+◌, ◌*◌, ◌-◌, ◌<◌, ◌≤◌, ◌^◌, map, List, [], ◌∷◌}
use Rattle.std.proofs.Common.{◌++◌, length, replicate, Option, Some, All, refl, sym, ap, ◌∙◌, subst}
use Rattle.std.proofs.Common.{arith, slice_get, length-append}
use Rattle.std.specs.Prelude.{IsTrue}
use Rattle.chem_model.specs.declared.event.Event.{Event}
use Rattle.chem_model.specs.declared.event.Out.{Out}
use Rattle.chem_model.specs.Each.{Each}
use Rattle.chem_laws.proofs.Lists.{Each-append, Each-weaker, append_nil, each_all}
use Rattle.wire_packet.specs.declared.packet.Flight.{Flight}
use Rattle.env_store.specs.CodeParts.{CodeParts}
use Rattle.loc_tree.specs.Tree.{Tree, bare}
use Rattle.net_laws.specs.Site.{Site}
use Rattle.net_laws.specs.Net.{Addressed, Net}
use Rattle.net_laws.specs.Rounds.{WorksOff}
use Rattle.site_solution.specs.InTree.{is_in_tree}
use Rattle.site_solution.specs.InCode.{is_in_code}
use Rattle.site_solution.specs.Draws.{CanDraw}
use Rattle.site_solution.specs.Staying.{CanAct}
use Rattle.net_laws.proofs.Holds.{each_get}
use Rattle.net_core.specs.declared.parts.Parts.{Parts}
use Rattle.net_core.specs.declared.senders.Run.{Run}
use Rattle.net_core.specs.declared.slots.Slot.{Slot}
use Rattle.net_core.specs.declared.turn.Work.{Work}
use Rattle.net_core.specs.inside.Alone.{IsAlone, IsWorked}
use Rattle.net_core.specs.Lending.{mail_to, WorksAlone, AllAreLent, no_site, a_site, AreSentInTurn}
use Rattle.net_core.specs.Lending.{no_sender, a_sender}
use Rattle.net_core.specs.Parts.{joined, all_carried, IsMessageFlight, net_of}
use Rattle.net_core.specs.Scheduling.{AreTurns, numbers}
use Rattle.net_core.specs.inside.Slots.{CanWork, IsServedAs, IsServed, Pairwise, slot_of, HasWork}
use Rattle.net_core.specs.inside.Slots.{events_in, outs_in, flights_in, sites_of, events_of}
use Rattle.net_core.specs.inside.Slots.{outs_of, flights_of, froms_of, HasRound, HasSent}
use Rattle.net_core.specs.inside.Runs.{spread}
use Rattle.net_core.specs.Whole.{NetParts, AllFit, IsRunning, IsWhole, RunsSome}
use Rattle.net_core.specs.Working.{HasWorked}
use Rattle.net_core.proofs.Alone.{alone_fits, alone_number}
use Rattle.net_core.proofs.Carrying.{carried_append, carried_length}
use Rattle.net_core.proofs.Deliveries.{same_net}
use Rattle.net_core.proofs.Ending.{turns_do}
use Rattle.net_core.proofs.Fitting.{fit_bare}
use Rattle.net_core.proofs.Lending.{lent_sites_have_turns}
use Rattle.net_core.proofs.Picking.{IsFine}
use Rattle.net_core.proofs.Playing.{lists_replay}
use Rattle.net_core.proofs.Scheduled.{turns_fine}
use Rattle.net_core.proofs.SlotLists.{froms_many}
use Rattle.net_core.proofs.SomeSchedule.{turns_within, length_range}

-- how far a site is after its turn
pub record IsDone (c : CodeParts) (t : Tree) (most : ℕ) (s : Site) : Type 0 where
  pub fits : CanAct c t s
  pub made : s.made ≤ most

-- the sites have the numbers from i on
abbrev pub AreFrom : ℕ → List Site → Type 0
AreFrom i sites = (j : ℕ) (s : Site) → slice_get sites j ≡ Some s → s.number ≡ i + j

module _ (c : CodeParts) (t : Tree) (fs : List Flight) (quota : ℕ) where
  had_turn : (s : Site) (d : Slot) (w : Work) → d.work ≡ Some w
      → IsServed c t fs quota (slot_of s) d → IsWorked c t quota fs s w d.site
  had_turn s d w is served =
      subst (λ (o : Option Work). IsServedAs c t fs quota s o d.site) is served

  -- each site was lent
  pub all_lent : (i : ℕ) (sites : List Site) (done : List Slot) → AreFrom i sites
      → Pairwise (IsServed c t fs quota) (map slot_of sites) done → Each HasWork done
      → AllAreLent c quota (bare t) (all_carried fs) i sites (events_of done) (outs_of done)
      (all_carried (flights_of done)) (sites_of done)
  all_lent i [] [] from served worked = no_site i
  all_lent i [] (d ∷ ds) from served worked = absurd served
  all_lent i (s ∷ ss) [] from served worked = absurd served
  all_lent i (s ∷ ss) (d ∷ ds) from served worked =
      let w = worked.0.0 in
      let is : d.work ≡ Some w = worked.0.1 in
      let one = had_turn s d w is served.0 in
      let first : i + 0 ≡ i = omega arith in
      let number : s.number ≡ i = from 0 s refl ∙ first in
      let mail : WorksOff (bare t) s (mail_to i (all_carried fs)) (all_carried w.on) one.mid =
      subst (λ (k : ℕ). WorksOff (bare t) s (mail_to k (all_carried fs)) (all_carried w.on) one.mid)
      number one.arrives.works in
      let reactions : WorksAlone c (bare t) i quota
      one.mid w.made.events w.made.outs (all_carried w.made.sends) d.site =
      subst (λ (k : ℕ). WorksAlone c (bare t) k quota
      one.mid w.made.events w.made.outs (all_carried w.made.sends) d.site) number
      one.reacts.works in
      let next : (j : ℕ) (u : Site) → slice_get ss j ≡ Some u → u.number ≡ i + 1 + j =
      λ j u e. next_number j (u.number) (from (suc j) u e) in
      let all =
      a_site i s one.mid d.site (all_carried w.on) (all_carried w.made.sends) w.made.events
      w.made.outs ss (sites_of ds) (events_of ds) (outs_of ds) (all_carried (flights_of ds)) mail
      reactions (all_lent (i + 1) ss ds next served.1 worked.1) in
      let flights : all_carried (flights_in d.work ++ flights_of ds)
      ≡ (all_carried w.on ++ all_carried w.made.sends) ++ all_carried (flights_of ds) =
      carried_append (flights_in d.work) (flights_of ds)
      ∙ ap (λ (o : Option Work). all_carried (flights_in o) ++ all_carried (flights_of ds)) is
      ∙ ap (λ ps. ps ++ all_carried (flights_of ds)) (carried_append w.on w.made.sends) in
      as_lent i (s ∷ ss) (d.site ∷ sites_of ds) (events_in d.work ++ events_of ds)
      (w.made.events ++ events_of ds) (outs_in d.work ++ outs_of ds) (w.made.outs ++ outs_of ds)
      (all_carried (flights_in d.work ++ flights_of ds))
      ((all_carried w.on ++ all_carried w.made.sends) ++ all_carried (flights_of ds))
      (ap (λ (o : Option Work). events_in o ++ events_of ds) is)
      (ap (λ (o : Option Work). outs_in o ++ outs_of ds) is) flights all
    where
      next_number : (j n : ℕ) → n ≡ i + suc j → n ≡ i + 1 + j
      next_number j n e = omega arith

      as_lent :
          (i : ℕ) (ss news : List Site) (es ds : List Event) (os us : List Out)
          (ps qs : List Addressed) → es ≡ ds → os ≡ us → ps ≡ qs
          → AllAreLent c quota (bare t) (all_carried fs) i ss ds us qs news
          → AllAreLent c quota (bare t) (all_carried fs) i ss es os ps news
      as_lent i ss news es ds os us ps qs a b d h =
          subst
          (λ (xs : List Event). AllAreLent c quota (bare t) (all_carried fs) i ss xs os ps news)
          (sym a)
          (subst
          (λ (xs : List Out). AllAreLent c quota (bare t) (all_carried fs) i ss ds xs ps news)
          (sym b)
          (subst
          (λ (xs : List Addressed). AllAreLent c quota (bare t) (all_carried fs) i ss ds us xs news)
          (sym d) h))

  pub as_many : (sites : List Site) (done : List Slot)
      → Pairwise (IsServed c t fs quota) (map slot_of sites) done
      → length (sites_of done) ≡ length sites
  as_many [] [] served = refl
  as_many [] (d ∷ ds) served = absurd served
  as_many (s ∷ ss) [] served = absurd served
  as_many (s ∷ ss) (d ∷ ds) served = ap suc (as_many ss ds served.1)

  pub all_spelled : (sites : List Site) (done : List Slot)
      → Pairwise (IsServed c t fs quota) (map slot_of sites) done → Each HasWork done
      → Each IsMessageFlight (flights_of done)
  all_spelled [] [] served worked = tt
  all_spelled [] (d ∷ ds) served worked = absurd served
  all_spelled (s ∷ ss) [] served worked = absurd served
  all_spelled (s ∷ ss) (d ∷ ds) served worked =
      let w = worked.0.0 in
      let is : d.work ≡ Some w = worked.0.1 in
      let one = had_turn s d w is served.0 in
      let both : Each IsMessageFlight (w.on ++ w.made.sends) =
      Each-append IsMessageFlight w.on w.made.sends one.arrives.spelled one.reacts.spelled in
      let here : Each IsMessageFlight (flights_in d.work) =
      subst (λ (o : Option Work). Each IsMessageFlight (flights_in o)) (sym is) both in
      Each-append IsMessageFlight (flights_in d.work) (flights_of ds) here
      (all_spelled ss ds served.1 worked.1)

  module _ (net : Net) (events : ℕ) (running : IsRunning c net events) (tree : net.tree ≡ bare t)
      (packets : net.packets ≡ all_carried fs) where
    alone_at : (i : ℕ) (s : Site) → slice_get net.sites i ≡ Some s
        → IsAlone c t s.number events s (mail_to s.number (all_carried fs))
    alone_at i s at =
        let number : s.number ≡ i = (running.some.stands.hosts i s at).number in
        subst (λ (k : ℕ). IsAlone c t k events s (mail_to k (all_carried fs))) (sym number)
        (record {
          net = net;
          running = running;
          tree = tree;
          here = at;
          later = [];
          mail_is = ap (mail_to i) packets ∙ sym (append_nil (mail_to i (all_carried fs)));
        })

    pub all_can : events + quota < 2 ^ 32 → Each IsMessageFlight fs → (i : ℕ) (sites : List Site)
        → ((j : ℕ) (s : Site) → slice_get sites j ≡ Some s → slice_get net.sites (i + j) ≡ Some s)
        → Each (CanWork c t fs quota) (map slot_of sites)
    all_can few spelled i [] at = tt
    all_can few spelled i (s ∷ ss) at = (
      record {
        spelled = spelled;
        events = events;
        few = few;
        alone = alone_at (i + 0) s (at 0 s refl);
      },
      all_can few spelled (i + 1) ss (λ j u e. next_at j u (at (suc j) u e)),
    )
      where
        next_at : (j : ℕ) (u : Site) → slice_get net.sites (i + suc j) ≡ Some u
            → slice_get net.sites (i + 1 + j) ≡ Some u
        next_at j u e =
            let same : i + 1 + j ≡ i + suc j = omega arith in
            ap (slice_get net.sites) same ∙ e

    done_one : events + quota < 2 ^ 32 → (i : ℕ) (s : Site) (d : Slot) (w : Work)
        → slice_get net.sites i ≡ Some s → IsWorked c t quota fs s w d.site → (n : ℕ)
        → length w.made.events ≤ n → IsDone c t (1048576 * (events + n + 1)) d.site
    done_one few i s d w at one n most =
        let start = alone_at i s at in
        let after = one.reacts.stays events few (one.stays events start) in
        let low = each_get (λ (u : Site). u.made ≤ 1048576 * (events + length w.made.events + 1))
        after.net.sites s.number d.site after.here after.running.made in
        record {
          fits = alone_fits c t s.number (events + length w.made.events) d.site [] after;
          made = omega arith;
        }

    pub all_done : events + quota < 2 ^ 32 → (i : ℕ) (sites : List Site) (done : List Slot)
        → ((j : ℕ) (s : Site) → slice_get sites j ≡ Some s → slice_get net.sites (i + j) ≡ Some s)
        → Pairwise (IsServed c t fs quota) (map slot_of sites) done → Each HasWork done → (n : ℕ)
        → length (events_of done) ≤ n
        → Each (IsDone c t (1048576 * (events + n + 1))) (sites_of done)
    all_done few i [] [] at served worked n most = tt
    all_done few i [] (d ∷ ds) at served worked n most = absurd served
    all_done few i (s ∷ ss) [] at served worked n most = absurd served
    all_done few i (s ∷ ss) (d ∷ ds) at served worked n most =
        let w = worked.0.0 in
        let is : d.work ≡ Some w = worked.0.1 in
        let one = had_turn s d w is served.0 in
        let parts : length (events_in d.work ++ events_of ds)
        ≡ length (events_in d.work) + length (events_of ds) =
        length-append (events_in d.work) (events_of ds) in
        let same : length (events_in d.work) ≡ length w.made.events =
        ap (λ (o : Option Work). length (events_in o)) is in (
          done_one few (i + 0) s d w (at 0 s refl) one n (omega (arith, most, parts, same)),
          all_done few (i + 1) ss ds (λ j u e. next_at j u (at (suc j) u e)) served.1 worked.1 n
              (omega (arith, most, parts)),
        )
      where
        next_at : (j : ℕ) (u : Site) → slice_get net.sites (i + suc j) ≡ Some u
            → slice_get net.sites (i + 1 + j) ≡ Some u
        next_at j u e =
            let same : i + 1 + j ≡ i + suc j = omega arith in
            ap (slice_get net.sites) same ∙ e

    -- the site of a slot has its number still
    number_after : events + quota < 2 ^ 32 → (i : ℕ) (s : Site) (d : Slot) (w : Work)
        → slice_get net.sites i ≡ Some s → IsWorked c t quota fs s w d.site → d.site.number ≡ i
    number_after few i s d w at one =
        let start = alone_at i s at in
        let after = one.reacts.stays events few (one.stays events start) in
        alone_number c t s.number (events + length w.made.events) d.site [] after
        ∙ (running.some.stands.hosts i s at).number

    -- so what each leaves is from it
    pub all_sent : events + quota < 2 ^ 32 → (i : ℕ) (sites : List Site) (done : List Slot)
        → ((j : ℕ) (s : Site) → slice_get sites j ≡ Some s → slice_get net.sites (i + j) ≡ Some s)
        → Pairwise (IsServed c t fs quota) (map slot_of sites) done → Each HasWork done
        → AreSentInTurn c quota (bare t) (all_carried fs) i sites (froms_of done)
    all_sent few i [] [] at served worked = no_sender i
    all_sent few i [] (d ∷ ds) at served worked = absurd served
    all_sent few i (s ∷ ss) [] at served worked = absurd served
    all_sent few i (s ∷ ss) (d ∷ ds) at served worked =
        let w = worked.0.0 in
        let is : d.work ≡ Some w = worked.0.1 in
        let one = had_turn s d w is served.0 in
        let first : i + 0 ≡ i = omega arith in
        let here : slice_get net.sites i ≡ Some s =
        subst (λ (k : ℕ). slice_get net.sites k ≡ Some s) first (at 0 s refl) in
        let number : s.number ≡ i = (running.some.stands.hosts i s here).number in
        let mail : WorksOff (bare t) s (mail_to i (all_carried fs)) (all_carried w.on) one.mid =
        subst
        (λ (k : ℕ). WorksOff (bare t) s (mail_to k (all_carried fs)) (all_carried w.on) one.mid)
        number one.arrives.works in
        let reactions : WorksAlone c (bare t) i quota
        one.mid w.made.events w.made.outs (all_carried w.made.sends) d.site =
        subst (λ (k : ℕ). WorksAlone c (bare t) k quota
        one.mid w.made.events w.made.outs (all_carried w.made.sends) d.site) number
        one.reacts.works in
        let later =
        all_sent few (i + 1) ss ds (λ j u e. next_at j u (at (suc j) u e)) served.1 worked.1 in
        let all = a_sender i s one.mid d.site (all_carried w.on) (all_carried w.made.sends)
        w.made.events w.made.outs ss (froms_of ds) mail reactions later in
        let many : length (all_carried w.on ++ all_carried w.made.sends)
        ≡ length (flights_in d.work) =
        ap length (sym (carried_append w.on w.made.sends)) ∙ carried_length (w.on ++ w.made.sends)
        ∙ ap (λ (o : Option Work). length (flights_in o)) (sym is) in
        subst (λ (k : ℕ). AreSentInTurn c quota (bare t) (all_carried fs) i (s ∷ ss)
        (replicate (length (flights_in d.work)) k ++ froms_of ds))
        (sym (number_after few i s d w here one))
        (subst (λ (k : ℕ).
        AreSentInTurn c quota (bare t) (all_carried fs) i (s ∷ ss) (replicate k i ++ froms_of ds))
        many all)
      where
        next_at : (j : ℕ) (u : Site) → slice_get net.sites (i + suc j) ≡ Some u
            → slice_get net.sites (i + 1 + j) ≡ Some u
        next_at j u e =
            let same : i + 1 + j ≡ i + suc j = omega arith in
            ap (slice_get net.sites) same ∙ e

-- ---- the round

-- the quota of one site is at most that of all
one_of_all : (quota n : ℕ) → 0 < n → quota ≤ quota * n
one_of_all quota zero h = absurd (omega arith)
one_of_all quota (suc n) h = grind arith

fit_done : (c : CodeParts) (t : Tree) (most : ℕ) (sites : List Site) → Each (IsDone c t most) sites
    → AllFit c t sites
fit_done c t most sites h = record {
  in_tree = Each-weaker (IsDone c t most) (λ (s : Site). IsTrue (is_in_tree t s))
      (λ s d. d.fits.in_tree) sites h;
  in_code = Each-weaker (IsDone c t most) (λ (s : Site). IsTrue (is_in_code c t s))
      (λ s d. d.fits.in_code) sites h;
  draws = Each-weaker (IsDone c t most) (CanDraw t) (λ s d. d.fits.draws) sites h;
}

-- each site can have its turn
pub can_all : (c : CodeParts) (old : Parts) (quota events : ℕ)
    → events + quota * length old.sites.items < 2 ^ 32 - 1 → IsWhole c old events
    → All (CanWork c old.tree old.flights.items quota) (map slot_of old.sites.items)
can_all c old quota events few whole = go old.sites.items refl
  where
    go : (sites : List Site) → old.sites.items ≡ sites
        → All (CanWork c old.tree old.flights.items quota) (map slot_of sites)
    go [] e = each_all (CanWork c old.tree old.flights.items quota) [] tt
    go (s ∷ ss) e =
        let some : 0 < length old.sites.items = omega (arith, ap length e) in
        let less = one_of_all quota (length old.sites.items) some in
        let net = net_of c.seen old in
        each_all (CanWork c old.tree old.flights.items quota) (map slot_of (s ∷ ss))
        (all_can c old.tree old.flights.items quota net events whole.running refl refl
        (omega arith) whole.flying.spelled 0 (s ∷ ss)
        (λ j u at. ap (λ us. slice_get us (0 + j)) e ∙ from_first j u at))
      where
        from_first : (j : ℕ) (u : Site) → slice_get (s ∷ ss) j ≡ Some u
            → slice_get (s ∷ ss) (0 + j) ≡ Some u
        from_first j u at = let same : 0 + j ≡ j = omega arith in ap (slice_get (s ∷ ss)) same ∙ at

module _ (c : CodeParts) (old new : Parts) (quota : ℕ) (es : List Event) (done : List Slot)
    (served : Pairwise (IsServed c old.tree old.flights.items quota)
    (map slot_of old.sites.items) done)
    (worked : Each HasWork done) (version : new.version ≡ old.version)
    (sites : new.sites.items ≡ sites_of done) (tree : bare new.tree ≡ bare old.tree)
    (trace : joined new.trace.items ≡ joined old.trace.items ++ outs_of done)
    (flights : new.flights.items ≡ flights_of done)
    (count : new.under_way ≡ length (flights_of done)) (few_flights : new.under_way < 2 ^ 32)
    (events_are : es ≡ events_of done) where
  abbrev fs : List Flight
  fs = old.flights.items

  abbrev net : Net
  net = net_of c.seen old

  abbrev after : Net
  after = net_of c.seen new

  as_lent_net : record net {
    sites = sites_of done;
    trace = net.trace ++ outs_of done;
    packets = all_carried (flights_of done);
  } ≡ after
  as_lent_net = same_net (record net {
    sites = sites_of done;
    trace = net.trace ++ outs_of done;
    packets = all_carried (flights_of done);
  }) after (sym version) refl (sym sites) (sym tree) (sym trace) (ap all_carried (sym flights))

  had_turns : (events : ℕ) → IsWhole c old events
      → AreTurns c quota (numbers net) (length net.packets) net es after
  had_turns events whole =
      let some = whole.running.some in
      let lent = all_lent c old.tree fs quota 0 old.sites.items done (λ j s at. number_at j s at)
      served worked in
      let turns =
      lent_sites_have_turns some.program c some.is_program whole.running.code some.of_program net
      some.solution some.stands some.runs quota (events_of done) (outs_of done)
      (all_carried (flights_of done)) (sites_of done) lent in
      subst (λ (xs : List Event). AreTurns c quota (numbers net) (length net.packets) net xs after)
      (sym events_are)
      (subst
      (λ (w : Net). AreTurns c quota (numbers net) (length net.packets) net (events_of done) w)
      as_lent_net turns)
    where
      number_at : (j : ℕ) (s : Site) → slice_get old.sites.items j ≡ Some s → s.number ≡ 0 + j
      number_at j s at =
          let same : j ≡ 0 + j = omega arith in
          (whole.running.some.stands.hosts j s at).number ∙ same

  within_all : (events : ℕ) → IsWhole c old events → length es ≤ quota * length old.sites.items
  within_all events whole =
      let some = whole.running.some in
      let most =
      turns_within some.program c some.is_program whole.running.code some.of_program quota
      (numbers net) (length net.packets) net after es (had_turns events whole) in
      subst (λ (k : ℕ). length es ≤ quota * k) (length_range 0 (length old.sites.items)) most

  many : length new.sites.items ≡ length old.sites.items
  many = ap length sites ∙ as_many c old.tree fs quota old.sites.items done served

  still_runs : (events : ℕ) → IsWhole c old events → RunsSome c after
  still_runs events whole =
      let some = whole.running.some in
      let start : IsFine some.program c net =
      record { solution = some.solution; stands = some.stands; runs = some.runs } in
      let fine = turns_fine some.program c some.is_program whole.running.code some.of_program quota
      (numbers net) (length net.packets) net after es start (had_turns events whole) in
      record {
        program = some.program;
        is_program = some.is_program;
        of_program = some.of_program;
        solution = fine.solution;
        stands = fine.stands;
        runs = fine.runs;
      }

  sites_done : (events : ℕ) → events + quota * length old.sites.items < 2 ^ 32 - 1
      → IsWhole c old events
      → Each (IsDone c old.tree (1048576 * (events + length es + 1))) new.sites.items
  sites_done events few whole =
      subst (Each (IsDone c old.tree (1048576 * (events + length es + 1)))) (sym sites)
      (go old.sites.items done refl served worked (omega (arith, ap length events_are)))
    where
      go : (olds : List Site) (ds : List Slot) → old.sites.items ≡ olds
          → Pairwise (IsServed c old.tree fs quota) (map slot_of olds) ds → Each HasWork ds
          → length (events_of ds) ≤ length es
          → Each (IsDone c old.tree (1048576 * (events + length es + 1))) (sites_of ds)
      go [] [] e s w most = tt
      go [] (d ∷ ds) e s w most = absurd s
      go (u ∷ us) ds e s w most =
          let some : 0 < length old.sites.items = omega (arith, ap length e) in
          let less = one_of_all quota (length old.sites.items) some in
          all_done c old.tree fs quota net events whole.running refl refl (omega arith) 0 (u ∷ us)
          ds (λ j v at. ap (λ vs. slice_get vs (0 + j)) e ∙ from_first j v at) s w (length es) most
        where
          from_first : (j : ℕ) (v : Site) → slice_get (u ∷ us) j ≡ Some v
              → slice_get (u ∷ us) (0 + j) ≡ Some v
          from_first j v at =
              let same : 0 + j ≡ j = omega arith in
              ap (slice_get (u ∷ us)) same ∙ at

  whole_after : (events : ℕ) → events + quota * length old.sites.items < 2 ^ 32 - 1
      → IsWhole c old events → IsWhole c new (events + length es)
  whole_after events few whole =
      let most = 1048576 * (events + length es + 1) in
      let each = sites_done events few whole in
      let fit : AllFit c (bare new.tree) new.sites.items =
      subst (λ (u : Tree). AllFit c u new.sites.items) (sym tree)
      (fit_bare c old.tree new.sites.items (fit_done c old.tree most new.sites.items each)) in
      record {
        running = record {
          code = whole.running.code;
          some = still_runs events whole;
          fit = fit;
          few_sites = omega (arith, many, whole.running.few_sites);
          made = Each-weaker (IsDone c old.tree most) (λ (s : Site). s.made ≤ most) (λ s d. d.made)
              new.sites.items each;
        };
        flying = record {
          spelled = subst (Each IsMessageFlight) (sym flights)
              (all_spelled c old.tree fs quota old.sites.items done served worked);
          counted = count ∙ ap length (sym flights);
          few = few_flights;
        };
      }

  pub has_round : (events : ℕ) → IsWhole c old events → HasRound c quota old new es
  has_round events whole = record {
    turns = had_turns events whole;
    within = within_all events whole;
    tree = tree;
    sites = many;
    whole = whole_after;
  }

  pub has_sent : (events : ℕ) → events + quota * length old.sites.items < 2 ^ 32 - 1
      → IsWhole c old events → (senders : List Run) → spread senders ≡ froms_of done
      → HasSent c quota old new senders
  has_sent events few whole senders sent = record {
    turns = subst (AreSentInTurn c quota net.tree net.packets 0 net.sites) (sym sent)
        (go old.sites.items done refl served worked);
    many = ap length sent ∙ froms_many done ∙ sym count;
  }
    where
      go : (olds : List Site) (ds : List Slot) → old.sites.items ≡ olds
          → Pairwise (IsServed c old.tree fs quota) (map slot_of olds) ds → Each HasWork ds
          → AreSentInTurn c quota (bare old.tree) (all_carried fs) 0 olds (froms_of ds)
      go [] [] e s w = no_sender 0
      go [] (d ∷ ds) e s w = absurd s
      go (u ∷ us) ds e s w =
          let some : 0 < length old.sites.items = omega (arith, ap length e) in
          let less = one_of_all quota (length old.sites.items) some in
          all_sent c old.tree fs quota net events whole.running refl refl (omega arith) 0 (u ∷ us)
          ds (λ j v at. ap (λ vs. slice_get vs (0 + j)) e ∙ from_first j v at) s w
        where
          from_first : (j : ℕ) (v : Site) → slice_get (u ∷ us) j ≡ Some v
              → slice_get (u ∷ us) (0 + j) ≡ Some v
          from_first j v at =
              let same : 0 + j ≡ j = omega arith in
              ap (slice_get (u ∷ us)) same ∙ at

-- ---- of a network

pub has_worked : (old new : NetParts) (quota events : ℕ) (es : List Event)
    → IsRunning old.code old.net events
    → AreTurns old.code quota (numbers old.net) (length old.net.packets) old.net es new.net
    → new.code ≡ old.code → new.events ≡ old.events + length es
    → length es ≤ quota * length old.net.sites → new.net.tree ≡ old.net.tree
    → length new.net.sites ≡ length old.net.sites
    → AreSentInTurn old.code quota old.net.tree old.net.packets 0 old.net.sites new.froms
    → HasWorked quota old es new
has_worked old new quota events es running turns code count within tree sites froms = record {
  turns = turns;
  code = code;
  events = count;
  within = within;
  tree = tree;
  sites = sites;
  replays = λ p n ok is stands runs.
      lists_replay old.code old.net new.net es running.code
      (turns_do old.code quota (numbers old.net) (length old.net.packets) old.net new.net es turns)
      p n ok is stands runs;
  froms = froms;
}
