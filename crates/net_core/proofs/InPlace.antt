-- Turns where the sites stand, one after another: they leave what slots would.
use Rattle.std.proofs.Common.{◌≡◌, ℕ, zero, suc, ◌+◌, ◌-◌, ◌<◌, ◌^◌, Bool, true, List, []}
use Rattle.std.proofs.Common.{◌∷◌, ◌++◌, ◌*◌, All, map, length, replicate, Some, refl, sym, ap, ◌∙◌}
use Rattle.std.proofs.Common.{subst}
use Rattle.std.proofs.Common.{arith, slice_get, length-append, append_assoc}
use Rattle.std.proofs.Common.{Result, Ok, Err}
use Rattle.std.specs.Prelude.{slice_set, slice_index_or, IfOk}
use Rattle.std.proofs.lemmas.Option.{get_or_from_slice_get}
use Rattle.chem_laws.proofs.Lists.{Each-append, append_nil, all_each}
use Rattle.wire_packet.specs.declared.packet.Flight.{Flight}
use Rattle.env_store.specs.CodeParts.{CodeParts}
use Rattle.loc_tree.specs.Tree.{Tree, bare}
use Rattle.net_laws.specs.Site.{Site}
use Rattle.net_laws.proofs.Holds.{each_get}
use Rattle.net_laws.proofs.Lists.{get_set_same, get_set_other}
use Rattle.reducer.specs.Ready.{NoneFires}
use Rattle.net_core.specs.declared.parts.Parts.{Parts}
use Rattle.net_core.specs.declared.senders.Run.{Run}
use Rattle.net_core.specs.declared.slots.Slot.{Slot}
use Rattle.net_core.specs.declared.turn.Work.{Work}
use Rattle.net_core.specs.inside.Alone.{IsWorked}
use Rattle.net_core.specs.inside.Idle.{AreIdle, AreUncalled, CanPass}
use Rattle.net_core.specs.inside.Fitting.{AreNumbered}
use Rattle.net_core.specs.inside.Slots.{CanWork, IsServed, Pairwise, slot_of, HasWork, sites_of}
use Rattle.net_core.specs.inside.Slots.{outs_of, flights_of, events_of, froms_of, IsTaken}
use Rattle.net_core.specs.inside.Slots.{HasRound, HasSent}
use Rattle.net_core.specs.inside.Runs.{spread}
use Rattle.net_core.specs.inside.Turns.{IsWorkedAt, Beside, HasTurned, AreThrough}
use Rattle.net_core.specs.Parts.{joined}
use Rattle.net_core.specs.Whole.{IsWhole}
use Rattle.net_core.proofs.Deliveries.{set_length}
use Rattle.net_core.proofs.Fitting.{set_same}
use Rattle.net_core.proofs.Idling.{no_mail, no_work, passed, idle_set}
use Rattle.net_core.proofs.Members.{get_is}
use Rattle.net_core.proofs.RoundDone.{as_many, has_round, has_sent}
use Rattle.net_core.proofs.SiteReactions.{one_member}
use Rattle.net_core.proofs.SlotLists.{slots_more, sites_join, events_join, outs_join, flights_join}
use Rattle.net_core.proofs.SlotLists.{froms_join}

-- ---- lists

cut_at : {X : Type 0} (xs ys : List X) (n : ℕ) (x : X) → length xs ≡ n
    → slice_get (xs ++ ys) n ≡ Some x → (rest : List X) × (ys ≡ x ∷ rest)
cut_at [] [] n x long at = cc
cut_at [] (y ∷ ys) zero x long at = let same : y ≡ x = cc in (ys, ap (λ z. z ∷ ys) same)
cut_at [] (y ∷ ys) (suc n) x long at = absurd (omega (arith, long))
cut_at (z ∷ xs) ys zero x long at = absurd (omega (arith, long))
cut_at (z ∷ xs) ys (suc n) x long at = cut_at xs ys n x (omega (arith, long)) at

set_at : {X : Type 0} (xs rest : List X) (n : ℕ) (x y : X) → length xs ≡ n
    → slice_set (xs ++ x ∷ rest) n y ≡ xs ++ y ∷ rest
set_at [] rest zero x y long = refl
set_at [] rest (suc n) x y long = absurd (omega (arith, long))
set_at (z ∷ xs) rest zero x y long = absurd (omega (arith, long))
set_at (z ∷ xs) rest (suc n) x y long =
    ap (λ zs. z ∷ zs) (set_at xs rest n x y (omega (arith, long)))

one_behind : {X Y : Type 0} (R : X → Y → Type 0) (xs : List X) (ys : List Y) (x : X) (y : Y)
    → Pairwise R xs ys → R x y → Pairwise R (xs ++ x ∷ []) (ys ++ y ∷ [])
one_behind R [] [] x y all one = (one, tt)
one_behind R [] (v ∷ ys) x y all one = absurd all
one_behind R (u ∷ xs) [] x y all one = absurd all
one_behind R (u ∷ xs) (v ∷ ys) x y all one = (all.0, one_behind R xs ys x y all.1 one)

none_behind : {X : Type 0} (xs ys zs : List X) → zs ≡ xs ++ ys → length xs ≡ length zs → ys ≡ []
none_behind xs [] zs e long = refl
none_behind xs (y ∷ ys) zs e long =
    absurd (omega (arith, ap length e, length-append xs (y ∷ ys), long))

slot_at : (ss : List Site) (n : ℕ) (s : Site) → slice_get ss n ≡ Some s
    → slice_get (map slot_of ss) n ≡ Some (slot_of s)
slot_at [] n s e = cc
slot_at (x ∷ xs) zero s e =
    let same : x ≡ s = cc in
    ap (λ (u : Site). Some (slot_of u)) same
slot_at (x ∷ xs) (suc n) s e = slot_at xs n s e

-- ---- one turn

pub may_have : (c : CodeParts) (t : Tree) (flights : List Flight) (quota : ℕ) (sites : List Site)
    (i : ℕ) (d : Site) → i < length sites
    → ((s : Site) → slice_get sites i ≡ Some s → CanWork c t flights quota (slot_of s))
    → CanWork c t flights quota (slot_of (slice_index_or sites i d))
may_have c t flights quota sites i d below can =
    can (slice_index_or sites i d) (get_is sites i d below)

pub worked_at : {E : Type 0} (c : CodeParts) (t : Tree) (quota : ℕ) (flights : List Flight)
    (sites : List Site) (i : ℕ) (d new : Site) (r : Result Work E)
    → IfOk r (λ w. IsWorked c t quota flights (slice_index_or sites i d) w new)
    → IfOk r (λ w. (s : Site) → slice_get sites i ≡ Some s
    → IsWorkedAt c t quota flights i s w sites (slice_set sites i new))
worked_at c t quota flights sites i d new (Ok w) h = λ s at. record {
  site = new;
  worked = subst (λ (u : Site). IsWorked c t quota flights u w new)
      (get_or_from_slice_get sites i s d at) h;
  sites = refl;
}
worked_at c t quota flights sites i d new (Err e) h = tt

-- an idle site has none
pub passed_by : (c : CodeParts) (quota : ℕ) (flights : List Flight) (i : ℕ) (s : Site)
    (old : Parts) (before : Beside) → slice_get old.sites.items i ≡ Some s
    → slice_get before.idle i ≡ Some true → CanPass c old.tree flights s
    → HasTurned c quota flights i s old before old before
passed_by c quota flights i s old before at flag can = record {
  site = s;
  work = no_work;
  worked = passed c old.tree quota flights s can;
  version = refl;
  sites = sym (set_same old.sites.items i s at);
  tree = refl;
  trace = sym (append_nil (joined old.trace.items));
  flights = sym (append_nil old.flights.items);
  count = omega arith;
  few = λ low. low;
  events = sym (append_nil before.events);
  sent = sym (append_nil before.froms);
  idle = sym (set_same before.idle i true flag);
}

pub has_turned : (c : CodeParts) (quota : ℕ) (flights : List Flight) (i : ℕ) (s here : Site)
    (old mid new : Parts) (before after : Beside) (w : Work)
    → IsWorkedAt c old.tree quota flights i s w old.sites.items mid.sites.items
    → slice_get old.sites.items i ≡ Some s → slice_get mid.sites.items i ≡ Some here
    → mid.version ≡ old.version → mid.tree ≡ old.tree → mid.trace ≡ old.trace
    → mid.flights ≡ old.flights → mid.under_way ≡ old.under_way
    → IsTaken w mid before.events new after.events
    → after.froms ≡ before.froms ++ replicate (new.under_way - old.under_way) here.number
    → after.idle ≡ slice_set before.idle i w.idle
    → HasTurned c quota flights i s old before new after
has_turned c quota flights i s here old mid new before after w at was now version tree trace under
    count taken sent idle =
    let there : slice_get mid.sites.items i ≡ Some at.site =
    ap (λ ss. slice_get ss i) at.sites ∙ get_set_same old.sites.items i s at.site was in
    let same : here ≡ at.site =
    one_member (slice_get mid.sites.items i) here at.site now there in
    let many : new.under_way - old.under_way ≡ length (w.on ++ w.made.sends) =
    omega (arith, taken.count, count) in
    record {
      site = at.site;
      work = w;
      worked = at.worked;
      version = taken.version ∙ version;
      sites = taken.sites ∙ at.sites;
      tree = taken.tree ∙ tree;
      trace = taken.trace ∙ ap (λ v. joined v.items ++ w.made.outs) trace;
      flights = taken.flights ∙ ap (λ v. v.items ++ (w.on ++ w.made.sends)) under;
      count = taken.count ∙ ap (λ k. k + length (w.on ++ w.made.sends)) count;
      few = subst (λ (n : ℕ). n < 2 ^ 32 → new.under_way < 2 ^ 32) count taken.few;
      events = taken.events;
      sent = sent ∙ ap (λ k. before.froms ++ replicate k here.number) many
          ∙ ap (λ (u : Site).
          before.froms ++ replicate (length (w.on ++ w.made.sends)) u.number) same;
      idle = idle;
    }

-- ---- several

module _ (c : CodeParts) (quota : ℕ) (flights : List Flight) (old : Parts) (before : Beside) where
  pub none_through : AreIdle c (bare old.tree) old.sites.items before.idle
      → AreThrough c quota flights old before 0 old before
  none_through idle = record {
    turned = [];
    waiting = old.sites.items;
    done = [];
    all = refl;
    many = refl;
    served = tt;
    worked = tt;
    version = refl;
    sites = refl;
    tree = refl;
    trace = sym (append_nil (joined old.trace.items));
    flights = sym (append_nil old.flights.items);
    count = omega arith;
    few = λ low. low;
    events = sym (append_nil before.events);
    sent = sym (append_nil before.froms);
    idle = idle;
    long = refl;
    still = λ i from flag. flag;
  }

  module _ (n : ℕ) (mid : Parts) (b : Beside) (h : AreThrough c quota flights old before n mid b)
    where
      done_many : length (sites_of h.done) ≡ n
      done_many = as_many c old.tree flights quota h.turned h.done h.served ∙ h.many

      pub sites_many : length mid.sites.items ≡ length old.sites.items
      sites_many = omega (
        arith,
        done_many,
        h.many,
        ap length h.sites,
        length-append (sites_of h.done) h.waiting,
        ap length h.all,
        length-append h.turned h.waiting,
      )

      module _ (s : Site) (at : slice_get mid.sites.items n ≡ Some s) where
        next : (rest : List Site) × (h.waiting ≡ s ∷ rest)
        next = cut_at (sites_of h.done) h.waiting n s done_many
            (ap (λ ss. slice_get ss n) (sym h.sites) ∙ at)

        -- it stands as it did
        pub stands_still : slice_get old.sites.items n ≡ Some s
        stands_still =
            ap (λ ss. slice_get ss n) (h.all ∙ ap (λ ss. h.turned ++ ss) next.1)
            ∙ there h.turned next.0 n h.many
          where
            there : (xs rest : List Site) (k : ℕ) → length xs ≡ k
                → slice_get (xs ++ s ∷ rest) k ≡ Some s
            there [] rest zero long = refl
            there [] rest (suc k) long = absurd (omega (arith, long))
            there (x ∷ xs) rest zero long = absurd (omega (arith, long))
            there (x ∷ xs) rest (suc k) long = there xs rest k (omega (arith, long))

        pub may_work : All (CanWork c old.tree flights quota) (map slot_of old.sites.items)
            → CanWork c mid.tree flights quota (slot_of s)
        may_work all =
            subst (λ (t : Tree). CanWork c t flights quota (slot_of s)) (sym h.tree)
            (each_get (CanWork c old.tree flights quota) (map slot_of old.sites.items) n (slot_of s)
            (slot_at old.sites.items n s stands_still)
            (all_each (CanWork c old.tree flights quota) (map slot_of old.sites.items) all))

        pub may_pass : AreNumbered old.sites.items → AreUncalled flights before.idle
            → slice_get b.idle n ≡ Some true → CanPass c mid.tree flights s
        may_pass numbered uncalled flag =
            let number : s.number ≡ n = numbered n s stands_still in
            let said = h.still n (omega arith) flag in
            record {
              mail = no_mail s.number flights
                  (λ j f here to. uncalled n j f said here (to ∙ number));
              idle = subst (λ (t : Tree). NoneFires c (bare t) s) (sym h.tree) (h.idle n s flag at);
            }

        pub one_through : (new : Parts) (a : Beside) → HasTurned c quota flights n s mid b new a
            → AreThrough c quota flights old before (n + 1) new a
        one_through new a turn =
            let w = turn.work in
            let slot : Slot = record { site = turn.site; work = Some w } in
            let rest = next.0 in
            let worked : IsWorked c old.tree quota flights s w turn.site =
            subst (λ (t : Tree). IsWorked c t quota flights s w turn.site) h.tree turn.worked in
            record {
              turned = h.turned ++ s ∷ [];
              waiting = rest;
              done = h.done ++ slot ∷ [];
              all = h.all ∙ ap (λ xs. h.turned ++ xs) next.1
                  ∙ sym (append_assoc h.turned (s ∷ []) rest);
              many = omega (arith, length-append h.turned (s ∷ []), h.many);
              served = subst (λ (ss : List Slot).
                  Pairwise (IsServed c old.tree flights quota) ss (h.done ++ slot ∷ []))
                  (sym (slots_more h.turned s))
                  (one_behind (IsServed c old.tree flights quota) (map slot_of h.turned) h.done
                  (slot_of s) slot h.served worked);
              worked = Each-append HasWork h.done (slot ∷ []) h.worked ((w, refl), tt);
              version = turn.version ∙ h.version;
              sites = turn.sites ∙ ap (λ ss. slice_set ss n turn.site) h.sites
                  ∙ ap (λ ss. slice_set (sites_of h.done ++ ss) n turn.site) next.1
                  ∙ set_at (sites_of h.done) rest n s turn.site done_many
                  ∙ sym (append_assoc (sites_of h.done) (turn.site ∷ []) rest)
                  ∙ ap (λ ss. ss ++ rest) (sym (sites_join h.done (slot ∷ [])));
              tree = turn.tree ∙ h.tree;
              trace = turn.trace ∙ ap (λ xs. xs ++ w.made.outs) h.trace
                  ∙ append_assoc (joined old.trace.items) (outs_of h.done) w.made.outs
                  ∙ ap (λ xs. joined old.trace.items ++ (outs_of h.done ++ xs))
                  (sym (append_nil w.made.outs))
                  ∙ ap (λ xs. joined old.trace.items ++ xs) (sym (outs_join h.done (slot ∷ [])));
              flights = turn.flights ∙ ap (λ xs. xs ++ (w.on ++ w.made.sends)) h.flights
                  ∙ append_assoc old.flights.items (flights_of h.done) (w.on ++ w.made.sends)
                  ∙ ap (λ xs. old.flights.items ++ (flights_of h.done ++ xs))
                  (sym (append_nil (w.on ++ w.made.sends)))
                  ∙ ap (λ xs. old.flights.items ++ xs) (sym (flights_join h.done (slot ∷ [])));
              count = omega (
                arith,
                turn.count,
                h.count,
                ap length (flights_join h.done (slot ∷ [])),
                length-append (flights_of h.done) (flights_of (slot ∷ [])),
                length-append (w.on ++ w.made.sends) [],
              );
              few = λ low. turn.few (h.few low);
              events = turn.events ∙ ap (λ xs. xs ++ w.made.events) h.events
                  ∙ append_assoc before.events (events_of h.done) w.made.events
                  ∙ ap (λ xs. before.events ++ (events_of h.done ++ xs))
                  (sym (append_nil w.made.events))
                  ∙ ap (λ xs. before.events ++ xs) (sym (events_join h.done (slot ∷ [])));
              sent = turn.sent ∙ ap (λ xs. xs ++ mine w turn.site) h.sent
                  ∙ append_assoc before.froms (froms_of h.done) (mine w turn.site)
                  ∙ ap (λ xs. before.froms ++ (froms_of h.done ++ xs))
                  (sym (append_nil (mine w turn.site)))
                  ∙ ap (λ xs. before.froms ++ xs) (sym (froms_join h.done (slot ∷ [])));
              idle = subst (λ (ss : List Site). AreIdle c (bare old.tree) ss a.idle)
                  (sym turn.sites)
                  (subst (λ (bs : List Bool).
                  AreIdle c (bare old.tree) (slice_set mid.sites.items n turn.site) bs)
                  (sym turn.idle)
                  (idle_set c (bare old.tree) mid.sites.items b.idle n turn.site w.idle h.idle
                  worked.idle));
              long = ap length turn.idle ∙ set_length b.idle n w.idle ∙ h.long;
              still = λ i from flag. h.still i (omega (arith, from))
                  (sym
                  (get_set_other b.idle n i w.idle (λ same. absurd (omega (arith, from, same))))
                  ∙ ap (λ bs. slice_get bs i) (sym turn.idle) ∙ flag);
            }
          where
            mine : Work → Site → List ℕ
            mine w u = replicate (length (w.on ++ w.made.sends)) u.number

  -- all of them
  module _ (new : Parts) (a : Beside)
      (h : AreThrough c quota flights old before (length old.sites.items) new a) where
    none_waits : h.waiting ≡ []
    none_waits = none_behind h.turned h.waiting old.sites.items h.all h.many

    pub all_served : Pairwise (IsServed c old.tree flights quota) (map slot_of old.sites.items)
        h.done
    all_served = subst
        (λ (ss : List Site). Pairwise (IsServed c old.tree flights quota) (map slot_of ss) h.done)
        (sym (h.all ∙ ap (λ xs. h.turned ++ xs) none_waits ∙ append_nil h.turned)) h.served

    pub all_sites : new.sites.items ≡ sites_of h.done
    all_sites = h.sites ∙ ap (λ xs. sites_of h.done ++ xs) none_waits ∙ append_nil (sites_of h.done)

-- ---- a round

-- the turns of all sites, where nothing else is under way any more
module _ (c : CodeParts) (quota : ℕ) (old start new : Parts) (coming : List Flight)
    (before after : Beside)
    (h : AreThrough c quota coming start before (length start.sites.items) new after)
    (mail : coming ≡ old.flights.items) (version : start.version ≡ old.version)
    (sites : start.sites.items ≡ old.sites.items) (tree : start.tree ≡ old.tree)
    (trace : start.trace.items ≡ old.trace.items) (flights : start.flights.items ≡ [])
    (count : start.under_way ≡ 0) (events : before.events ≡ []) (froms : before.froms ≡ []) where
  served : Pairwise (IsServed c old.tree old.flights.items quota) (map slot_of old.sites.items)
      h.done
  served =
      subst (λ (fs : List Flight).
      Pairwise (IsServed c old.tree fs quota) (map slot_of old.sites.items) h.done) mail
      (subst (λ (t : Tree).
      Pairwise (IsServed c t coming quota) (map slot_of old.sites.items) h.done) tree
      (subst (λ (ss : List Site).
      Pairwise (IsServed c start.tree coming quota) (map slot_of ss) h.done) sites
      (all_served c quota coming start before new after h)))

  version_is : new.version ≡ old.version
  version_is = h.version ∙ version

  sites_are : new.sites.items ≡ sites_of h.done
  sites_are = all_sites c quota coming start before new after h

  tree_is : bare new.tree ≡ bare old.tree
  tree_is = ap bare (h.tree ∙ tree)

  trace_is : joined new.trace.items ≡ joined old.trace.items ++ outs_of h.done
  trace_is = h.trace ∙ ap (λ ps. joined ps ++ outs_of h.done) trace

  flights_are : new.flights.items ≡ flights_of h.done
  flights_are = h.flights ∙ ap (λ fs. fs ++ flights_of h.done) flights

  count_is : new.under_way ≡ length (flights_of h.done)
  count_is = omega (arith, h.count, count)

  few_fly : new.under_way < 2 ^ 32
  few_fly = h.few (omega (arith, count))

  events_are : after.events ≡ events_of h.done
  events_are = h.events ∙ ap (λ es. es ++ events_of h.done) events

  pub round_made : (k : ℕ) → IsWhole c old k → HasRound c quota old new after.events
  round_made k whole = has_round c old new quota after.events h.done served h.worked version_is
      sites_are tree_is trace_is flights_are count_is few_fly events_are k whole

  pub round_sent : (k : ℕ) → k + quota * length old.sites.items < 2 ^ 32 - 1 → IsWhole c old k
      → (senders : List Run) → spread senders ≡ after.froms → HasSent c quota old new senders
  round_sent k few whole senders sent = has_sent c old new quota after.events h.done served h.worked
      version_is sites_are tree_is trace_is flights_are count_is few_fly events_are k few whole
      senders (sent ∙ h.sent ∙ ap (λ xs. xs ++ froms_of h.done) froms)

  pub round_idle : AreIdle c (bare new.tree) new.sites.items after.idle
  round_idle =
      subst (λ (t : Tree). AreIdle c (bare t) new.sites.items after.idle) (sym h.tree) h.idle
