-- Lists of slots.
use Rattle.std.proofs.Common.{◌≡◌, ℕ, suc, ◌+◌, ◌-◌, ◌<◌, append_assoc, replicate, subst, List, []}
use Rattle.std.proofs.Common.{◌∷◌, ◌++◌, map, length, slice_index_or, Some, refl, ap, sym, ◌∙◌}
use Rattle.std.proofs.Common.{arith, length-append}
use Rattle.std.specs.Prelude.{◌^◌}
use Rattle.std.proofs.lemmas.List.{length-replicate}
use Rattle.chem_model.specs.declared.event.Event.{Event}
use Rattle.chem_laws.proofs.Lists.{Each-append, append_nil}
use Rattle.wire_packet.specs.declared.packet.Flight.{Flight}
use Rattle.net_laws.specs.Site.{Site}
use Rattle.net_core.specs.declared.parts.Parts.{Parts}
use Rattle.net_core.specs.declared.senders.Run.{Run}
use Rattle.net_core.specs.declared.slots.Slot.{Slot}
use Rattle.net_core.specs.declared.turn.Work.{Work}
use Rattle.net_core.specs.Parts.{joined}
use Rattle.net_core.specs.inside.Slots.{Pairwise, slot_of, HasWork, events_in, outs_in, flights_in}
use Rattle.net_core.specs.inside.Slots.{sites_of}
use Rattle.net_core.specs.inside.Slots.{events_of, outs_of, flights_of, froms_of, IsTaken, AreBack}
use Rattle.net_core.specs.inside.Runs.{spread}

module _ {X : Type 0} (R : X → X → Type 0) where
  pub pairwise : (xs ys : List X) → length ys ≡ length xs
      → ((i : ℕ) (d : X) → i < length xs → R (slice_index_or xs i d) (slice_index_or ys i d))
      → Pairwise R xs ys
  pairwise [] [] e h = tt
  pairwise [] (y ∷ ys) e h = absurd (omega arith)
  pairwise (x ∷ xs) [] e h = absurd (omega arith)
  pairwise (x ∷ xs) (y ∷ ys) e h =
      (h 0 x (omega arith), pairwise xs ys (omega arith) (λ i d lt. h (suc i) d (omega arith)))

pub slots_more : (ss : List Site) (s : Site)
    → map slot_of (ss ++ s ∷ []) ≡ map slot_of ss ++ slot_of s ∷ []
slots_more [] s = refl
slots_more (x ∷ ss) s = ap (λ rs. slot_of x ∷ rs) (slots_more ss s)

-- ---- what slots hold, one behind the other

pub sites_join : (ss rs : List Slot) → sites_of (ss ++ rs) ≡ sites_of ss ++ sites_of rs
sites_join [] rs = refl
sites_join (s ∷ ss) rs = ap (λ xs. s.site ∷ xs) (sites_join ss rs)

pub events_join : (ss rs : List Slot) → events_of (ss ++ rs) ≡ events_of ss ++ events_of rs
events_join [] rs = refl
events_join (s ∷ ss) rs = ap (λ xs. events_in s.work ++ xs) (events_join ss rs)
    ∙ sym (append_assoc (events_in s.work) (events_of ss) (events_of rs))

pub outs_join : (ss rs : List Slot) → outs_of (ss ++ rs) ≡ outs_of ss ++ outs_of rs
outs_join [] rs = refl
outs_join (s ∷ ss) rs = ap (λ xs. outs_in s.work ++ xs) (outs_join ss rs)
    ∙ sym (append_assoc (outs_in s.work) (outs_of ss) (outs_of rs))

pub flights_join : (ss rs : List Slot) → flights_of (ss ++ rs) ≡ flights_of ss ++ flights_of rs
flights_join [] rs = refl
flights_join (s ∷ ss) rs = ap (λ xs. flights_in s.work ++ xs) (flights_join ss rs)
    ∙ sym (append_assoc (flights_in s.work) (flights_of ss) (flights_of rs))

pub froms_join : (ss rs : List Slot) → froms_of (ss ++ rs) ≡ froms_of ss ++ froms_of rs
froms_join [] rs = refl
froms_join (s ∷ ss) rs =
    let mine = replicate (length (flights_in s.work)) s.site.number in
    ap (λ xs. mine ++ xs) (froms_join ss rs) ∙ sym (append_assoc mine (froms_of ss) (froms_of rs))

pub froms_many : (ss : List Slot) → length (froms_of ss) ≡ length (flights_of ss)
froms_many [] = refl
froms_many (s ∷ ss) =
    let n = length (flights_in s.work) in
    omega (
      arith,
      froms_many ss,
      length-append (replicate n s.site.number) (froms_of ss),
      length-replicate n s.site.number,
      length-append (flights_in s.work) (flights_of ss),
    )

-- one slot more is taken back, and what it leaves is from its site
pub more_sent : (ss : List Slot) (s : Slot) (old mid new : List Run)
    → spread mid ≡ spread old ++ froms_of ss → spread new ≡ spread mid ++ froms_of (s ∷ [])
    → spread new ≡ spread old ++ froms_of (ss ++ s ∷ [])
more_sent ss s old mid new a b =
    b ∙ ap (λ xs. xs ++ froms_of (s ∷ [])) a
    ∙ append_assoc (spread old) (froms_of ss) (froms_of (s ∷ []))
    ∙ ap (λ xs. spread old ++ xs) (sym (froms_join ss (s ∷ [])))

pub one_sent : (s : Slot) (was old new count : ℕ) (before after : List ℕ) → was ≡ old
    → new ≡ old + length (flights_of (s ∷ [])) → count ≡ new - was
    → after ≡ before ++ replicate count s.site.number → after ≡ before ++ froms_of (s ∷ [])
one_sent s was old new count before after at more is sent =
    let n = length (flights_in s.work) in
    let long : count ≡ n = omega (arith, length-append (flights_in s.work) []) in
    sent ∙ ap (λ (k : ℕ). before ++ replicate k s.site.number) long
    ∙ ap (λ xs. before ++ xs) (sym (append_nil (replicate n s.site.number)))

-- ---- taken back one after another

pub more_back : (ss rs : List Slot) (old mid new : Parts) (es fs gs : List Event)
    → AreBack ss old es mid fs → AreBack rs mid fs new gs → AreBack (ss ++ rs) old es new gs
more_back ss rs old mid new es fs gs a b = record {
  worked = Each-append HasWork ss rs a.worked b.worked;
  version = b.version ∙ a.version;
  sites = b.sites ∙ ap (λ xs. xs ++ sites_of rs) a.sites
      ∙ append_assoc old.sites.items (sites_of ss) (sites_of rs)
      ∙ ap (λ xs. old.sites.items ++ xs) (sym (sites_join ss rs));
  tree = b.tree ∙ a.tree;
  trace = b.trace ∙ ap (λ xs. xs ++ outs_of rs) a.trace
      ∙ append_assoc (joined old.trace.items) (outs_of ss) (outs_of rs)
      ∙ ap (λ xs. joined old.trace.items ++ xs) (sym (outs_join ss rs));
  flights = b.flights ∙ ap (λ xs. xs ++ flights_of rs) a.flights
      ∙ append_assoc old.flights.items (flights_of ss) (flights_of rs)
      ∙ ap (λ xs. old.flights.items ++ xs) (sym (flights_join ss rs));
  count = omega (
    arith,
    a.count,
    b.count,
    ap length (flights_join ss rs),
    length-append (flights_of ss) (flights_of rs),
  );
  few = λ low. b.few (a.few low);
  events = b.events ∙ ap (λ xs. xs ++ events_of rs) a.events
      ∙ append_assoc es (events_of ss) (events_of rs)
      ∙ ap (λ xs. es ++ xs) (sym (events_join ss rs));
}

-- of one slot with the work of its turn
pub taken_back : (s : Slot) (w : Work) → s.work ≡ Some w
    → (old mid new : Parts) (es fs : List Event) → mid.version ≡ old.version
    → mid.sites.items ≡ old.sites.items ++ s.site ∷ [] → mid.tree ≡ old.tree → mid.trace ≡ old.trace
    → mid.flights ≡ old.flights → mid.under_way ≡ old.under_way → IsTaken w mid es new fs
    → AreBack (s ∷ []) old es new fs
taken_back s w is old mid new es fs version sites tree trace flights under t =
    let outs_are : outs_of (s ∷ []) ≡ w.made.outs =
    ap (λ o. outs_in o ++ []) is ∙ append_nil w.made.outs in
    let flights_are : flights_of (s ∷ []) ≡ w.on ++ w.made.sends =
    ap (λ o. flights_in o ++ []) is ∙ append_nil (w.on ++ w.made.sends) in
    let events_are : events_of (s ∷ []) ≡ w.made.events =
    ap (λ o. events_in o ++ []) is ∙ append_nil w.made.events in
    let few : old.under_way < 2 ^ 32 → new.under_way < 2 ^ 32 =
    subst (λ (n : ℕ). n < 2 ^ 32 → new.under_way < 2 ^ 32) under t.few in
    record {
      worked = ((w, is), tt);
      version = t.version ∙ version;
      sites = t.sites ∙ sites;
      tree = t.tree ∙ tree;
      trace = t.trace ∙ ap (λ v. joined v.items ++ w.made.outs) trace
          ∙ ap (λ xs. joined old.trace.items ++ xs) (sym outs_are);
      flights = t.flights ∙ ap (λ v. v.items ++ (w.on ++ w.made.sends)) flights
          ∙ ap (λ xs. old.flights.items ++ xs) (sym flights_are);
      count = t.count ∙ ap (λ n. n + length (w.on ++ w.made.sends)) under
          ∙ ap (λ (xs : List Flight). old.under_way + length xs) (sym flights_are);
      few = few;
      events = t.events ∙ ap (λ xs. es ++ xs) (sym events_are);
    }

-- both lists of packets that a turn leaves
pub both_sent : (on sends olds mids news : List Flight) → mids ≡ olds ++ on → news ≡ mids ++ sends
    → news ≡ olds ++ (on ++ sends)
both_sent on sends olds mids news a b = b ∙ ap (λ xs. xs ++ sends) a ∙ append_assoc olds on sends

pub both_counted : (on sends : List Flight) (old mid new : ℕ) → mid ≡ old + length on
    → new ≡ mid + length sends → new ≡ old + length (on ++ sends)
both_counted on sends old mid new a b = omega (arith, a, b, length-append on sends)
