-- What is packed at a location is a parcel.
use Rattle.std.proofs.Common.{◌≡◌, ◌≢◌, ℕ, suc, ◌+◌, ◌<◌, ◌≤◌, ◌^◌, Bool, true, false, cond, List}
use Rattle.std.proofs.Common.{[], ◌∷◌, ◌++◌, length, refl, sym, ap, subst, ◌∙◌, inl, inr, arith}
use Rattle.std.proofs.Common.{eqb-true}
use Rattle.std.specs.Prelude.{nat_lt, ◌==◌, ◌&&◌, ◌||◌}
use Rattle.std.proofs.lemmas.Bool.{and_parts}
use Rattle.std.proofs.lemmas.Bool.Decides.{nat_tests}
use Rattle.chem_model.specs.declared.name.Loc.{Loc}
use Rattle.chem_model.specs.declared.name.Name.{Name}
use Rattle.chem_model.specs.declared.name.Name.TheVariants as name
use Rattle.chem_model.specs.declared.event.AtomId.{AtomId}
use Rattle.chem_model.specs.Apply.{same_atom}
use Rattle.chem_model.specs.Each.{Each}
use Rattle.chem_model.specs.Solution.{same_loc}
use Rattle.chem_laws.proofs.Lists.{Each-append, Each-weaker}
use Rattle.chem_laws.proofs.Within.{same_loc_is}
use Rattle.wire_packet.specs.MessageFacts.{MessageParts}
use Rattle.wire_packet.specs.GroupFacts.{GroupParts, RequestParts}
use Rattle.wire_packet.specs.declared.packet.Waiting.{Waiting}
use Rattle.wire_packet.specs.ParcelFacts.{EachPair, Precedes, waiting_ids, request_ids, IsAtHome}
use Rattle.wire_packet.specs.ParcelFacts.{IsParcel}
use Rattle.net_laws.specs.Site.{Group, told_in, Site}
use Rattle.net_laws.specs.Net.{home_or}
use Rattle.net_laws.specs.Changes.{IsQueued, AreQueues}
use Rattle.net_laws.specs.Kept.{IsKept}
use Rattle.net_laws.specs.Holding.{precedes}
use Rattle.net_laws.specs.Parcels.{groups_at, stuck_at, requests_at, in_queue, in_queues}
use Rattle.net_laws.specs.Parcels.{in_all_queues, insts_in, pack, parcel_of}
use Rattle.site_shelves.specs.Counted.{over_queue, over_queues, over_groups, over_stuck}
use Rattle.site_shelves.specs.Counted.{over_requests, is_id, id_of, times}
use Rattle.site_solution.specs.Rising.{AllAfter, Rising, AreAsked}
use Rattle.site_shelves.specs.inside.Packed.{HasFewNames}

-- ---- how often something is counted among what is packed

module _ (f : MessageParts → ℕ) where
  pub over_stuck-append : (vs ws : List Waiting)
      → over_stuck f (vs ++ ws) ≡ over_stuck f vs + over_stuck f ws
  over_stuck-append [] ws = omega arith
  over_stuck-append (v ∷ vs) ws = omega (arith, over_stuck-append vs ws)

  over-in_queue : (l : Loc) (q : List MessageParts) → over_stuck f (in_queue l q) ≡ over_queue f q
  over-in_queue l [] = refl
  over-in_queue l (m ∷ ms) = omega (arith, over-in_queue l ms)

  over-in_queues : (l : Loc) (qs : List (List MessageParts))
      → over_stuck f (in_queues l qs) ≡ over_queues f qs
  over-in_queues l [] = refl
  over-in_queues l (q ∷ qs) = omega (
    arith,
    over_stuck-append (in_queue l q) (in_queues l qs),
    over-in_queue l q,
    over-in_queues l qs,
  )

  over-in_all : (gs : List Group) → over_stuck f (in_all_queues gs) ≡ over_groups f gs
  over-in_all [] = refl
  over-in_all (g ∷ gs) = omega (
    arith,
    over_stuck-append (in_queues g.told.inst.loc g.queues) (in_all_queues gs),
    over-in_queues g.told.inst.loc g.queues,
    over-in_all gs,
  )

  over-groups_at : (l : Loc) (gs : List Group) → over_groups f (groups_at l gs) ≤ over_groups f gs
  over-groups_at l [] = omega arith
  over-groups_at l (g ∷ gs) = by_test (same_loc l g.told.inst.loc) (over-groups_at l gs)
    where
      by_test : (b : Bool) → over_groups f (groups_at l gs) ≤ over_groups f gs
          → over_groups f (cond b (g ∷ groups_at l gs) (groups_at l gs))
          ≤ over_queues f g.queues + over_groups f gs
      by_test true rest = omega arith
      by_test false rest = omega arith

  over-stuck_at : (l : Loc) (ws : List Waiting) → over_stuck f (stuck_at l ws) ≤ over_stuck f ws
  over-stuck_at l [] = omega arith
  over-stuck_at l (w ∷ ws) = by_test (same_loc l w.loc) (over-stuck_at l ws)
    where
      by_test : (b : Bool) → over_stuck f (stuck_at l ws) ≤ over_stuck f ws
          → over_stuck f (cond b (w ∷ stuck_at l ws) (stuck_at l ws)) ≤ f w.msg + over_stuck f ws
      by_test true rest = omega arith
      by_test false rest = omega arith

over-requests_at : (i : AtomId) (l : Loc) (qs : List RequestParts)
    → over_requests i (requests_at l qs) ≤ over_requests i qs
over-requests_at i l [] = omega arith
over-requests_at i l (q ∷ qs) = by_test (same_loc l q.loc) (over-requests_at i l qs)
  where
    by_test : (b : Bool) → over_requests i (requests_at l qs) ≤ over_requests i qs
        → over_requests i (cond b (q ∷ requests_at l qs) (requests_at l qs))
        ≤ is_id i q.id + over_requests i qs
    by_test true rest = omega arith
    by_test false rest = omega arith

-- no id occurs among it more often than at the site
pub packed-times : (i : AtomId) (l : Loc) (s : Site)
    → over_stuck (id_of i) (pack l s).waiting + over_requests i (pack l s).requests ≤ times i s
packed-times i l s = omega (
  arith,
  over_stuck-append (id_of i) (in_all_queues (groups_at l s.groups)) (stuck_at l s.stuck),
  over-in_all (id_of i) (groups_at l s.groups),
  over-groups_at (id_of i) l s.groups,
  over-stuck_at (id_of i) l s.stuck,
  over-requests_at i l s.requests,
)

-- ---- ids that occur once are different

abbrev pub occurs : AtomId → List AtomId → ℕ
occurs i [] = 0
occurs i (j ∷ js) = is_id i j + occurs i js

same_self : (i : AtomId) → same_atom i i ≡ true
same_self i = grind (arith, nat_tests)

occurs-self : (i : AtomId) → is_id i i ≡ 1
occurs-self i = ap (λ b. cond {A = ℕ} b 1 0) (same_self i)

none-same : (i : AtomId) (js : List AtomId) → occurs i js ≡ 0 → Each (λ j. i ≢ j) js
none-same i [] none = tt
none-same i (j ∷ js) none = (
  λ same. let one : is_id i j ≡ 1 = ap (is_id i) (sym same) ∙ occurs-self i in absurd (omega arith),
  none-same i js (omega arith),
)

all-differ : (js : List AtomId) → ((i : AtomId) → occurs i js ≤ 1)
    → EachPair (λ one other. one ≢ other) js
all-differ [] once = tt
all-differ (j ∷ js) once = (
  none-same j js (let o = once j in let s = occurs-self j in omega arith),
  all-differ js (λ i. let o = once i in omega arith),
)

occurs-requests : (i : AtomId) (qs : List RequestParts)
    → occurs i (request_ids qs) ≡ over_requests i qs
occurs-requests i [] = refl
occurs-requests i (q ∷ qs) = ap (λ n. is_id i q.id + n) (occurs-requests i qs)

occurs-all : (i : AtomId) (ws : List Waiting) (qs : List RequestParts)
    → occurs i (waiting_ids ws ++ request_ids qs) ≡ over_stuck (id_of i) ws + over_requests i qs
occurs-all i [] qs = occurs-requests i qs ∙ (omega arith)
occurs-all i (w ∷ ws) qs = omega (arith, occurs-all i ws qs)

-- ---- requests rise

lt-of : (m n : ℕ) → nat_lt m n ≡ true → m < n
lt-of m n less = grind (arith, nat_tests)

precedes-is : (a b : AtomId) → precedes a b ≡ true → Precedes a b
precedes-is a b before = by_site (nat_lt a.site b.site) refl before
  where
    by_site : (t : Bool) → nat_lt a.site b.site ≡ t
        → t || ((a.site == b.site) && nat_lt a.k b.k) ≡ true → Precedes a b
    by_site true less e = inl (lt-of a.site b.site less)
    by_site false not_less e =
        let parts = and_parts (a.site == b.site) (nat_lt a.k b.k) e in
        inr (eqb-true a.site b.site parts.0, lt-of a.k b.k parts.1)

after-left : (i : AtomId) (l : Loc) (qs : List RequestParts) → AllAfter i qs
    → Each (Precedes i) (request_ids (requests_at l qs))
after-left i l [] all = tt
after-left i l (q ∷ qs) all = by_test (same_loc l q.loc) (after-left i l qs all.1)
  where
    by_test : (b : Bool) → Each (Precedes i) (request_ids (requests_at l qs))
        → Each (Precedes i) (request_ids (cond b (q ∷ requests_at l qs) (requests_at l qs)))
    by_test true rest = (precedes-is i q.id all.0, rest)
    by_test false rest = rest

rising-left : (l : Loc) (qs : List RequestParts) → Rising qs
    → EachPair Precedes (request_ids (requests_at l qs))
rising-left l [] rising = tt
rising-left l (q ∷ qs) rising = by_test (same_loc l q.loc) (rising-left l qs rising.1)
  where
    by_test : (b : Bool) → EachPair Precedes (request_ids (requests_at l qs))
        → EachPair Precedes (request_ids (cond b (q ∷ requests_at l qs) (requests_at l qs)))
    by_test true rest = (after-left q.id l qs rising.0, rest)
    by_test false rest = rest

-- ---- all of it stands at the location

at-home : (l : Loc) (n : Name) → home_or l n ≡ l → IsAtHome l n
at-home l (name.Seen i) home = tt
at-home l (name.Place a) home = tt
at-home l (name.Chan s k h) home = home
at-home l (name.Num n) home = tt
at-home l (name.Op i) home = tt

-- it stands at the location, and a message on a channel at its home
abbrev pub StandsAt : Loc → Waiting → Type 0
StandsAt l w = (w.loc ≡ l) × IsAtHome l w.msg.on

queue-stands : (l : Loc) (i : GroupParts) (c n : ℕ) (q : List MessageParts) → i.loc ≡ l
    → Each (IsQueued i c n) q → Each (StandsAt l) (in_queue i.loc q)
queue-stands l i c n [] at all = tt
queue-stands l i c n (m ∷ ms) at all =
    ((at, subst (IsAtHome l) (sym all.0.0) at), queue-stands l i c n ms at all.1)

queues-stand : (l : Loc) (i : GroupParts) (c : ℕ) (ns : List ℕ) (qs : List (List MessageParts))
    → i.loc ≡ l → AreQueues i c ns qs → Each (StandsAt l) (in_queues i.loc qs)
queues-stand l i c [] [] at are = tt
queues-stand l i c [] (q ∷ qs) at are = absurd are
queues-stand l i c (n ∷ ns) [] at are = absurd are
queues-stand l i c (n ∷ ns) (q ∷ qs) at are = Each-append (StandsAt l) (in_queue i.loc q)
    (in_queues i.loc qs) (queue-stands l i c n q at are.0) (queues-stand l i (c + 1) ns qs at are.1)

groups-stand : (l : Loc) (gs : List Group)
    → Each (λ (g : Group). AreQueues g.told.inst 0 g.told.counts g.queues) gs
    → Each (StandsAt l) (in_all_queues (groups_at l gs))
groups-stand l [] are = tt
groups-stand l (g ∷ gs) are = by_test (same_loc l g.told.inst.loc) refl (groups-stand l gs are.1)
  where
    by_test : (b : Bool) → same_loc l g.told.inst.loc ≡ b
        → Each (StandsAt l) (in_all_queues (groups_at l gs))
        → Each (StandsAt l) (in_all_queues (cond b (g ∷ groups_at l gs) (groups_at l gs)))
    by_test true here rest = Each-append (StandsAt l) (in_queues g.told.inst.loc g.queues)
        (in_all_queues (groups_at l gs)) (queues-stand l g.told.inst 0
        g.told.counts g.queues (sym (same_loc_is l g.told.inst.loc here)) are.0) rest
    by_test false here rest = rest

stuck-stands : (l : Loc) (ws : List Waiting)
    → Each (λ (w : Waiting). home_or w.loc w.msg.on ≡ w.loc) ws → Each (StandsAt l) (stuck_at l ws)
stuck-stands l [] home = tt
stuck-stands l (w ∷ ws) home = by_test (same_loc l w.loc) refl (stuck-stands l ws home.1)
  where
    by_test : (b : Bool) → same_loc l w.loc ≡ b → Each (StandsAt l) (stuck_at l ws)
        → Each (StandsAt l) (cond b (w ∷ stuck_at l ws) (stuck_at l ws))
    by_test true here rest =
        let at : l ≡ w.loc = same_loc_is l w.loc here in
        ((sym at, at-home l w.msg.on (subst (λ k. home_or k w.msg.on ≡ k) (sym at) home.0)), rest)
    by_test false here rest = rest

insts-stand : (l : Loc) (gs : List Group)
    → Each (λ (i : GroupParts). i.loc ≡ l) (insts_in (told_in (groups_at l gs)))
insts-stand l [] = tt
insts-stand l (g ∷ gs) = by_test (same_loc l g.told.inst.loc) refl (insts-stand l gs)
  where
    by_test : (b : Bool) → same_loc l g.told.inst.loc ≡ b
        → Each (λ (i : GroupParts). i.loc ≡ l) (insts_in (told_in (groups_at l gs)))
        → Each (λ (i : GroupParts). i.loc ≡ l)
        (insts_in (told_in (cond b (g ∷ groups_at l gs) (groups_at l gs))))
    by_test true here rest = (sym (same_loc_is l g.told.inst.loc here), rest)
    by_test false here rest = rest

requests-stand : (l : Loc) (qs : List RequestParts)
    → Each (λ (q : RequestParts). q.loc ≡ l) (requests_at l qs)
requests-stand l [] = tt
requests-stand l (q ∷ qs) = by_test (same_loc l q.loc) refl (requests-stand l qs)
  where
    by_test : (b : Bool) → same_loc l q.loc ≡ b
        → Each (λ (r : RequestParts). r.loc ≡ l) (requests_at l qs)
        → Each (λ (r : RequestParts). r.loc ≡ l) (cond b (q ∷ requests_at l qs) (requests_at l qs))
    by_test true here rest = (sym (same_loc_is l q.loc here), rest)
    by_test false here rest = rest

-- lists that fit
pub record AreFew (l : Loc) (s : Site) : Type 0 where
  pub groups : length (insts_in (told_in (groups_at l s.groups))) < 2 ^ 32
  pub waiting : length (in_all_queues (groups_at l s.groups) ++ stuck_at l s.stuck) < 2 ^ 32
  pub names : Each HasFewNames (insts_in (told_in (groups_at l s.groups)))

length-requests_at : (l : Loc) (qs : List RequestParts) → length (requests_at l qs) ≤ length qs
length-requests_at l [] = omega arith
length-requests_at l (q ∷ qs) = by_test (same_loc l q.loc) (length-requests_at l qs)
  where
    by_test : (b : Bool) → length (requests_at l qs) ≤ length qs
        → length (cond b (q ∷ requests_at l qs) (requests_at l qs)) ≤ suc (length qs)
    by_test true rest = omega arith
    by_test false rest = omega arith

pub packed-parcel : (l : Loc) (s : Site) → IsKept s → AreAsked s.requests
    → ((i : AtomId) → times i s ≤ 1) → AreFew l s → IsParcel (parcel_of (pack l s))
packed-parcel l s kept asked once few =
    let stands : Each (StandsAt l) (in_all_queues (groups_at l s.groups) ++ stuck_at l s.stuck) =
    Each-append (StandsAt l) (in_all_queues (groups_at l s.groups)) (stuck_at l s.stuck)
    (groups-stand l s.groups kept.queues) (stuck-stands l s.stuck kept.stuck_home) in
    record {
      groups_here = insts-stand l s.groups;
      waiting_here = Each-weaker (StandsAt l) (λ (w : Waiting). w.loc ≡ l) (λ w h. h.0)
          (pack l s).waiting stands;
      waiting_at_home = Each-weaker (StandsAt l) (λ (w : Waiting). IsAtHome l w.msg.on) (λ w h. h.1)
          (pack l s).waiting stands;
      requests_here = requests-stand l s.requests;
      different = all-differ (waiting_ids (pack l s).waiting ++ request_ids (pack l s).requests)
          (λ i. let o = once i in
          omega (arith, occurs-all i (pack l s).waiting (pack l s).requests, packed-times i l s));
      rising = rising-left l s.requests asked.rising;
      few_groups = few.groups;
      few_waiting = few.waiting;
      few_requests = omega (arith, asked.few, length-requests_at l s.requests);
      few_names = few.names;
    }
