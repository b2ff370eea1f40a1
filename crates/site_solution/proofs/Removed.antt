-- What a site keeps where a location leaves it.
use Rattle.std.proofs.Common.{◌≡◌, ℕ, suc, ◌+◌, ◌≤◌, Bool, true, false, cond, List, [], ◌∷◌, length}
use Rattle.std.proofs.Common.{refl, sym, ap, subst, arith}
use Rattle.std.specs.Prelude.{not, filter}
use Rattle.chem_model.specs.declared.name.Loc.{Loc}
use Rattle.chem_model.specs.declared.event.AtomId.{AtomId}
use Rattle.chem_model.specs.Solution.{same_loc}
use Rattle.wire_packet.specs.MessageFacts.{MessageParts}
use Rattle.wire_packet.specs.declared.packet.Waiting.{Waiting}
use Rattle.wire_packet.specs.GroupFacts.{RequestParts}
use Rattle.net_laws.specs.Site.{Group, Site}
use Rattle.net_laws.specs.Parcels.{groups_but, stuck_but, requests_but, remove}
use Rattle.net_laws.proofs.Parcels.{removed_kept}
use Rattle.site_shelves.specs.Counted.{over_queues, over_groups, over_stuck, over_requests, is_id}
use Rattle.site_shelves.specs.Counted.{id_of, one_each}
use Rattle.site_solution.specs.Rising.{AllAfter, Rising, AreAsked}
use Rattle.site_solution.specs.inside.Stored.{IsStored}

-- ---- counts

module _ (f : MessageParts → ℕ) where
  over-groups_but : (l : Loc) (gs : List Group) → over_groups f (groups_but l gs) ≤ over_groups f gs
  over-groups_but l [] = omega arith
  over-groups_but l (g ∷ gs) = by_test (same_loc l g.told.inst.loc) (over-groups_but l gs)
    where
      by_test : (b : Bool) → over_groups f (groups_but l gs) ≤ over_groups f gs
          → over_groups f (cond b (groups_but l gs) (g ∷ groups_but l gs))
          ≤ over_queues f g.queues + over_groups f gs
      by_test true rest = omega arith
      by_test false rest = omega arith

  over-stuck_but : (l : Loc) (ws : List Waiting) → over_stuck f (stuck_but l ws) ≤ over_stuck f ws
  over-stuck_but l [] = omega arith
  over-stuck_but l (w ∷ ws) = by_test (same_loc l w.loc) (over-stuck_but l ws)
    where
      by_test : (b : Bool) → over_stuck f (stuck_but l ws) ≤ over_stuck f ws
          → over_stuck f (cond b (stuck_but l ws) (w ∷ stuck_but l ws)) ≤ f w.msg + over_stuck f ws
      by_test true rest = omega arith
      by_test false rest = omega arith

over-requests_but : (i : AtomId) (l : Loc) (qs : List RequestParts)
    → over_requests i (requests_but l qs) ≤ over_requests i qs
over-requests_but i l [] = omega arith
over-requests_but i l (q ∷ qs) = by_test (same_loc l q.loc) (over-requests_but i l qs)
  where
    by_test : (b : Bool) → over_requests i (requests_but l qs) ≤ over_requests i qs
        → over_requests i (cond b (requests_but l qs) (q ∷ requests_but l qs))
        ≤ is_id i q.id + over_requests i qs
    by_test true rest = omega arith
    by_test false rest = omega arith

pub removed-stored : (l : Loc) (s : Site) → IsStored s → IsStored (remove l s)
removed-stored l s h = record {
  kept = removed_kept l s h.kept;
  once = λ i.
      let o = h.once i in
      omega (
        arith,
        over-groups_but (id_of i) l s.groups,
        over-stuck_but (id_of i) l s.stuck,
        over-requests_but i l s.requests,
      );
  few_waiting =
      let few = h.few_waiting in
      omega (arith, over-groups_but one_each l s.groups, over-stuck_but one_each l s.stuck);
}

-- ---- what the code filters

pub requests-kept : (l : Loc) (qs : List RequestParts)
    → filter (λ (q : RequestParts). not (same_loc l q.loc)) qs ≡ requests_but l qs
requests-kept l [] = refl
requests-kept l (q ∷ qs) = by_test (same_loc l q.loc) (requests-kept l qs)
  where
    by_test : (b : Bool)
        → filter (λ (r : RequestParts). not (same_loc l r.loc)) qs ≡ requests_but l qs
        → cond (not b) (q ∷ filter (λ (r : RequestParts). not (same_loc l r.loc)) qs)
        (filter (λ (r : RequestParts). not (same_loc l r.loc)) qs)
        ≡ cond b (requests_but l qs) (q ∷ requests_but l qs)
    by_test true rest = rest
    by_test false rest = ap (λ rs. q ∷ rs) rest

-- ---- requests still rise

after-but : (i : AtomId) (l : Loc) (qs : List RequestParts) → AllAfter i qs
    → AllAfter i (requests_but l qs)
after-but i l [] all = tt
after-but i l (q ∷ qs) all = by_test (same_loc l q.loc) (after-but i l qs all.1)
  where
    by_test : (b : Bool) → AllAfter i (requests_but l qs)
        → AllAfter i (cond b (requests_but l qs) (q ∷ requests_but l qs))
    by_test true rest = rest
    by_test false rest = (all.0, rest)

rising-but : (l : Loc) (qs : List RequestParts) → Rising qs → Rising (requests_but l qs)
rising-but l [] rising = tt
rising-but l (q ∷ qs) rising = by_test (same_loc l q.loc) (rising-but l qs rising.1)
  where
    by_test : (b : Bool) → Rising (requests_but l qs)
        → Rising (cond b (requests_but l qs) (q ∷ requests_but l qs))
    by_test true rest = rest
    by_test false rest = (after-but q.id l qs rising.0, rest)

length-requests_but : (l : Loc) (qs : List RequestParts) → length (requests_but l qs) ≤ length qs
length-requests_but l [] = omega arith
length-requests_but l (q ∷ qs) = by_test (same_loc l q.loc) (length-requests_but l qs)
  where
    by_test : (b : Bool) → length (requests_but l qs) ≤ length qs
        → length (cond b (requests_but l qs) (q ∷ requests_but l qs)) ≤ suc (length qs)
    by_test true rest = omega arith
    by_test false rest = omega arith

pub asked-but : (l : Loc) (qs new : List RequestParts) → new ≡ requests_but l qs → AreAsked qs
    → AreAsked new
asked-but l qs new is asked = subst AreAsked (sym is) (record {
  rising = rising-but l qs asked.rising;
  few = omega (arith, asked.few, length-requests_but l qs);
})
