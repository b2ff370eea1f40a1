-- Lists of requests and parcels with one request less.
use Rattle.std.proofs.Common.{◌≡◌, ℕ, zero, suc, ◌+◌, ◌≤◌, Bool, true, false, cond, List, [], ◌∷◌}
use Rattle.std.proofs.Common.{◌++◌, length, take, drop, refl, ap, arith}
use Rattle.chem_model.specs.declared.event.AtomId.{AtomId}
use Rattle.chem_model.specs.Apply.{same_atom}
use Rattle.chem_model.specs.Each.{Each}
use Rattle.wire_packet.specs.ParcelFacts.{ParcelParts, IsParcel, EachPair, Precedes, waiting_ids}
use Rattle.wire_packet.specs.ParcelFacts.{request_ids}
use Rattle.wire_packet.specs.GroupFacts.{RequestParts}
use Rattle.net_laws.specs.Holding.{without_request}

-- ---- the walk over a list

pub at_end : (i : AtomId) (rs : List RequestParts) (k : ℕ) → length rs ≤ k
    → take k rs ++ without_request i (drop k rs) ≡ rs
at_end i [] zero past = refl
at_end i [] (suc k) past = refl
at_end i (x ∷ rs) zero past = absurd (omega arith)
at_end i (x ∷ rs) (suc k) past =
    ap (λ (ys : List RequestParts). x ∷ ys) (at_end i rs k (omega arith))

pub all_of : (rs : List RequestParts) (k : ℕ) → length rs ≤ k → take k rs ++ drop (k + 1) rs ≡ rs
all_of [] zero past = refl
all_of [] (suc k) past = let n : suc k + 1 ≡ suc (k + 1) = omega arith in rw n refl
all_of (x ∷ rs) zero past = absurd (omega arith)
all_of (x ∷ rs) (suc k) past =
    let n : suc k + 1 ≡ suc (k + 1) = omega arith in
    rw n (ap (λ (ys : List RequestParts). x ∷ ys) (all_of rs k (omega arith)))

-- ---- what a parcel keeps

fewer : (i : AtomId) (rs : List RequestParts) → length (without_request i rs) ≤ length rs
fewer i [] = omega arith
fewer i (x ∷ rs) = go (same_atom x.id i) (fewer i rs)
  where
    go : (b : Bool) → length (without_request i rs) ≤ length rs
        → length (cond b rs (x ∷ without_request i rs)) ≤ length (x ∷ rs)
    go true h = omega arith
    go false h = omega arith

each_less : (P : RequestParts → Type 0) (i : AtomId) (rs : List RequestParts) → Each P rs
    → Each P (without_request i rs)
each_less P i [] h = tt
each_less P i (x ∷ rs) h = go (same_atom x.id i) (each_less P i rs h.1)
  where
    go : (b : Bool) → Each P (without_request i rs) → Each P (cond b rs (x ∷ without_request i rs))
    go true rest = h.1
    go false rest = (h.0, rest)

ids_less : (P : AtomId → Type 0) (i : AtomId) (rs : List RequestParts) → Each P (request_ids rs)
    → Each P (request_ids (without_request i rs))
ids_less P i [] h = tt
ids_less P i (x ∷ rs) h = go (same_atom x.id i) (ids_less P i rs h.1)
  where
    go : (b : Bool) → Each P (request_ids (without_request i rs))
        → Each P (request_ids (cond b rs (x ∷ without_request i rs)))
    go true rest = h.1
    go false rest = (h.0, rest)

behind_less : (P : AtomId → Type 0) (i : AtomId) (front : List AtomId) (rs : List RequestParts)
    → Each P (front ++ request_ids rs) → Each P (front ++ request_ids (without_request i rs))
behind_less P i [] rs h = ids_less P i rs h
behind_less P i (a ∷ front) rs h = (h.0, behind_less P i front rs h.1)

pairs_less : (R : AtomId → AtomId → Type 0) (i : AtomId) (rs : List RequestParts)
    → EachPair R (request_ids rs) → EachPair R (request_ids (without_request i rs))
pairs_less R i [] h = tt
pairs_less R i (x ∷ rs) h =
    go (same_atom x.id i) (pairs_less R i rs h.1) (ids_less (R x.id) i rs h.0)
  where
    go : (b : Bool) → EachPair R (request_ids (without_request i rs))
        → Each (R x.id) (request_ids (without_request i rs))
        → EachPair R (request_ids (cond b rs (x ∷ without_request i rs)))
    go true rest first = h.1
    go false rest first = (first, rest)

pairs_behind :
    (R : AtomId → AtomId → Type 0) (i : AtomId) (front : List AtomId) (rs : List RequestParts)
    → EachPair R (front ++ request_ids rs)
    → EachPair R (front ++ request_ids (without_request i rs))
pairs_behind R i [] rs h = pairs_less R i rs h
pairs_behind R i (a ∷ front) rs h =
    (behind_less (R a) i front rs h.0, pairs_behind R i front rs h.1)

pub parcel_less : (i : AtomId) (p : ParcelParts) → IsParcel p
    → IsParcel (record p { requests = without_request i p.requests })
parcel_less i p h = record {
  groups_here = h.groups_here;
  waiting_here = h.waiting_here;
  waiting_at_home = h.waiting_at_home;
  requests_here = each_less (λ r. r.loc ≡ p.loc) i p.requests h.requests_here;
  different =
      pairs_behind (λ one other. one ≡ other → ⊥) i (waiting_ids p.waiting) p.requests h.different;
  rising = pairs_less Precedes i p.requests h.rising;
  few_groups = h.few_groups;
  few_waiting = h.few_waiting;
  few_requests = omega (arith, fewer i p.requests, h.few_requests);
  few_names = h.few_names;
}
