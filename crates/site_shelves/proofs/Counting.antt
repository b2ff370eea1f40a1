-- Sums over what waits, and how often ids occur, after each change of a site.
use Rattle.std.proofs.Common.{◌≡◌, ℕ, zero, suc, ◌+◌, ◌≤◌, List, [], ◌∷◌, ◌++◌, Option, Some, None}
use Rattle.std.proofs.Common.{Bool, true, false, cond, refl, sym, ap, ◌∙◌, arith}
use Rattle.std.specs.Prelude.{slice_get, slice_set, is_some, ◌||◌}
use Rattle.std.specs.List.{list_any}
use Rattle.chem_model.specs.declared.name.Loc.{Loc}
use Rattle.chem_model.specs.declared.event.AtomId.{AtomId}
use Rattle.chem_model.specs.Apply.{same_atom}
use Rattle.wire_packet.specs.MessageFacts.{MessageParts}
use Rattle.wire_packet.specs.GroupFacts.{GroupParts, RequestParts}
use Rattle.wire_packet.specs.declared.packet.Waiting.{Waiting}
use Rattle.net_laws.specs.Site.{Told, Group, Site}
use Rattle.net_laws.specs.Posting.{with_queues}
use Rattle.net_laws.specs.Holding.{is_on, behind, queued_up, or_later, in_groups, put_in, put}
use Rattle.net_laws.specs.Holding.{put_all, empty_queues, new_group, lay, lay_all, precedes}
use Rattle.net_laws.specs.Holding.{with_request, without_request, request_with}
use Rattle.site_shelves.specs.Held.{is_id_of, in_queues, in_groups_of, has_atom, without_front}
use Rattle.site_shelves.specs.Counted.{over_queue, over_queues, over_groups, over_stuck}
use Rattle.site_shelves.specs.Counted.{over_waiting, is_id, id_of, over_requests, times}

module _ (f : MessageParts → ℕ) where
  queue-more : (q : List MessageParts) (m : MessageParts)
      → over_queue f (q ++ m ∷ []) ≡ over_queue f q + f m
  queue-more [] m = omega arith
  queue-more (n ∷ q) m = omega (arith, queue-more q m)

  up-sum :
      (i : GroupParts) (c : ℕ) (ns : List ℕ) (qs : List (List MessageParts)) (m : MessageParts)
      (new : List (List MessageParts)) → queued_up i c ns qs m ≡ Some new
      → over_queues f new ≡ over_queues f qs + f m
  up-sum i c [] qs m new e = cc
  up-sum i c (n ∷ ns) [] m new e = cc
  up-sum i c (n ∷ ns) (q ∷ qs) m new e =
      go (is_on i c n m) (queued_up i (c + 1) ns qs m) refl (λ v d. up-sum i (c + 1) ns qs m v d) e
    where
      go : (t : Bool) (o : Option (List (List MessageParts))) → queued_up i (c + 1) ns qs m ≡ o
          → ((v : List (List MessageParts)) → queued_up i (c + 1) ns qs m ≡ Some v
          → over_queues f v ≡ over_queues f qs + f m)
          → cond t (Some ((q ++ m ∷ []) ∷ qs)) (behind q o) ≡ Some new
          → over_queues f new ≡ over_queues f (q ∷ qs) + f m
      go true o d ih e' =
          let is : (q ++ m ∷ []) ∷ qs ≡ new = cc in
          omega (arith, sym (ap (over_queues f) is), queue-more q m)
      go false None d ih e' = cc
      go false (Some v) d ih e' =
          let is : q ∷ v ≡ new = cc in
          omega (arith, sym (ap (over_queues f) is), ih v d)

  groups-sum : (gs : List Group) (m : MessageParts) (new : List Group) → in_groups gs m ≡ Some new
      → over_groups f new ≡ over_groups f gs + f m
  groups-sum [] m new e = cc
  groups-sum (g ∷ gs) m new e = go (queued_up g.told.inst 0 g.told.counts g.queues m) refl
      (in_groups gs m) refl (λ v d. groups-sum gs m v d) e
    where
      go : (o : Option (List (List MessageParts)))
          → queued_up g.told.inst 0 g.told.counts g.queues m ≡ o → (u : Option (List Group))
          → in_groups gs m ≡ u
          → ((v : List Group) → in_groups gs m ≡ Some v → over_groups f v ≡ over_groups f gs + f m)
          → or_later g o u gs ≡ Some new → over_groups f new ≡ over_groups f (g ∷ gs) + f m
      go (Some qs) c u d ih e' =
          let is : record g { queues = qs } ∷ gs ≡ new = cc in
          omega
          (arith, sym (ap (over_groups f) is), up-sum g.told.inst 0 g.told.counts g.queues m qs c)
      go None c None d ih e' = cc
      go None c (Some v) d ih e' =
          let is : g ∷ v ≡ new = cc in
          omega (arith, sym (ap (over_groups f) is), ih v d)

  stuck-more : (ws : List Waiting) (w : Waiting)
      → over_stuck f (ws ++ w ∷ []) ≡ over_stuck f ws + f w.msg
  stuck-more [] w = omega arith
  stuck-more (v ∷ ws) w = omega (arith, stuck-more ws w)

  pub put-sum : (l : Loc) (m : MessageParts) (s : Site)
      → over_waiting f (put l m s) ≡ over_waiting f s + f m
  put-sum l m s = go (in_groups s.groups m) refl
    where
      go : (o : Option (List Group)) → in_groups s.groups m ≡ o
          → over_waiting f (put_in o l m s) ≡ over_waiting f s + f m
      go None e = omega (arith, stuck-more s.stuck (record { loc = l; msg = m }))
      go (Some gs) e = omega (arith, groups-sum s.groups m gs e)

  pub put_all-sum : (ws : List Waiting) (s : Site)
      → over_waiting f (put_all ws s) ≡ over_waiting f s + over_stuck f ws
  put_all-sum [] s = omega arith
  put_all-sum (w ∷ ws) s = omega (arith, put-sum w.loc w.msg s, put_all-sum ws (put w.loc w.msg s))

  empty-sum : (ns : List ℕ) → over_queues f (empty_queues ns) ≡ 0
  empty-sum [] = refl
  empty-sum (n ∷ ns) = omega (arith, empty-sum ns)

  group-more : (gs : List Group) (d : Told)
      → over_groups f (gs ++ new_group d ∷ []) ≡ over_groups f gs
  group-more [] d = omega (arith, empty-sum d.counts)
  group-more (g ∷ gs) d = omega (arith, group-more gs d)

  pub lay-sum : (d : Told) (s : Site) → over_waiting f (lay d s) ≡ over_waiting f s
  lay-sum d s = omega (
    arith,
    put_all-sum s.stuck (record s { groups = s.groups ++ new_group d ∷ []; stuck = [] }),
    group-more s.groups d,
  )

  pub lay_all-sum : (ds : List Told) (s : Site) → over_waiting f (lay_all ds s) ≡ over_waiting f s
  lay_all-sum [] s = refl
  lay_all-sum (d ∷ ds) s = lay_all-sum ds (lay d s) ∙ lay-sum d s

  -- ---- fronts

  front-less : (qs : List (List MessageParts)) (c : ℕ)
      → over_queues f (without_front qs c) ≤ over_queues f qs
  front-less [] c = omega arith
  front-less ([] ∷ qs) zero = omega arith
  front-less ((m ∷ q) ∷ qs) zero = omega arith
  front-less (q ∷ qs) (suc c) = omega (arith, front-less qs c)

  pub set-sum : (gs : List Group) (j : ℕ) (g h : Group) → slice_get gs j ≡ Some g
      → over_groups f (slice_set gs j h) + over_queues f g.queues
      ≡ over_groups f gs + over_queues f h.queues
  set-sum [] j g h e = cc
  set-sum (x ∷ gs) zero g h e =
      let same : x ≡ g = cc in
      let sums : over_queues f x.queues ≡ over_queues f g.queues =
      ap (λ (v : Group). over_queues f v.queues) same in
      omega arith
  set-sum (x ∷ gs) (suc j) g h e = omega (arith, set-sum gs j g h e)

  pub front-sum : (s : Site) (j c : ℕ) (g : Group) → slice_get s.groups j ≡ Some g
      → over_waiting f (with_queues s j g (without_front g.queues c)) ≤ over_waiting f s
  front-sum s j c g here = omega (
    arith,
    set-sum s.groups j g (record g { queues = without_front g.queues c }) here,
    front-less g.queues c,
  )

-- ---- ids

module _ (i : AtomId) where
  pub request-more : (q : RequestParts) (qs : List RequestParts)
      → over_requests i (with_request q qs) ≡ over_requests i qs + is_id i q.id
  request-more q [] = omega arith
  request-more q (x ∷ qs) = go (precedes x.id q.id) (request-more q qs)
    where
      go : (t : Bool) → over_requests i (with_request q qs) ≡ over_requests i qs + is_id i q.id
          → over_requests i (cond t (x ∷ with_request q qs) (q ∷ x ∷ qs))
          ≡ over_requests i (x ∷ qs) + is_id i q.id
      go true ih = omega arith
      go false ih = omega arith

  pub request-less : (j : AtomId) (qs : List RequestParts)
      → over_requests i (without_request j qs) ≤ over_requests i qs
  request-less j [] = omega arith
  request-less j (x ∷ qs) = go (same_atom x.id j) (request-less j qs)
    where
      go : (t : Bool) → over_requests i (without_request j qs) ≤ over_requests i qs
          → over_requests i (cond t qs (x ∷ without_request j qs)) ≤ over_requests i (x ∷ qs)
      go true ih = omega arith
      go false ih = omega arith

  or-both : (a b : Bool) → a || b ≡ false → (a ≡ false) × (b ≡ false)
  or-both false false e = (refl, refl)
  or-both true b e = absurd (cc)
  or-both false true e = absurd (cc)

  one-is : (j : AtomId) → same_atom j i ≡ false → is_id i j ≡ 0
  one-is j e = ap (λ (b : Bool). cond {A = ℕ} b 1 0) e

  in-queue : (q : List MessageParts) → list_any (is_id_of i) q ≡ false → over_queue (id_of i) q ≡ 0
  in-queue [] e = refl
  in-queue (m ∷ q) e =
      let both = or-both (is_id_of i m) (list_any (is_id_of i) q) e in
      omega (arith, one-is m.id both.0, in-queue q both.1)

  in-queues : (qs : List (List MessageParts)) → in_queues i qs ≡ false
      → over_queues (id_of i) qs ≡ 0
  in-queues [] e = refl
  in-queues (q ∷ qs) e =
      let both = or-both (list_any (is_id_of i) q) (in_queues i qs) e in
      omega (arith, in-queue q both.0, in-queues qs both.1)

  in-groups : (gs : List Group) → in_groups_of i gs ≡ false → over_groups (id_of i) gs ≡ 0
  in-groups [] e = refl
  in-groups (g ∷ gs) e =
      let both = or-both (in_queues i g.queues) (in_groups_of i gs) e in
      omega (arith, in-queues g.queues both.0, in-groups gs both.1)

  in-stuck : (ws : List Waiting) → list_any (λ (w : Waiting). is_id_of i w.msg) ws ≡ false
      → over_stuck (id_of i) ws ≡ 0
  in-stuck [] e = refl
  in-stuck (w ∷ ws) e =
      let both = or-both (is_id_of i w.msg) (list_any (λ (v : Waiting). is_id_of i v.msg) ws) e in
      omega (arith, one-is w.msg.id both.0, in-stuck ws both.1)

  in-requests : (qs : List RequestParts) → is_some (request_with i qs) ≡ false
      → over_requests i qs ≡ 0
  in-requests [] e = refl
  in-requests (q ∷ qs) e = go (same_atom q.id i) refl e (in-requests qs)
    where
      go : (t : Bool) → same_atom q.id i ≡ t → is_some (cond t (Some q) (request_with i qs)) ≡ false
          → (is_some (request_with i qs) ≡ false → over_requests i qs ≡ 0)
          → over_requests i (q ∷ qs) ≡ 0
      go true same none ih = absurd (cc)
      go false other none ih = omega (arith, one-is q.id other, ih none)

  -- an id that is new here occurs nowhere
  pub absent-times : (s : Site) → has_atom i s ≡ false → times i s ≡ 0
  absent-times s e =
      let first = or-both (in_groups_of i s.groups)
      (list_any (λ (w : Waiting). is_id_of i w.msg) s.stuck || is_some (request_with i s.requests))
      e in
      let later = or-both (list_any (λ (w : Waiting). is_id_of i w.msg) s.stuck)
      (is_some (request_with i s.requests)) first.1 in
      omega
      (arith, in-groups s.groups first.0, in-stuck s.stuck later.0, in-requests s.requests later.1)

-- an id occurs once among itself
pub id-below : (i j : AtomId) → is_id i j ≤ 1
id-below i j = go (same_atom j i)
  where
    go : (t : Bool) → cond {A = ℕ} t 1 0 ≤ 1
    go true = omega arith
    go false = omega arith
