-- What stands at a location, tested member by member.
use Rattle.std.proofs.Common.{◌≡◌, ℕ, Bool, true, false, cond, List, [], ◌∷◌, ◌++◌, Some, refl, sym}
use Rattle.std.proofs.Common.{ap, ◌∙◌}
use Rattle.std.specs.Prelude.{not, ◌&&◌, ◌||◌, slice_get}
use Rattle.std.specs.List.{list_all}
use Rattle.chem_model.specs.declared.name.Loc.{Loc}
use Rattle.chem_model.specs.declared.event.AtomId.{AtomId}
use Rattle.chem_model.specs.Solution.{same_loc}
use Rattle.wire_packet.specs.MessageFacts.{MessageParts}
use Rattle.wire_packet.specs.declared.packet.Waiting.{Waiting}
use Rattle.wire_packet.specs.GroupFacts.{RequestParts}
use Rattle.queue_cells.specs.Grouped.{Queued}
use Rattle.net_laws.specs.Site.{Told, Group, Site, told_in}
use Rattle.net_laws.specs.Parcels.{groups_at, stuck_at, requests_at, in_queue, in_queues}
use Rattle.net_laws.specs.Parcels.{in_all_queues, pack}
use Rattle.net_laws.specs.Net.{among}
use Rattle.site_shelves.specs.Draws.{is_drawn}
use Rattle.site_shelves.specs.inside.Index.{Rows, groups_of}
use Rattle.site_solution.specs.Apart.{told_apart, atom_apart, is_apart}
use Rattle.site_solution.specs.inside.Parted.{message_apart, told_parted, queues_parted}
use Rattle.site_solution.specs.inside.Parted.{stuck_parted, request_parted, is_parted}
use Rattle.site_shelves.proofs.Walked.{group-is}

assoc : (a b c : Bool) → a && (b && c) ≡ (a && b) && c
assoc true b c = refl
assoc false b c = refl

all-append : {X : Type 0} (p : X → Bool) (xs ys : List X)
    → list_all p (xs ++ ys) ≡ list_all p xs && list_all p ys
all-append p [] ys = refl
all-append p (x ∷ xs) ys =
    ap (λ b. p x && b) (all-append p xs ys) ∙ assoc (p x) (list_all p xs) (list_all p ys)

module _ (s : Site) (but : AtomId) (l : Loc) where
  pub all-told : (gs : List Group)
      → list_all (told_parted s l) (told_in gs) ≡ list_all (told_apart s) (told_in (groups_at l gs))
  all-told [] = refl
  all-told (g ∷ gs) = by_test (same_loc l g.told.inst.loc) (all-told gs)
    where
      by_test : (b : Bool)
          → list_all (told_parted s l) (told_in gs)
          ≡ list_all (told_apart s) (told_in (groups_at l gs))
          → (not b || told_apart s g.told) && list_all (told_parted s l) (told_in gs)
          ≡ list_all (told_apart s) (told_in (cond b (g ∷ groups_at l gs) (groups_at l gs)))
      by_test true rest = ap (λ b. told_apart s g.told && b) rest
      by_test false rest = rest

  all-queue : (at : Loc) (q : List MessageParts)
      → list_all (message_apart s but) q
      ≡ list_all (λ (w : Waiting). atom_apart s but w.msg.id) (in_queue at q)
  all-queue at [] = refl
  all-queue at (m ∷ ms) = ap (λ b. atom_apart s but m.id && b) (all-queue at ms)

  all-queues : (at : Loc) (qs : List (List MessageParts))
      → list_all (list_all (message_apart s but)) qs
      ≡ list_all (λ (w : Waiting). atom_apart s but w.msg.id) (in_queues at qs)
  all-queues at [] = refl
  all-queues at (q ∷ qs) =
      ap (λ b. b && list_all (list_all (message_apart s but)) qs) (all-queue at q)
      ∙ ap (λ b. list_all (λ (w : Waiting). atom_apart s but w.msg.id) (in_queue at q) && b)
      (all-queues at qs)
      ∙ sym
      (all-append (λ (w : Waiting). atom_apart s but w.msg.id) (in_queue at q) (in_queues at qs))

  pub all-queued : (gs : List Group)
      → list_all (queues_parted s but l) gs
      ≡ list_all (λ (w : Waiting). atom_apart s but w.msg.id) (in_all_queues (groups_at l gs))
  all-queued [] = refl
  all-queued (g ∷ gs) = by_test (same_loc l g.told.inst.loc) (all-queued gs)
    where
      by_test : (b : Bool)
          → list_all (queues_parted s but l) gs
          ≡ list_all (λ (w : Waiting). atom_apart s but w.msg.id) (in_all_queues (groups_at l gs))
          → (not b || list_all (list_all (message_apart s but)) g.queues)
          && list_all (queues_parted s but l) gs
          ≡ list_all (λ (w : Waiting). atom_apart s but w.msg.id)
          (in_all_queues (cond b (g ∷ groups_at l gs) (groups_at l gs)))
      by_test true rest =
          ap (λ b. b && list_all (queues_parted s but l) gs) (all-queues g.told.inst.loc g.queues)
          ∙ ap (λ b.
          list_all (λ (w : Waiting). atom_apart s but w.msg.id) (in_queues g.told.inst.loc g.queues)
          && b) rest
          ∙ sym (all-append (λ (w : Waiting). atom_apart s but w.msg.id)
          (in_queues g.told.inst.loc g.queues) (in_all_queues (groups_at l gs)))
      by_test false rest = rest

  pub all-stuck : (ws : List Waiting)
      → list_all (stuck_parted s but l) ws
      ≡ list_all (λ (w : Waiting). atom_apart s but w.msg.id) (stuck_at l ws)
  all-stuck [] = refl
  all-stuck (w ∷ ws) = by_test (same_loc l w.loc) (all-stuck ws)
    where
      by_test : (b : Bool)
          → list_all (stuck_parted s but l) ws
          ≡ list_all (λ (v : Waiting). atom_apart s but v.msg.id) (stuck_at l ws)
          → (not b || atom_apart s but w.msg.id) && list_all (stuck_parted s but l) ws
          ≡ list_all (λ (v : Waiting). atom_apart s but v.msg.id)
          (cond b (w ∷ stuck_at l ws) (stuck_at l ws))
      by_test true rest = ap (λ b. atom_apart s but w.msg.id && b) rest
      by_test false rest = rest

  pub all-requests : (qs : List RequestParts)
      → list_all (request_parted s but l) qs
      ≡ list_all (λ (q : RequestParts). atom_apart s but q.id) (requests_at l qs)
  all-requests [] = refl
  all-requests (q ∷ qs) = by_test (same_loc l q.loc) (all-requests qs)
    where
      by_test : (b : Bool)
          → list_all (request_parted s but l) qs
          ≡ list_all (λ (r : RequestParts). atom_apart s but r.id) (requests_at l qs)
          → (not b || atom_apart s but q.id) && list_all (request_parted s but l) qs
          ≡ list_all (λ (r : RequestParts). atom_apart s but r.id)
          (cond b (q ∷ requests_at l qs) (requests_at l qs))
      by_test true rest = ap (λ b. atom_apart s but q.id && b) rest
      by_test false rest = rest

-- member by member, it is the test of what is packed
pub parted-is : (s from : Site) (but : AtomId) (l : Loc)
    → is_parted s from l but ≡ is_apart s but (pack l from)
parted-is s from but l =
    let here = not (among s.locs l) && is_drawn s.number s.made l.site l.k in
    let told = list_all (told_apart s) (pack l from).groups in
    let queued = list_all (λ (v : Waiting). atom_apart s but v.msg.id)
    (in_all_queues (groups_at l from.groups)) in
    let stuck = list_all (λ (v : Waiting). atom_apart s but v.msg.id) (stuck_at l from.stuck) in
    let requests = list_all (λ (x : RequestParts). atom_apart s but x.id) (pack l from).requests in
    ap (λ b. here
    && (b
    && (list_all (queues_parted s but l) from.groups
    && (list_all (stuck_parted s but l) from.stuck
    && list_all (request_parted s but l) from.requests)))) (all-told s but l from.groups)
    ∙ ap (λ b. here
    && (told
    && (b
    && (list_all (stuck_parted s but l) from.stuck
    && list_all (request_parted s but l) from.requests)))) (all-queued s but l from.groups)
    ∙ ap (λ b. here && (told && (queued && (b && list_all (request_parted s but l) from.requests))))
    (all-stuck s but l from.stuck)
    ∙ ap (λ b. here && (told && (queued && (stuck && b)))) (all-requests s but l from.requests)
    ∙ ap (λ b. here && (told && b)) (assoc queued stuck requests)
    ∙ ap (λ b. here && (told && (b && requests)))
    (sym (all-append (λ (v : Waiting). atom_apart s but v.msg.id)
    (in_all_queues (groups_at l from.groups)) (stuck_at l from.stuck)))

-- one group
pub group-parted :
    (s : Site) (but : AtomId) (l : Loc) (qs : Rows) (j : ℕ) (q : Queued Told MessageParts)
    (r : Bool) (g : Group) → slice_get qs j ≡ Some q → slice_get (groups_of qs) j ≡ Some g
    → r ≡ not (same_loc l q.told.inst.loc) || list_all (list_all (message_apart s but)) q.lists
    → r ≡ queues_parted s but l g
group-parted s but l qs j q r g is at read =
    read ∙ ap (queues_parted s but l) (group-is qs j q g is at)
