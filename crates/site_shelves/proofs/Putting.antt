-- What is put, laid and taken, for a site with groups as queue_cells has them.
use Rattle.std.proofs.Common.{◌≡◌, ℕ, zero, suc, List, [], ◌∷◌, ◌++◌, length, Some, None, refl, sym}
use Rattle.std.proofs.Common.{ap, ◌∙◌}
use Rattle.std.specs.Prelude.{slice_get, slice_set, replicate}
use Rattle.chem_model.specs.declared.name.Loc.{Loc}
use Rattle.wire_packet.specs.MessageFacts.{MessageParts}
use Rattle.wire_packet.specs.declared.packet.Waiting.{Waiting}
use Rattle.queue_cells.specs.Grouped.{Queued, queue_in, with_queue, with_last, idle_group}
use Rattle.net_laws.specs.Site.{Told, Group, Site, told_in}
use Rattle.net_laws.specs.Holding.{in_groups, put_in, put, put_all, empty_queues, new_group}
use Rattle.site_shelves.specs.inside.Index.{Rows, groups_of, told_of, holding}

pub put-queued : (s : Site) (qs new : Rows) (ws : List Waiting) (l : Loc) (m : MessageParts)
    → in_groups (groups_of qs) m ≡ Some (groups_of new)
    → put l m (holding s qs ws) ≡ holding s new ws
put-queued s qs new ws l m is = ap (λ o. put_in o l m (holding s qs ws)) is

pub put-stuck : (s : Site) (qs : Rows) (ws : List Waiting) (l : Loc) (m : MessageParts)
    → in_groups (groups_of qs) m ≡ None
    → put l m (holding s qs ws) ≡ holding s qs (ws ++ record { loc = l; msg = m } ∷ [])
put-stuck s qs ws l m is = ap (λ o. put_in o l m (holding s qs ws)) is

pub first-put : (s t : Site) (w : Waiting) (ws : List Waiting) (r : Site) → put w.loc w.msg s ≡ t
    → put_all (w ∷ ws) s ≡ r → put_all ws t ≡ r
first-put s t w ws r is whole = ap (put_all ws) (sym is) ∙ whole

pub groups-more : (qs : Rows) (q : Queued Told MessageParts)
    → groups_of (qs ++ q ∷ []) ≡ groups_of qs ++ record { told = q.told; queues = q.lists } ∷ []
groups-more [] q = refl
groups-more (p ∷ qs) q =
    ap (λ gs. record { told = p.told; queues = p.lists } ∷ gs) (groups-more qs q)

queues-empty : (ns : List ℕ) → replicate (length ns) [] ≡ empty_queues ns
queues-empty [] = refl
queues-empty (n ∷ ns) = ap (λ qs. [] ∷ qs) (queues-empty ns)

pub group-laid : (qs : Rows) (d : Told)
    → groups_of (qs ++ idle_group d (length d.counts) ∷ []) ≡ groups_of qs ++ new_group d ∷ []
group-laid qs d = groups-more qs (idle_group d (length d.counts))
    ∙ ap (λ ls. groups_of qs ++ record { told = d; queues = ls } ∷ []) (queues-empty d.counts)

pub told-more : (gs : List Group) (g : Group) → told_in (gs ++ g ∷ []) ≡ told_in gs ++ g.told ∷ []
told-more [] g = refl
told-more (h ∷ gs) g = ap (λ ds. h.told ∷ ds) (told-more gs g)

pub told-many : (qs : Rows) → length (told_of qs) ≡ length qs
told-many [] = refl
told-many (q ∷ qs) = ap suc (told-many qs)

-- ---- a front goes

pub queue-set : (qs : Rows) (j c : ℕ) (ms : List MessageParts) (g : Group)
    → slice_get (groups_of qs) j ≡ Some g
    → groups_of (with_queue qs j c ms)
    ≡ slice_set (groups_of qs) j (record g { queues = slice_set g.queues c ms })
queue-set [] j c ms g is = absurd (cc)
queue-set (q ∷ qs) zero c ms g is =
    let same : record { told = q.told; queues = q.lists } ≡ g = cc in
    ap (λ (x : Group). record x { queues = slice_set x.queues c ms } ∷ groups_of qs) same
queue-set (q ∷ qs) (suc j) c ms g is =
    ap (λ gs. record { told = q.told; queues = q.lists } ∷ gs) (queue-set qs j c ms g is)

pub with-queue-many : (qs : Rows) (j c : ℕ) (ms : List MessageParts)
    → length (with_queue qs j c ms) ≡ length qs
with-queue-many [] j c ms = refl
with-queue-many (q ∷ qs) zero c ms = refl
with-queue-many (q ∷ qs) (suc j) c ms = ap suc (with-queue-many qs j c ms)

pub with-last-many : (qs : Rows) (j c : ℕ) (m : MessageParts)
    → length (with_last qs j c m) ≡ length qs
with-last-many qs j c m = with-queue-many qs j c (queue_in qs j c ++ m ∷ [])
