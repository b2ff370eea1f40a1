-- A front that is taken, where there is one.
use Rattle.std.proofs.Common.{◌≡◌, ℕ, ◌≤◌, List, [], ◌∷◌, length, Option, Some, None, refl, sym, ap}
use Rattle.std.proofs.Common.{◌∙◌, slice_set, drop}
use Rattle.std.specs.Prelude.{slice_get, slice_index_or}
use Rattle.wire_packet.specs.MessageFacts.{MessageParts}
use Rattle.queue_cells.specs.Grouped.{lists_at, queue_in, with_queue}
use Rattle.net_laws.specs.Site.{Group}
use Rattle.site_shelves.specs.Held.{queues_in, queue_of, without_front}
use Rattle.site_shelves.specs.inside.Index.{Rows, groups_of}
use Rattle.site_shelves.specs.inside.New.{gone_at}
use Rattle.site_shelves.proofs.Queueing.{queues-are}
use Rattle.site_shelves.proofs.Putting.{queue-set}
use Rattle.site_shelves.proofs.Fronts.{past-front, gone-none, gone-empty, gone-one}

pub queue-same : (qs : Rows) (j c : ℕ) → queue_of (groups_of qs) j c ≡ queue_in qs j c
queue-same qs j c = ap (λ ls. slice_index_or ls c []) (queues-are qs j)

-- the groups without this front
pub front-gone : (qs new : Rows) (j c : ℕ) (m : MessageParts) (g : Group)
    → slice_get (groups_of qs) j ≡ Some g → queue_in qs j c ≡ m ∷ queue_in new j c
    → new ≡ with_queue qs j c (queue_in new j c)
    → groups_of new ≡ slice_set (groups_of qs) j (record g { queues = without_front g.queues c })
front-gone qs new j c m g at front is =
    let queue : slice_index_or g.queues c [] ≡ m ∷ queue_in new j c =
    ap (λ o. slice_index_or (queues_in o) c []) (sym at) ∙ queue-same qs j c ∙ front in
    let rest : queue_in new j c ≡ drop 1 (slice_index_or g.queues c []) = ap (drop 1) (sym queue) in
    ap groups_of is ∙ queue-set qs j c (queue_in new j c) g at
    ∙ ap (λ ms. slice_set (groups_of qs) j (record g { queues = slice_set g.queues c ms })) rest

pub none-taken : (qs : Rows) (j c : ℕ) → queue_in qs j c ≡ []
    → groups_of qs ≡ gone_at j (c ∷ []) (groups_of qs)
none-taken qs j c none = go (slice_get (groups_of qs) j) refl
  where
    go : (o : Option Group) → slice_get (groups_of qs) j ≡ o
        → groups_of qs ≡ gone_at j (c ∷ []) (groups_of qs)
    go None is = sym (gone-none (groups_of qs) j (c ∷ []) is)
    go (Some g) is = sym
        (gone-empty (groups_of qs) j c g is (ap (λ o. slice_index_or (queues_in o) c []) (sym is)
        ∙ ap (λ ls. slice_index_or ls c []) (queues-are qs j) ∙ none))

pub past-taken : (qs : Rows) (j c : ℕ) → length (lists_at qs j) ≤ c
    → groups_of qs ≡ gone_at j (c ∷ []) (groups_of qs)
past-taken qs j c past = none-taken qs j c (past-front (lists_at qs j) c past)

pub no-first : (q : List MessageParts) → slice_get q 0 ≡ None → q ≡ []
no-first [] none = refl
no-first (m ∷ q) none = absurd (cc)

pub one-taken : (qs new : Rows) (j c : ℕ) (m : MessageParts)
    → queue_in qs j c ≡ m ∷ queue_in new j c → new ≡ with_queue qs j c (queue_in new j c)
    → groups_of new ≡ gone_at j (c ∷ []) (groups_of qs)
one-taken qs new j c m front is = go (slice_get (groups_of qs) j) refl
  where
    go : (o : Option Group) → slice_get (groups_of qs) j ≡ o
        → groups_of new ≡ gone_at j (c ∷ []) (groups_of qs)
    go None none =
        let empty : queue_in qs j c ≡ [] =
        ap (λ ls. slice_index_or ls c []) (sym (queues-are qs j))
        ∙ ap (λ o. slice_index_or (queues_in o) c []) none in
        absurd (cc)
    go (Some g) at = front-gone qs new j c m g at front is ∙ sym (gone-one (groups_of qs) j c g at)
