-- The index of covered guards looks at which queues are empty, and at nothing else of them: it stays
-- right where no queue gets its first message.
use Rattle.std.proofs.Common.{◌≡◌, ℕ, zero, suc, ◌<◌, Bool, true, false, List, [], ◌∷◌, length}
use Rattle.std.proofs.Common.{Option, Some, None, refl, sym, ap, subst, ◌∙◌, arith, eqb-true}
use Rattle.std.proofs.Common.{eq-eqb, drop}
use Rattle.std.specs.Prelude.{slice_get, slice_set, slice_index_or, ◌==◌}
use Rattle.wire_packet.specs.MessageFacts.{MessageParts}
use Rattle.status_words.specs.Words.{number_of_words}
use Rattle.queue_cells.specs.Grouped.{lists_at, with_queue}
use Rattle.net_laws.specs.Site.{Told, Group}
use Rattle.site_shelves.specs.declared.covering.Covering.{Covering}
use Rattle.site_shelves.specs.Held.{without_front, without_fronts}
use Rattle.site_shelves.specs.inside.Index.{Rows, groups_of}
use Rattle.site_shelves.specs.inside.New.{gone_in, gone_at}
use Rattle.site_shelves.specs.inside.Covered.{Key, Keys, key_at, Levels, IsNoted, IsIndexed}
use Rattle.site_shelves.specs.inside.Covered.{AreIndexed, IsCovering}
use Rattle.site_shelves.proofs.Noting.{some-is, get-other, set-other}
use Rattle.site_shelves.proofs.Fronts.{set-get}

-- there are as many queues, and none has a message that was empty
pub record AreHeldBy (old new : List (List MessageParts)) : Type 0 where
  pub many : length new ≡ length old
  pub held :
      (i : ℕ) → 0 < length (slice_index_or new i []) → 0 < length (slice_index_or old i [])

-- ---- one queue

pub set-many : (qs : List (List MessageParts)) (c : ℕ) (ms : List MessageParts)
    → length (slice_set qs c ms) ≡ length qs
set-many [] c ms = refl
set-many (q ∷ qs) zero ms = refl
set-many (q ∷ qs) (suc c) ms = ap suc (set-many qs c ms)

set-held : (qs : List (List MessageParts)) (c : ℕ) (ms : List MessageParts) (i : ℕ)
    → (0 < length ms → 0 < length (slice_index_or qs c []))
    → 0 < length (slice_index_or (slice_set qs c ms) i [])
    → 0 < length (slice_index_or qs i [])
set-held [] c ms i was held = held
set-held (q ∷ qs) zero ms zero was held = was held
set-held (q ∷ qs) zero ms (suc i) was held = held
set-held (q ∷ qs) (suc c) ms zero was held = held
set-held (q ∷ qs) (suc c) ms (suc i) was held = set-held qs c ms i was held

pub queue-held : (qs : List (List MessageParts)) (c : ℕ) (ms : List MessageParts)
    → (0 < length ms → 0 < length (slice_index_or qs c []))
    → AreHeldBy qs (slice_set qs c ms)
queue-held qs c ms was =
    record { many = set-many qs c ms; held = λ i held. set-held qs c ms i was held }

dropped-held : (ms : List MessageParts) → 0 < length (drop 1 ms) → 0 < length ms
dropped-held [] held = held
dropped-held (m ∷ ms) held = omega arith

fronts-held : (qs : List (List MessageParts)) (cs : List ℕ) → AreHeldBy qs (without_fronts qs cs)
fronts-held qs [] = record { many = refl; held = λ i held. held }
fronts-held qs (c ∷ cs) =
    let first = queue-held qs c (drop 1 (slice_index_or qs c []))
    (dropped-held (slice_index_or qs c [])) in
    let rest = fronts-held (without_front qs c) cs in
    record {
      many = rest.many ∙ first.many;
      held = λ i held. first.held i (rest.held i held);
    }

-- ---- one group

noted-still :
    (ks : Keys) (key : Key) (old new : List (List MessageParts)) (mask : List ℕ)
    → AreHeldBy old new → IsNoted ks key old mask → IsNoted ks key new mask
noted-still ks key old new mask by was = record {
  wide = was.wide ∙ ap number_of_words (sym by.many);
  entered = λ all. was.entered (λ i has. by.held i (all i has));
}

indexed-still : (levels : Levels) (ks : Keys) (s : ℕ) (g h : Group) → h.told ≡ g.told
    → AreHeldBy g.queues h.queues → IsIndexed levels ks s g → IsIndexed levels ks s h
indexed-still levels ks s g h told by is = record {
  masks = is.masks;
  known = ap (λ (d : Told). slice_get levels d.inst.level) told ∙ is.known;
  noted = λ i m at.
      noted-still ks (key_at h.told.inst.rules i s) g.queues h.queues m by
      (subst (λ (d : Told). IsNoted ks (key_at d.inst.rules i s) g.queues m) (sym told)
      (is.noted i m at));
}

-- ---- a queue of a group changes

pub record WasAt (qs : Rows) (i c : ℕ) (ms : List MessageParts) (g : Group) : Type 0 where
  pub before : Group
  pub was : slice_get (groups_of qs) i ≡ Some before
  pub old : before.queues ≡ lists_at qs i
  pub told : g.told ≡ before.told
  pub queues : g.queues ≡ slice_set (lists_at qs i) c ms

pub was-at : (qs : Rows) (i c : ℕ) (ms : List MessageParts) (g : Group)
    → slice_get (groups_of (with_queue qs i c ms)) i ≡ Some g → WasAt qs i c ms g
was-at [] i c ms g at = absurd (cc)
was-at (q ∷ qs) zero c ms g at =
    let new : Group = record { told = q.told; queues = slice_set q.lists c ms } in
    let is : new ≡ g = cc in
    record {
      before = record { told = q.told; queues = q.lists };
      was = refl;
      old = refl;
      told = ap (λ (h : Group). h.told) (sym is);
      queues = ap (λ (h : Group). h.queues) (sym is);
    }
was-at (q ∷ qs) (suc i) c ms g at =
    let w = was-at qs i c ms g at in
    record { before = w.before; was = w.was; old = w.old; told = w.told; queues = w.queues }

queue-changed-still :
    (levels : Levels) (ks : Keys) (ss : List ℕ) (qs : Rows) (i c : ℕ) (ms : List MessageParts)
    → AreHeldBy (lists_at qs i) (slice_set (lists_at qs i) c ms)
    → AreIndexed levels ks ss (groups_of qs)
    → AreIndexed levels ks ss (groups_of (with_queue qs i c ms))
queue-changed-still levels ks ss qs i c ms by are j s g serial at = go (j == i) refl
  where
    go : (b : Bool) → (j == i) ≡ b → IsIndexed levels ks s g
    go true e =
        let same = eqb-true j i e in
        let w = was-at qs i c ms g
        (ap (slice_get (groups_of (with_queue qs i c ms))) (sym same) ∙ at) in
        let before = are j s w.before serial (ap (slice_get (groups_of qs)) same ∙ w.was) in
        let held = subst (λ ls. AreHeldBy ls g.queues) (sym w.old)
        (subst (λ ls. AreHeldBy (lists_at qs i) ls) (sym w.queues) by) in
        indexed-still levels ks s w.before g w.told held before
    go false e =
        let differ : (j ≡ i) → ⊥ = λ is. let f : true ≡ false = sym (eq-eqb j i is) ∙ e in cc in
        are j s g serial (sym (get-other qs i c ms j differ) ∙ at)

-- the same of the index as a whole
pub queue-still :
    (a : Covering) (ss : List ℕ) (qs new : Rows) (i c : ℕ) (ms : List MessageParts)
    → new ≡ with_queue qs i c ms
    → (0 < length ms → 0 < length (slice_index_or (lists_at qs i) c []))
    → IsCovering a ss (groups_of qs) → IsCovering a ss (groups_of new)
queue-still a ss qs new i c ms is was covering e =
    subst (λ (rs : Rows). AreIndexed a.levels.items a.keys ss (groups_of rs)) (sym is)
    (queue-changed-still a.levels.items a.keys ss qs i c ms (queue-held (lists_at qs i) c ms was)
    (covering e))

-- ---- fronts of a group go

fronts-changed-still :
    (levels : Levels) (ks : Keys) (ss : List ℕ) (gs : List Group) (i : ℕ) (cs : List ℕ)
    → AreIndexed levels ks ss gs → AreIndexed levels ks ss (gone_at i cs gs)
fronts-changed-still levels ks ss gs i cs are j s g serial at = go (slice_get gs i) refl at
  where
    one : (h : Group) → slice_get gs i ≡ Some h
        → slice_get (slice_set gs i (record h { queues = without_fronts h.queues cs })) j ≡ Some g
        → (b : Bool) → (j == i) ≡ b → IsIndexed levels ks s g
    one h was at true e =
        let same = eqb-true j i e in
        let new : Group = record h { queues = without_fronts h.queues cs } in
        let here : slice_get (slice_set gs i new) i ≡ Some new = set-get gs i h new was in
        let is : new ≡ g = some-is (slice_get (slice_set gs i new) j) new g
        (ap (slice_get (slice_set gs i new)) same ∙ here) at in
        subst (IsIndexed levels ks s) is
        (indexed-still levels ks s h new refl (fronts-held h.queues cs)
        (are j s h serial (ap (slice_get gs) same ∙ was)))
    one h was at false e =
        let differ : (j ≡ i) → ⊥ = λ is. let f : true ≡ false = sym (eq-eqb j i is) ∙ e in cc in
        are j s g serial (sym (set-other gs i j _ differ) ∙ at)

    go : (o : Option Group) → slice_get gs i ≡ o → slice_get (gone_in o i cs gs) j ≡ Some g
        → IsIndexed levels ks s g
    go None was at = are j s g serial at
    go (Some h) was at = one h was at (j == i) refl

pub fronts-still : (a : Covering) (ss : List ℕ) (gs new : List Group) (i : ℕ) (cs : List ℕ)
    → new ≡ gone_at i cs gs → IsCovering a ss gs → IsCovering a ss new
fronts-still a ss gs new i cs is covering e =
    subst (λ (hs : List Group). AreIndexed a.levels.items a.keys ss hs) (sym is)
    (fronts-changed-still a.levels.items a.keys ss gs i cs (covering e))
