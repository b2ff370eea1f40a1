-- What becomes of groups of queues where a message comes or goes.
use Rattle.std.proofs.Common.{◌≡◌, ◌≢◌, ℕ, zero, suc, ◌+◌, ◌<◌, ◌≤◌, true, false, cond, List, []}
use Rattle.std.proofs.Common.{◌∷◌, ◌++◌, map, length, get_or, set, Option, Some, None, eqb, refl}
use Rattle.std.proofs.Common.{sym, ap, subst, ◌∙◌, inl, inr, arith}
use Rattle.std.specs.Prelude.{replicate, slice_get, remove}
use Rattle.std.proofs.lemmas.Bool.{cases_eq}
use Rattle.std.proofs.lemmas.Bool.Decides.{nat_tests}
use Rattle.std.proofs.lemmas.List.{map-append, length-map, length-set, map-set, get_or-set_same}
use Rattle.std.proofs.lemmas.List.{get_or-set_other, get_or_default, set-set, set-get_or}
use Rattle.std.proofs.lemmas.List.{nil_from_length}
use Rattle.std.proofs.lemmas.List.Sums.{sum_by-set, sum_by-cons, sum_by_push, sum_by-remove}
use Rattle.std.proofs.lemmas.List.Sums.{get_or-le-sum_by}
use Rattle.slab.specs.Slab.{Slab, slab_len}
use Rattle.queue_cells.specs.declared.cells.Cell.{Cell}
use Rattle.queue_cells.specs.declared.cells.Ends.{Ends}
use Rattle.queue_cells.specs.declared.rows.Row.{Row}
use Rattle.status_words.specs.Words.{Covers}
use Rattle.queue_cells.specs.Grouped.{Queued, lists_at, queue_in, with_queue, idle_group, waiting}
use Rattle.queue_cells.specs.Grouped.{AllHeld}
use Rattle.queue_cells.specs.inside.Walk.{walked, messages, uses, IsQueue, AllQueues, all_uses}
use Rattle.queue_cells.specs.inside.Walk.{total, Chained, Unchained}
use Rattle.queue_cells.specs.inside.Rows.{is_held, no_ends, IsIdle, queued, IsRow, AllRows}
use Rattle.queue_cells.specs.inside.Rows.{row_uses, AreRows}
use Rattle.queue_cells.proofs.Walks.{queues-same, queue-set, uses-le-all, vacant_unused}
use Rattle.queue_cells.proofs.Walks.{uses-append, AllQueues-at, messages-at, one_at_most, eqb-same}

-- one queue of a group was replaced
pub record Replaced {G : Type 0} (before after : Row G) (chan : ℕ) (ends : Ends) : Type 0 where
  pub told : after.told ≡ before.told
  pub ends_are : after.ends.items ≡ set before.ends.items chan ends
  pub status : after.status ≡ set before.status chan (is_held ends)

held_count : (e : Ends) → is_held e ≡ true → 0 < e.count
held_count e h = grind (arith, nat_tests)

count_held : (e : Ends) → 0 < e.count → is_held e ≡ true
count_held e h = grind (arith, nat_tests)

pub Replaced-of : {G : Type 0} (before same after : Row G) (chan : ℕ) (ends : Ends) → same ≡ before
    → after.told ≡ same.told → after.ends.items ≡ set same.ends.items chan ends
    → after.status ≡ set same.status chan (is_held ends) → Replaced before after chan ends
Replaced-of before same after chan ends is told ends_are status = record {
  told = told ∙ ap (λ r. r.told) is;
  ends_are = ends_are ∙ ap (λ r. set r.ends.items chan ends) is;
  status = status ∙ ap (λ r. set r.status chan (is_held ends)) is;
}

pub same_read : {X : Type 0} (xs : List X) (i : ℕ) (x y : X) → i < length xs → get_or xs i x ≡ x
    → y ≡ get_or xs i y → y ≡ x
same_read xs i x y within is read = read ∙ get_or_default xs i y x within ∙ is

pub waiting-none : {T : Type 0} (ls : List (List T))
    → ((c : ℕ) → c < length ls → get_or ls c [] ≡ []) → waiting ls ≡ 0
waiting-none [] none = refl
waiting-none (ms ∷ ls) none =
    let first : length ms ≡ 0 = ap length (none 0 (omega arith)) in
    let rest : waiting ls ≡ 0 = waiting-none ls (λ c less. none (suc c) (omega arith)) in
    sum_by-cons length ms ls ∙ (omega arith)

pub waiting-at : {T : Type 0} (ls : List (List T)) (i : ℕ) → length (get_or ls i []) ≤ waiting ls
waiting-at [] i = omega arith
waiting-at (ms ∷ ls) zero = omega (arith, sum_by-cons length ms ls)
waiting-at (ms ∷ ls) (suc i) = omega (arith, waiting-at ls i, sum_by-cons length ms ls)

pub none_waits : (n : ℕ) → (0 < n → ⊥) → n ≡ 0
none_waits zero no_one = refl
none_waits (suc n) no_one = absurd (no_one (omega arith))

held-at : {T : Type 0} (slots : List (Option (Cell T))) (es : List Ends) (i : ℕ)
    → AllQueues slots es
    → (get_or (map is_held es) i false ≡ true → 0 < length (get_or (map (messages slots) es) i []))
    × (0 < length (get_or (map (messages slots) es) i []) → get_or (map is_held es) i false ≡ true)
held-at slots [] i all = (λ h. absurd (cc), λ h. absurd (omega arith))
held-at slots (e ∷ es) zero all =
    let count : length (messages slots e) ≡ e.count =
    length-map (walked slots e) (λ p. p.1) ∙ all.0.whole in
    (λ h. let some = held_count e h in omega arith, λ h. count_held e (omega arith))
held-at slots (e ∷ es) (suc i) all = held-at slots es i all.1

AllQueues-none : {T : Type 0} (slots : List (Option (Cell T))) (n : ℕ)
    → AllQueues slots (replicate n no_ends)
AllQueues-none slots zero = tt
AllQueues-none slots (suc n) = (record { whole = refl; last = refl }, AllQueues-none slots n)

all_uses-none : {T : Type 0} (slots : List (Option (Cell T))) (k n : ℕ)
    → all_uses slots k (replicate n no_ends) ≡ 0
all_uses-none slots k zero = refl
all_uses-none slots k (suc n) = omega (arith, all_uses-none slots k n)

held-none : (n : ℕ) → map is_held (replicate n no_ends) ≡ replicate n false
held-none zero = refl
held-none (suc n) = ap (λ bs. false ∷ bs) (held-none n)

messages-none : {T : Type 0} (slots : List (Option (Cell T))) (n : ℕ)
    → map (messages slots) (replicate n no_ends) ≡ replicate n []
messages-none slots zero = refl
messages-none slots (suc n) = ap (λ ls. [] ∷ ls) (messages-none slots n)

total-none : (n : ℕ) → total (replicate n no_ends) ≡ 0
total-none zero = refl
total-none (suc n) =
    let one = sum_by-cons (λ (e : Ends). e.count) no_ends (replicate n no_ends) in
    one ∙ (let rest : total (replicate n no_ends) ≡ 0 = total-none n in omega arith)

pub empty_ends : {T : Type 0} (slots : List (Option (Cell T))) (es : List Ends) → AllQueues slots es
    → ((c : ℕ) → c < length es → get_or (map (messages slots) es) c [] ≡ [])
    → (total es ≡ 0) × ((k : ℕ) → all_uses slots k es ≡ 0)
empty_ends slots [] all none = (refl, λ k. refl)
empty_ends slots (e ∷ es) all none =
    let first : messages slots e ≡ [] = none 0 (omega arith) in
    let length_first : length (walked slots e) ≡ 0 =
    sym (length-map (walked slots e) (λ p. p.1)) ∙ ap length first in
    let count : e.count ≡ 0 = sym all.0.whole ∙ length_first in
    let gone : walked slots e ≡ [] = nil_from_length (walked slots e) length_first in
    let rest = empty_ends slots es all.1 (λ c less. none (suc c) (omega arith)) in (
      sum_by-cons (λ (x : Ends). x.count) e es ∙ (let r = rest.0 in omega arith),
      λ k. let u = ap (λ w. uses k w) gone in omega (arith, rest.1 k),
    )

module _ {G T : Type 0} where
  -- groups stay where each of their cells stays
  pub rows-same : (old new : List (Option (Cell T))) (rs : List (Row G)) → AllRows old rs
      → ((k : ℕ) → 0 < row_uses old k rs → get_or new k None ≡ get_or old k None)
      → (map (queued new) rs ≡ map (queued old) rs) × AllRows new rs
      × ((k : ℕ) → row_uses new k rs ≡ row_uses old k rs)
  rows-same old new [] all stays = (refl, tt, λ k. refl)
  rows-same old new (r ∷ rs) all stays =
      let first = queues-same old new r.ends.items all.0.queues (λ k used. stays k (omega arith)) in
      let rest = rows-same old new rs all.1 (λ k used. stays k (omega arith)) in (
        rw (first.0, rest.0),
        (record { queues = first.1; status = all.0.status }, rest.1),
        λ k. omega (arith, first.2 k, rest.2 k),
      )

  pub record RowSet (old new : List (Option (Cell T))) (rs : List (Row G)) (g : ℕ) (after : Row G)
      (chan : ℕ) (e e' : Ends) : Type 0 where
    pub view :
        map (queued new) (set rs g after)
        ≡ with_queue (map (queued old) rs) g chan (messages new e')
    pub each : AllRows new (set rs g after)
    pub used : (k : ℕ)
        → row_uses new k (set rs g after) + uses k (walked old e)
        ≡ row_uses old k rs + uses k (walked new e')

  pub uses-le-rows :
      (slots : List (Option (Cell T))) (k : ℕ) (rs : List (Row G)) (g : ℕ) (r : Row G) (chan : ℕ)
      (e : Ends) → g < length rs → get_or rs g r ≡ r → chan < length r.ends.items
      → get_or r.ends.items chan e ≡ e → uses k (walked slots e) ≤ row_uses slots k rs
  uses-le-rows slots k [] g r chan e within is chan_within e_is = absurd (omega arith)
  uses-le-rows slots k (x ∷ rs) zero r chan e within is chan_within e_is =
      let items : x.ends.items ≡ r.ends.items = ap (λ (y : Row G). y.ends.items) is in
      omega (
        arith,
        uses-le-all slots k x.ends.items chan e (omega (arith, ap length items))
            (ap (λ ys. get_or ys chan e) items ∙ e_is),
      )
  uses-le-rows slots k (x ∷ rs) (suc g) r chan e within is chan_within e_is =
      omega (arith, uses-le-rows slots k rs g r chan e (omega arith) is chan_within e_is)

  pub row-set :
      (old new : List (Option (Cell T))) (rs : List (Row G)) (g : ℕ) (r after : Row G) (chan : ℕ)
      (e e' : Ends) → g < length rs → get_or rs g r ≡ r → chan < length r.ends.items
      → get_or r.ends.items chan e ≡ e → AllRows old rs → IsQueue new e' → Replaced r after chan e'
      → ((k : ℕ) → uses k (walked old e) < row_uses old k rs
      → get_or new k None ≡ get_or old k None) → RowSet old new rs g after chan e e'
  row-set old new [] g r after chan e e' within is chan_within e_is all queue step stays =
      absurd (omega arith)
  row-set old new (x ∷ rs) zero r after chan e e' within is chan_within e_is all queue step stays =
      let items : x.ends.items ≡ r.ends.items = ap (λ (y : Row G). y.ends.items) is in
      let inside : chan < length x.ends.items = omega (arith, ap length items) in
      let at : get_or x.ends.items chan e ≡ e = ap (λ ys. get_or ys chan e) items ∙ e_is in
      let first = queue-set old new x.ends.items chan e e' inside at all.0.queues queue
      (λ k used. stays k (omega arith)) in
      let rest = rows-same old new rs
      all.1 (λ k used. stays k (omega (arith, uses-le-all old k x.ends.items chan e inside at))) in
      let now : after.ends.items ≡ set x.ends.items chan e' =
      step.ends_are ∙ ap (λ ys. set ys chan e') (sym items) in
      let told : after.told ≡ x.told = step.told ∙ ap (λ (y : Row G). y.told) (sym is) in
      let status : after.status ≡ map is_held after.ends.items =
      step.status ∙ ap (λ (y : Row G). set y.status chan (is_held e')) (sym is)
      ∙ ap (λ ys. set ys chan (is_held e')) all.0.status
      ∙ sym (map-set is_held x.ends.items chan e') ∙ ap (map is_held) (sym now) in
      let head : queued new after ≡ record {
        told = x.told;
        lists = set (map (messages old) x.ends.items) chan (messages new e');
      } = rw (told, now, first.0) in
      record {
        view = rw (head, rest.0);
        each = (record { queues = rw now first.1; status = status }, rest.1);
        used = λ k.
            let here : all_uses new k after.ends.items ≡ all_uses new k (set x.ends.items chan e') =
            ap (all_uses new k) now in
            omega (arith, first.2 k, rest.2 k);
      }
  row-set old new (x ∷ rs) (suc g) r after chan e e' within is chan_within e_is all queue step
      stays =
      let in_rest : (k : ℕ) → uses k (walked old e) ≤ row_uses old k rs =
      λ k. uses-le-rows old k rs g r chan e (omega arith) is chan_within e_is in
      let first = queues-same old new
      x.ends.items all.0.queues (λ k used. stays k (omega (arith, in_rest k))) in
      let rest = row-set old new rs g r after chan e e' (omega arith) is chan_within e_is
      all.1 queue step (λ k used. stays k (omega arith)) in
      record {
        view = rw (first.0, rest.view);
        each = (record { queues = first.1; status = all.0.status }, rest.each);
        used = λ k. omega (arith, first.2 k, rest.used k);
      }

  pub IsRow-at : (slots : List (Option (Cell T))) (rs : List (Row G)) (g : ℕ) (r : Row G)
      → g < length rs → get_or rs g r ≡ r → AllRows slots rs → IsRow slots r
  IsRow-at slots [] g r within is all = absurd (omega arith)
  IsRow-at slots (x ∷ rs) zero r within is all = subst (λ y. IsRow slots y) is all.0
  IsRow-at slots (x ∷ rs) (suc g) r within is all = IsRow-at slots rs g r (omega arith) is all.1

  pub lists-at : (slots : List (Option (Cell T))) (rs : List (Row G)) (g : ℕ) (r : Row G)
      → g < length rs → get_or rs g r ≡ r
      → lists_at (map (queued slots) rs) g ≡ map (messages slots) r.ends.items
  lists-at slots [] g r within is = absurd (omega arith)
  lists-at slots (x ∷ rs) zero r within is =
      ap (λ (y : Row G). map (messages slots) y.ends.items) is
  lists-at slots (x ∷ rs) (suc g) r within is = lists-at slots rs g r (omega arith) is

  pub rows_unused : (slots : List (Option (Cell T))) (k : ℕ) (rs : List (Row G))
      → get_or slots k None ≡ None → row_uses slots k rs ≡ 0
  rows_unused slots k [] gone = refl
  rows_unused slots k (r ∷ rs) gone =
      omega (arith, vacant_unused slots k r.ends.items gone, rows_unused slots k rs gone)

  -- what is known of a queue of a group
  pub record Found (cells : Slab (Cell T)) (rs : List (Row G)) (g : ℕ) (r : Row G) (chan : ℕ)
      (e : Ends) : Type 0 where
    pub group : g < length rs
    pub row_is : get_or rs g r ≡ r
    pub within : chan < length r.ends.items
    pub ends_is : get_or r.ends.items chan e ≡ e
    pub row : IsRow cells.slots r
    pub queue : IsQueue cells.slots e
    pub once : (k : ℕ) → uses k (walked cells.slots e) ≤ 1
    pub count : e.count ≤ slab_len cells
    pub members : queue_in (map (queued cells.slots) rs) g chan ≡ messages cells.slots e

  pub Found-of :
      (cells : Slab (Cell T)) (rs : List (Row G)) (g : ℕ) (r : Row G) (chan : ℕ) (e : Ends)
      → AreRows cells rs → g < length (map (queued cells.slots) rs)
      → chan < length (lists_at (map (queued cells.slots) rs) g) → get_or rs g r ≡ r
      → get_or r.ends.items chan e ≡ e → Found cells rs g r chan e
  Found-of cells rs g r chan e all g_in chan_in row_is ends_is =
      let group : g < length rs = omega (arith, length-map rs (queued {G = G} cells.slots)) in
      let lists = lists-at cells.slots rs g r group row_is in
      let within : chan < length r.ends.items =
      omega (arith, ap length lists, length-map r.ends.items (messages cells.slots)) in
      let row = IsRow-at cells.slots rs g r group row_is all.each in
      let part = get_or-le-sum_by (λ (x : Ends). x.count) r.ends.items chan e within in
      let whole = get_or-le-sum_by (λ (x : Row G). total x.ends.items) rs g r group in
      let same = ap (λ (x : Ends). x.count) ends_is in
      let same_row = ap (λ (x : Row G). total x.ends.items) row_is in
      record {
        group = group;
        row_is = row_is;
        within = within;
        ends_is = ends_is;
        row = row;
        queue = AllQueues-at cells.slots r.ends.items chan e within ends_is row.queues;
        once = λ k. omega (
          arith,
          all.once k,
          uses-le-rows cells.slots k rs g r chan e group row_is within ends_is,
        );
        count = omega (arith, all.counted);
        members = ap (λ ls. get_or ls chan []) lists
            ∙ messages-at cells.slots r.ends.items chan e within ends_is;
      }

  -- a message was chained to one of the queues
  pub rows-chained :
      (old new : Slab (Cell T)) (rs : List (Row G)) (g : ℕ) (r after : Row G) (chan : ℕ)
      (e e' : Ends) (message : T) → Found old rs g r chan e → AreRows old rs
      → Replaced r after chan e' → Chained old.slots new.slots e e' message
      → slab_len new ≡ slab_len old + 1
      → AreRows new (set rs g after)
      × (map (queued new.slots) (set rs g after)
      ≡ with_queue (map (queued old.slots) rs) g chan
      (queue_in (map (queued old.slots) rs) g chan ++ message ∷ []))
  rows-chained old new rs g r after chan e e' message f all step c more =
      let stays : (k : ℕ) → uses k (walked old.slots e) < row_uses old.slots k rs
      → get_or new.slots k None ≡ get_or old.slots k None = λ k other.
      let unused : uses k (walked old.slots e) ≡ 0 = omega (arith, all.once k) in
      let differs : k ≢ c.key =
      λ same. let none = rows_unused old.slots k rs
      (subst (λ j. get_or old.slots j None ≡ None) (sym same) c.vacant) in omega arith in
      c.others k differs unused in
      let s = row-set old.slots new.slots rs g r after chan e e'
      f.group f.row_is f.within f.ends_is all.each c.queue step stays in
      let inner = sum_by-set (λ (x : Ends). x.count) r.ends.items chan e' e f.within in
      let outer = sum_by-set (λ (x : Row G). total x.ends.items) rs g after r f.group in
      let same = ap (λ (x : Ends). x.count) f.ends_is in
      let same_row = ap (λ (x : Row G). total x.ends.items) f.row_is in
      let now : total after.ends.items ≡ total (set r.ends.items chan e') =
      ap total step.ends_are in (
        record {
          each = s.each;
          once = λ k. once k (s.used k);
          counted = let n = c.count in let t = all.counted in omega arith;
        },
        s.view
            ∙ ap (λ xs. with_queue (map (queued old.slots) rs) g chan xs)
            (rw c.longer (map-append (λ p. p.1) (walked old.slots e) ((c.key, message) ∷ []))
            ∙ ap (λ xs. xs ++ message ∷ []) (sym f.members)),
      )
    where
      once : (k : ℕ)
          → row_uses new.slots k (set rs g after) + uses k (walked old.slots e)
          ≡ row_uses old.slots k rs + uses k (walked new.slots e')
          → row_uses new.slots k (set rs g after) ≤ 1
      once k sum =
          let longer =
          ap (λ w. uses k w) c.longer ∙ uses-append k (walked old.slots e) (c.key, message) in
          elim (cases_eq c.key k) [
            | inl same ↦
                let none = rows_unused old.slots k rs
                (subst (λ j. get_or old.slots j None ≡ None) same c.vacant) in
                let test : cond {A = ℕ} (eqb c.key k) 1 0 ≤ 1 = one_at_most (eqb c.key k) in
                omega arith
            | inr differs ↦
                let test : cond {A = ℕ} (eqb c.key k) 1 0 ≡ 0 = grind (arith, nat_tests) in
                omega (arith, all.once k)
          ]

  -- the front of one of the queues was taken
  pub rows-unchained :
      (old new : Slab (Cell T)) (rs : List (Row G)) (g : ℕ) (r after : Row G) (chan : ℕ)
      (e e' : Ends) (message : T) → Found old rs g r chan e → AreRows old rs
      → Replaced r after chan e' → Unchained old.slots new.slots e e' message
      → slab_len new + 1 ≡ slab_len old
      → AreRows new (set rs g after)
      × (map (queued new.slots) (set rs g after)
      ≡ with_queue (map (queued old.slots) rs) g chan (messages new.slots e'))
      × (queue_in (map (queued old.slots) rs) g chan ≡ message ∷ messages new.slots e')
  rows-unchained old new rs g r after chan e e' message f all step c less =
      let head_used : 0 < uses e.head (walked old.slots e) =
      rw (c.shorter, eqb-same) (omega arith) in
      let stays : (k : ℕ) → uses k (walked old.slots e) < row_uses old.slots k rs
      → get_or new.slots k None ≡ get_or old.slots k None = λ k other.
      let unused : uses k (walked old.slots e) ≡ 0 = omega (arith, all.once k) in
      c.others k (λ same. let used : 0 < uses k (walked old.slots e) =
      subst (λ j. 0 < uses j (walked old.slots e)) (sym same) head_used in omega arith) in
      let s = row-set old.slots new.slots rs g r after chan e e'
      f.group f.row_is f.within f.ends_is all.each c.queue step stays in
      let inner = sum_by-set (λ (x : Ends). x.count) r.ends.items chan e' e f.within in
      let outer = sum_by-set (λ (x : Row G). total x.ends.items) rs g after r f.group in
      let same = ap (λ (x : Ends). x.count) f.ends_is in
      let same_row = ap (λ (x : Row G). total x.ends.items) f.row_is in
      let now : total after.ends.items ≡ total (set r.ends.items chan e') =
      ap total step.ends_are in (
        record {
          each = s.each;
          once = λ k.
              let u = s.used k in
              let shorter : uses k (walked old.slots e)
              ≡ cond {A = ℕ} (eqb e.head k) 1 0 + uses k (walked new.slots e') =
              ap (λ w. uses k w) c.shorter in
              omega (arith, all.once k);
          counted = let n = c.count in let t = all.counted in omega arith;
        },
        s.view,
        f.members ∙ ap (λ w. map (λ p. p.1) w) c.shorter,
      )

  -- the queue with other messages, and nothing else
  pub queue_in-with : (qs : List (Queued G T)) (g chan : ℕ) (ms : List T) → g < length qs
      → chan < length (lists_at qs g) → queue_in (with_queue qs g chan ms) g chan ≡ ms
  queue_in-with [] g chan ms g_in chan_in = absurd (omega arith)
  queue_in-with (q ∷ qs) zero chan ms g_in chan_in = get_or-set_same q.lists chan ms [] chan_in
  queue_in-with (q ∷ qs) (suc g) chan ms g_in chan_in =
      queue_in-with qs g chan ms (omega arith) chan_in

  -- what becomes of groups where a front cell was removed
  pub record Took (old new : Slab (Cell T)) (rs : List (Row G)) (g : ℕ) (after : Row G) (chan : ℕ)
      (message : T) : Type 0 where
    pub are : AreRows new (set rs g after)
    pub rest : List T
    pub view :
        map (queued new.slots) (set rs g after) ≡ with_queue (map (queued old.slots) rs) g chan rest
    pub front : queue_in (map (queued old.slots) rs) g chan ≡ message ∷ rest
    pub now : queue_in (map (queued new.slots) (set rs g after)) g chan ≡ rest

  pub Took-of :
      (old new : Slab (Cell T)) (rs : List (Row G)) (g : ℕ) (r after : Row G) (chan : ℕ)
      (e e' : Ends) (message : T) → Found old rs g r chan e → AreRows old rs
      → Replaced r after chan e' → Unchained old.slots new.slots e e' message
      → slab_len new + 1 ≡ slab_len old → Took old new rs g after chan message
  Took-of old new rs g r after chan e e' message f all step c less =
      let r' = rows-unchained old new rs g r after chan e e' message f all step c less in
      let chans = lists-at old.slots rs g r f.group f.row_is in
      let g_in : g < length (map (queued {G = G} old.slots) rs) =
      omega (arith, f.group, length-map rs (queued {G = G} old.slots)) in
      let chan_in : chan < length (lists_at (map (queued old.slots) rs) g) =
      omega (arith, f.within, ap length chans, length-map r.ends.items (messages old.slots)) in
      record {
        are = r'.0;
        rest = messages new.slots e';
        view = r'.1;
        front = r'.2;
        now = ap (λ qs. queue_in qs g chan) r'.1
            ∙ queue_in-with (map (queued old.slots) rs) g chan (messages new.slots e') g_in chan_in;
      }

  pub count-found :
      (cells : Slab (Cell T)) (rs : List (Row G)) (g : ℕ) (r : Row G) (chan : ℕ) (e : Ends)
      → Found cells rs g r chan e → length (queue_in (map (queued cells.slots) rs) g chan) ≡ e.count
  count-found cells rs g r chan e f =
      ap length f.members ∙ length-map (walked cells.slots e) (λ p. p.1) ∙ f.queue.whole

  -- the status covers a mask exactly where each of its queues holds something
  pub covers-held : (slots : List (Option (Cell T))) (r : Row G) (mask : List ℕ) → IsRow slots r
      → (Covers r.status mask → AllHeld (map (messages slots) r.ends.items) mask)
      × (AllHeld (map (messages slots) r.ends.items) mask → Covers r.status mask)
  covers-held slots r mask row = (
    λ covers i wanted. (held-at slots r.ends.items i row.queues).0
        (ap (λ s. get_or s i false) (sym row.status) ∙ covers i wanted),
    λ all i wanted. ap (λ s. get_or s i false) row.status
        ∙ (held-at slots r.ends.items i row.queues).1 (all i wanted),
  )

  AllRows-push : (slots : List (Option (Cell T))) (rs : List (Row G)) (r : Row G) → IsRow slots r
      → AllRows slots rs → AllRows slots (rs ++ r ∷ [])
  AllRows-push slots [] r one all = (one, tt)
  AllRows-push slots (x ∷ rs) r one all = (all.0, AllRows-push slots rs r one all.1)

  row_uses-push : (slots : List (Option (Cell T))) (k : ℕ) (rs : List (Row G)) (r : Row G)
      → row_uses slots k (rs ++ r ∷ []) ≡ row_uses slots k rs + all_uses slots k r.ends.items
  row_uses-push slots k [] r = omega arith
  row_uses-push slots k (x ∷ rs) r = omega (arith, row_uses-push slots k rs r)

  -- one group more, whose queues are empty
  pub AreRows-add : (cells : Slab (Cell T)) (rs : List (Row G)) (r : Row G) → IsIdle r
      → AreRows cells rs → AreRows cells (rs ++ r ∷ [])
  AreRows-add cells rs r idle all = record {
    each = AllRows-push cells.slots rs r (record {
      queues = rw idle.ends (AllQueues-none cells.slots (length r.status));
      status = idle.status ∙ sym (held-none (length r.status)) ∙ ap (map is_held) (sym idle.ends);
    }) all.each;
    once = λ k.
        let here : all_uses cells.slots k r.ends.items ≡ 0 =
        rw idle.ends (all_uses-none cells.slots k (length r.status)) in
        omega (arith, all.once k, row_uses-push cells.slots k rs r);
    counted = sum_by_push (λ (x : Row G). total x.ends.items) rs r
        ∙ (let here : total r.ends.items ≡ 0 = rw idle.ends (total-none (length r.status)) in
        let c = all.counted in omega arith);
  }

  pub view-add : (slots : List (Option (Cell T))) (rs : List (Row G)) (r : Row G) → IsIdle r
      → map (queued slots) (rs ++ r ∷ [])
      ≡ map (queued slots) rs ++ idle_group r.told (length r.status) ∷ []
  view-add slots rs r idle = map-append (queued slots) rs (r ∷ [])
      ∙ ap (λ ls. map (queued slots) rs ++ record { told = r.told; lists = ls } ∷ [])
      (ap (map (messages slots)) idle.ends ∙ messages-none slots (length r.status))

  pub told-at : (slots : List (Option (Cell T))) (rs : List (Row G)) (g : ℕ) (r : Row G)
      → g < length rs → get_or rs g r ≡ r
      → slice_get (map (queued slots) rs) g
      ≡ Some (record { told = r.told; lists = lists_at (map (queued slots) rs) g })
  told-at slots [] g r within is = absurd (omega arith)
  told-at slots (x ∷ rs) zero r within is =
      ap (λ (y : Row G). Some (record { told = y.told; lists = map (messages slots) x.ends.items }))
      is
  told-at slots (x ∷ rs) (suc g) r within is = told-at slots rs g r (omega arith) is

  -- ---- dropping a group

  pub with_queue-twice : (qs : List (Queued G T)) (g c : ℕ) (ms ns : List T)
      → with_queue (with_queue qs g c ms) g c ns ≡ with_queue qs g c ns
  with_queue-twice [] g c ms ns = refl
  with_queue-twice (q ∷ qs) zero c ms ns = rw (set-set q.lists c ms ns) refl
  with_queue-twice (q ∷ qs) (suc g) c ms ns = ap (λ rest. q ∷ rest) (with_queue-twice qs g c ms ns)

  pub with_queue-same : (qs : List (Queued G T)) (g c : ℕ)
      → with_queue qs g c (queue_in qs g c) ≡ qs
  with_queue-same [] g c = refl
  with_queue-same (q ∷ qs) zero c = rw (set-get_or q.lists c []) refl
  with_queue-same (q ∷ qs) (suc g) c = ap (λ rest. q ∷ rest) (with_queue-same qs g c)

  pub length-with_queue : (qs : List (Queued G T)) (g c : ℕ) (ms : List T)
      → length (with_queue qs g c ms) ≡ length qs
  length-with_queue [] g c ms = refl
  length-with_queue (q ∷ qs) zero c ms = refl
  length-with_queue (q ∷ qs) (suc g) c ms = ap suc (length-with_queue qs g c ms)

  pub width-with_queue : (qs : List (Queued G T)) (g c : ℕ) (ms : List T)
      → length (lists_at (with_queue qs g c ms) g) ≡ length (lists_at qs g)
  width-with_queue [] g c ms = refl
  width-with_queue (q ∷ qs) zero c ms = length-set q.lists c ms
  width-with_queue (q ∷ qs) (suc g) c ms = width-with_queue qs g c ms

  pub queue_in-other : (qs : List (Queued G T)) (g c d : ℕ) (ms : List T) → d ≢ c
      → queue_in (with_queue qs g c ms) g d ≡ queue_in qs g d
  queue_in-other [] g c d ms differs = refl
  queue_in-other (q ∷ qs) zero c d ms differs = get_or-set_other q.lists c d ms [] differs
  queue_in-other (q ∷ qs) (suc g) c d ms differs = queue_in-other qs g c d ms differs

  -- how many wait in the group where one queue has other messages
  pub waiting-with : (qs : List (Queued G T)) (g c : ℕ) (ms : List T) → c < length (lists_at qs g)
      → waiting (lists_at (with_queue qs g c ms) g) + length (queue_in qs g c)
      ≡ waiting (lists_at qs g) + length ms
  waiting-with [] g c ms within = absurd (omega arith)
  waiting-with (q ∷ qs) zero c ms within = sum_by-set length q.lists c ms [] within
  waiting-with (q ∷ qs) (suc g) c ms within = waiting-with qs g c ms within

  -- what holds of a group whose queues are empty
  rows-removed : (slots : List (Option (Cell T))) (rs : List (Row G)) (g : ℕ) (r : Row G)
      → g < length rs → get_or rs g r ≡ r → AllRows slots rs
      → AllRows slots (remove rs g)
      × ((k : ℕ)
      → row_uses slots k (remove rs g) + all_uses slots k r.ends.items ≡ row_uses slots k rs)
      × (map (queued slots) (remove rs g) ≡ remove (map (queued slots) rs) g)
  rows-removed slots [] g r within is all = absurd (omega arith)
  rows-removed slots (x ∷ rs) zero r within is all = (
    all.1,
    λ k. let same = ap (λ (y : Row G). all_uses slots k y.ends.items) is in omega arith,
    refl,
  )
  rows-removed slots (x ∷ rs) (suc g) r within is all =
      let rest = rows-removed slots rs g r (omega arith) is all.1 in
      ((all.0, rest.0), λ k. omega (arith, rest.1 k), ap (λ qs. queued slots x ∷ qs) rest.2)

  pub AreRows-remove : (cells : Slab (Cell T)) (rs : List (Row G)) (g : ℕ) (r : Row G)
      → g < length rs → get_or rs g r ≡ r
      → ((c : ℕ) → c < length (lists_at (map (queued cells.slots) rs) g)
      → queue_in (map (queued cells.slots) rs) g c ≡ []) → AreRows cells rs
      → AreRows cells (remove rs g)
      × (map (queued cells.slots) (remove rs g) ≡ remove (map (queued cells.slots) rs) g)
  AreRows-remove cells rs g r within is none all =
      let row = IsRow-at cells.slots rs g r within is all.each in
      let lists = lists-at cells.slots rs g r within is in
      let width : length (lists_at (map (queued cells.slots) rs) g) ≡ length r.ends.items =
      ap length lists ∙ length-map r.ends.items (messages cells.slots) in
      let empty = empty_ends cells.slots r.ends.items row.queues
      (λ c less. ap (λ ls. get_or ls c []) (sym lists) ∙ none c (omega arith)) in
      let rest = rows-removed cells.slots rs g r within is all.each in
      let sums = sum_by-remove (λ (x : Row G). total x.ends.items) rs g r within in
      let same = ap (λ (x : Row G). total x.ends.items) is in (
        record {
          each = rest.0;
          once = λ k. omega (arith, all.once k, rest.1 k);
          counted = let t = all.counted in let e = empty.0 in omega arith;
        },
        rest.2,
      )

pub nil_from_front : {X : Type 0} (xs : List X) → slice_get xs 0 ≡ None → xs ≡ []
nil_from_front [] none = refl
nil_from_front (x ∷ xs) none = absurd (cc)
