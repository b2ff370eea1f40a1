-- What becomes of groups where one is emptied, and where several are dropped.
use Rattle.std.proofs.Common.{◌≡◌, ℕ, zero, suc, ◌+◌, ◌<◌, ◌≤◌, Bool, true, false, cond, List, []}
use Rattle.std.proofs.Common.{◌∷◌, map, length, get_or, take, Option, Some, refl, sym, ap, ◌∙◌}
use Rattle.std.proofs.Common.{arith}
use Rattle.std.specs.Prelude.{not, replicate, slice_get, remove, filter, sum_by}
use Rattle.std.proofs.lemmas.List.{length-set, nil_from_length}
use Rattle.std.proofs.lemmas.List.Sums.{sum_by-cons}
use Rattle.slab.specs.Slab.{Slab}
use Rattle.queue_cells.specs.declared.cells.Cell.{Cell}
use Rattle.queue_cells.specs.declared.rows.Row.{Row}
use Rattle.queue_cells.specs.Grouped.{Queued, lists_at, queue_in, with_queue, waiting, but_where}
use Rattle.queue_cells.specs.Grouped.{waiting_where}
use Rattle.queue_cells.specs.inside.Grouped.{emptied}
use Rattle.queue_cells.specs.inside.Walk.{messages, total}
use Rattle.queue_cells.specs.inside.Rows.{queued, AllRows, row_uses, AreRows}
use Rattle.queue_cells.proofs.RowLemmas.{empty_ends, waiting-at}

-- ---- lists of empty queues

waiting-replicate : (T : Type 0) (n : ℕ) → waiting {T = T} (replicate n []) ≡ 0
waiting-replicate T zero = refl
waiting-replicate T (suc n) =
    let rest = waiting-replicate T n in
    let one = sum_by-cons (length {A = T}) [] (replicate n []) in
    omega arith

all_empty : {T : Type 0} (ls : List (List T)) → ((c : ℕ) → c < length ls → get_or ls c [] ≡ [])
    → replicate (length ls) [] ≡ ls
all_empty [] none = refl
all_empty (ms ∷ ls) none =
    let first : [] ≡ ms = sym (none 0 (omega arith)) in
    let rest : replicate (length ls) [] ≡ ls =
    all_empty ls (λ c less. none (suc c) (omega arith)) in
    ap (λ xs. xs ∷ replicate (length ls) []) first ∙ ap (λ xs. ms ∷ xs) rest

in_empty : (T : Type 0) (n c : ℕ) → get_or {A = List T} (replicate n []) c [] ≡ []
in_empty T zero c = refl
in_empty T (suc n) zero = refl
in_empty T (suc n) (suc c) = in_empty T n c

none_waits_in : {T : Type 0} (ls : List (List T)) → waiting ls ≡ 0 → (c : ℕ) → get_or ls c [] ≡ []
none_waits_in ls none c =
    let among = waiting-at ls c in
    nil_from_length (get_or ls c []) (omega arith)

-- ---- one group is emptied

module _ {G T : Type 0} where
  pub emptied-with_queue : (qs : List (Queued G T)) (g c : ℕ) (ms : List T)
      → emptied (with_queue qs g c ms) g ≡ emptied qs g
  emptied-with_queue [] g c ms = refl
  emptied-with_queue (q ∷ qs) zero c ms = rw (length-set q.lists c ms) refl
  emptied-with_queue (q ∷ qs) (suc g) c ms = ap (λ rest. q ∷ rest) (emptied-with_queue qs g c ms)

  pub emptied-empty : (qs : List (Queued G T)) (g : ℕ)
      → ((c : ℕ) → c < length (lists_at qs g) → queue_in qs g c ≡ []) → emptied qs g ≡ qs
  emptied-empty [] g none = refl
  emptied-empty (q ∷ qs) zero none = rw (all_empty q.lists none) refl
  emptied-empty (q ∷ qs) (suc g) none = ap (λ rest. q ∷ rest) (emptied-empty qs g none)

  pub length-emptied : (qs : List (Queued G T)) (g : ℕ) → length (emptied qs g) ≡ length qs
  length-emptied [] g = refl
  length-emptied (q ∷ qs) zero = refl
  length-emptied (q ∷ qs) (suc g) = ap suc (length-emptied qs g)

  pub queue_in-emptied : (qs : List (Queued G T)) (g c : ℕ) → queue_in (emptied qs g) g c ≡ []
  queue_in-emptied [] g c = refl
  queue_in-emptied (q ∷ qs) zero c = in_empty T (length q.lists) c
  queue_in-emptied (q ∷ qs) (suc g) c = queue_in-emptied qs g c

  pub remove-emptied : (qs : List (Queued G T)) (g : ℕ) → remove (emptied qs g) g ≡ remove qs g
  remove-emptied [] g = refl
  remove-emptied (q ∷ qs) zero = refl
  remove-emptied (q ∷ qs) (suc g) = ap (λ rest. q ∷ rest) (remove-emptied qs g)

-- ---- a group that is selected

abbrev pub rows_left : {G : Type 0} → (G → Bool) → List (Row G) → List (Row G)
rows_left {G} p rs = filter (λ (r : Row G). not (p r.told)) rs

module _ {G T : Type 0} (p : G → Bool) where
  pub but_where-emptied : (qs : List (Queued G T)) (g : ℕ) (q : Queued G T)
      → slice_get qs g ≡ Some q → p q.told ≡ true → but_where p (emptied qs g) ≡ but_where p qs
  but_where-emptied [] g q is selected = refl
  but_where-emptied (x ∷ qs) zero q is selected =
      let same : x ≡ q = cc in
      let told : p x.told ≡ true = ap (λ (y : Queued G T). p y.told) same ∙ selected in
      rw told refl
  but_where-emptied (x ∷ qs) (suc g) q is selected =
      ap (λ rest. cond (p x.told) rest (x ∷ rest)) (but_where-emptied qs g q is selected)

  pub waiting-emptied : (qs : List (Queued G T)) (g : ℕ) (q : Queued G T) → slice_get qs g ≡ Some q
      → p q.told ≡ true
      → waiting_where p (emptied qs g) + waiting (lists_at qs g) ≡ waiting_where p qs
  waiting-emptied [] g q is selected = absurd (cc)
  waiting-emptied (x ∷ qs) zero q is selected =
      let same : x ≡ q = cc in
      let told : p x.told ≡ true = ap (λ (y : Queued G T). p y.told) same ∙ selected in
      rw told (omega (arith, waiting-replicate T (length x.lists)))
  waiting-emptied (x ∷ qs) (suc g) q is selected = omega (arith, waiting-emptied qs g q is selected)

  pub taken-emptied : (qs : List (Queued G T)) (g : ℕ) (q : Queued G T) → slice_get qs g ≡ Some q
      → p q.told ≡ true
      → waiting_where p (take (suc g) (emptied qs g)) ≡ waiting_where p (take g qs)
  taken-emptied [] g q is selected = absurd (cc)
  taken-emptied (x ∷ qs) zero q is selected =
      let same : x ≡ q = cc in
      let told : p x.told ≡ true = ap (λ (y : Queued G T). p y.told) same ∙ selected in
      rw told (omega (arith, waiting-replicate T (length x.lists)))
  taken-emptied (x ∷ qs) (suc g) q is selected = omega (arith, taken-emptied qs g q is selected)

  pub taken-other : (qs : List (Queued G T)) (g : ℕ) (q : Queued G T) → slice_get qs g ≡ Some q
      → p q.told ≡ false → waiting_where p (take (suc g) qs) ≡ waiting_where p (take g qs)
  taken-other [] g q is other = absurd (cc)
  taken-other (x ∷ qs) zero q is other =
      let same : x ≡ q = cc in
      let told : p x.told ≡ false = ap (λ (y : Queued G T). p y.told) same ∙ other in
      rw told refl
  taken-other (x ∷ qs) (suc g) q is other = omega (arith, taken-other qs g q is other)

  pub taken-all : (qs : List (Queued G T)) (n : ℕ) → length qs ≤ n → waiting_where p (take n qs) ≡ 0
      → waiting_where p qs ≡ 0
  taken-all [] n all none = refl
  taken-all (q ∷ qs) zero all none = absurd (omega arith)
  taken-all (q ∷ qs) (suc n) all none =
      let rest = taken-all qs n (omega arith) (omega arith) in
      omega arith

  -- ---- those that are selected are dropped, where their queues are empty

  record AreLeft (slots : List (Option (Cell T))) (rs : List (Row G)) (left : List (Row G))
      (qs : List (Queued G T)) : Type 0 where
    each : AllRows slots left
    uses_same : (k : ℕ) → row_uses slots k left ≡ row_uses slots k rs
    view : map (queued slots) left ≡ qs
    count :
        sum_by (λ (r : Row G). total r.ends.items) left
        ≡ sum_by (λ (r : Row G). total r.ends.items) rs

  rows-left : (slots : List (Option (Cell T))) (rs : List (Row G)) → AllRows slots rs
      → waiting_where p (map (queued slots) rs) ≡ 0
      → AreLeft slots rs (rows_left p rs) (but_where p (map (queued slots) rs))
  rows-left slots [] all none =
      record { each = tt; uses_same = λ k. refl; view = refl; count = refl }
  rows-left slots (r ∷ rs) all none = go (p r.told) none (rows-left slots rs all.1 (omega arith))
    where
      go : (t : Bool)
          → cond t (waiting (map (messages slots) r.ends.items)) 0
          + waiting_where p (map (queued slots) rs) ≡ 0
          → AreLeft slots rs (rows_left p rs) (but_where p (map (queued slots) rs))
          → AreLeft slots (r ∷ rs) (cond (not t) (r ∷ rows_left p rs) (rows_left p rs))
          (cond t (but_where p (map (queued slots) rs))
          (queued slots r ∷ but_where p (map (queued slots) rs)))
      go true zero_sum ih =
          let idle : waiting (map (messages slots) r.ends.items) ≡ 0 = omega arith in
          let empty = empty_ends slots r.ends.items all.0.queues
          (λ c less. none_waits_in (map (messages slots) r.ends.items) idle c) in
          record {
            each = ih.each;
            uses_same = λ k. omega (arith, ih.uses_same k, empty.1 k);
            view = ih.view;
            count = ih.count
                ∙ (let s = sum_by-cons (λ (x : Row G). total x.ends.items) r rs in
                let e = empty.0 in omega arith);
          }
      go false zero_sum ih = record {
        each = (all.0, ih.each);
        uses_same = λ k. omega (arith, ih.uses_same k);
        view = ap (λ qs. queued slots r ∷ qs) ih.view;
        count = sum_by-cons (λ (x : Row G). total x.ends.items) r (rows_left p rs)
            ∙ (let s = sum_by-cons (λ (x : Row G). total x.ends.items) r rs in let i = ih.count in
            omega arith);
      }

  pub AreRows-left : (cells : Slab (Cell T)) (rs new : List (Row G)) → new ≡ rows_left p rs
      → waiting_where p (map (queued cells.slots) rs) ≡ 0 → AreRows cells rs
      → AreRows cells new
      × (map (queued cells.slots) new ≡ but_where p (map (queued cells.slots) rs))
  AreRows-left cells rs new is none all =
      let left = rows-left cells.slots rs all.each none in
      rw is (
        record {
          each = left.each;
          once = λ k. omega (arith, all.once k, left.uses_same k);
          counted = left.count ∙ all.counted;
        },
        left.view,
      )
