-- What becomes of queues where a cell is added, linked or taken.
use Rattle.std.proofs.Common.{◌≡◌, ◌≢◌, ℕ, zero, suc, ◌+◌, ◌-◌, ◌<◌, ◌≤◌, Bool, true, false, cond}
use Rattle.std.proofs.Common.{List, [], ◌∷◌, ◌++◌, map, length, get_or, set, Option, Some, None}
use Rattle.std.proofs.Common.{eqb, refl, sym, ap, subst, ◌∙◌, inl, inr, arith}
use Rattle.std.proofs.lemmas.Bool.{cases_eq}
use Rattle.std.proofs.lemmas.Bool.Decides.{nat_tests}
use Rattle.std.proofs.lemmas.List.{length-append}
use Rattle.slab.specs.Slab.{Slab, Updates}
use Rattle.queue_cells.specs.declared.cells.Cell.{Cell}
use Rattle.queue_cells.specs.declared.cells.Ends.{Ends}
use Rattle.queue_cells.specs.inside.Walk.{from_cell, walk, walked, messages, uses, last_key}
use Rattle.queue_cells.specs.inside.Walk.{IsQueue, AllQueues, all_uses, Chained, Unchained}

pub eqb-same : (k : ℕ) → eqb k k ≡ true
eqb-same k = grind (arith, nat_tests)

pub one_at_most : (b : Bool) → cond {A = ℕ} b 1 0 ≤ 1
one_at_most true = omega arith
one_at_most false = omega arith

module _ {T : Type 0} where
  -- a key without a cell isn't walked
  pub uses-vacant : (slots : List (Option (Cell T))) (n h k : ℕ) → get_or slots k None ≡ None
      → uses k (walk slots n h) ≡ 0
  uses-vacant slots zero h k gone = refl
  uses-vacant slots (suc n) h k gone =
      by_cell (get_or slots h None) refl (λ next. uses-vacant slots n next k gone)
    where
      by_cell : (o : Option (Cell T)) → get_or slots h None ≡ o
          → ((next : ℕ) → uses k (walk slots n next) ≡ 0)
          → uses k (from_cell h (walk slots n) o) ≡ 0
      by_cell None is later = refl
      by_cell (Some c) is later = elim (cases_eq h k) [
        | inl same ↦ absurd (let e : get_or slots k None ≡ Some c =
            subst (λ j. get_or slots j None ≡ Some c) same is in cc)
        | inr differs ↦ grind (arith, nat_tests, later c.next)
      ]

  -- what is walked stays where each of its cells stays
  pub walk-same : (old new : List (Option (Cell T))) (n h : ℕ) → length (walk old n h) ≡ n
      → ((k : ℕ) → 0 < uses k (walk old n h) → get_or new k None ≡ get_or old k None)
      → walk new n h ≡ walk old n h
  walk-same old new zero h whole stays = refl
  walk-same old new (suc n) h whole stays =
      by_cell (get_or old h None) refl whole stays (λ next. walk-same old new n next)
    where
      by_cell : (o : Option (Cell T)) → get_or old h None ≡ o
          → length (from_cell h (walk old n) o) ≡ suc n
          → ((k : ℕ) → 0 < uses k (from_cell h (walk old n) o)
          → get_or new k None ≡ get_or old k None)
          → ((next : ℕ) → length (walk old n next) ≡ n
          → ((k : ℕ) → 0 < uses k (walk old n next) → get_or new k None ≡ get_or old k None)
          → walk new n next ≡ walk old n next)
          → from_cell h (walk new n) (get_or new h None)
          ≡ from_cell h (walk old n) (get_or old h None)
      by_cell None is short _ _ = absurd (omega arith)
      by_cell (Some c) is long keeps later =
          let here : get_or new h None ≡ Some c = keeps h (rw eqb-same (omega arith)) ∙ is in
          let rest : walk new n c.next ≡ walk old n c.next =
          later c.next (omega arith) (λ k used. keeps k (omega arith)) in
          rw (here, is, rest)

  -- the last key is one of the keys
  pub uses-last : (p : ℕ × T) (ps : List (ℕ × T)) (d : ℕ) → 0 < uses (last_key (p ∷ ps) d) (p ∷ ps)
  uses-last p [] d = rw eqb-same (omega arith)
  uses-last p (q ∷ ps) d = omega (arith, uses-last q ps p.0)

  pub last_key-append : (ps : List (ℕ × T)) (p : ℕ × T) (d : ℕ) → last_key (ps ++ p ∷ []) d ≡ p.0
  last_key-append [] p d = refl
  last_key-append (q ∷ ps) p d = last_key-append ps p q.0

  pub uses-append : (k : ℕ) (ps : List (ℕ × T)) (p : ℕ × T)
      → uses k (ps ++ p ∷ []) ≡ uses k ps + cond (eqb p.0 k) 1 0
  uses-append k [] p = omega arith
  uses-append k (q ∷ ps) p = omega (arith, uses-append k ps p)

  -- a cell was added at this key, and the last cell leads to it
  pub record Linked (old new : List (Option (Cell T))) (tail key : ℕ) (message : T) : Type 0 where
    pub vacant : get_or old key None ≡ None
    pub placed :
        (next : ℕ) × (get_or new key None ≡ Some (record { message = message; next = next }))
    pub linked : (cell : Cell T) → get_or old tail None ≡ Some cell
        → get_or new tail None ≡ Some (record { message = cell.message; next = key })
    pub others : (k : ℕ) → k ≢ tail → k ≢ key → get_or new k None ≡ get_or old k None

  one_cell : (new : List (Option (Cell T))) (key : ℕ) (message : T)
      → ((next : ℕ) × (get_or new key None ≡ Some (record { message = message; next = next })))
      → walk new 1 key ≡ (key, message) ∷ []
  one_cell new key message placed = rw placed.1 refl

  -- so a walk that ended at the tail ends at the new cell, and holds its message last
  pub walk-linked : (old new : List (Option (Cell T))) (tail key : ℕ) (message : T)
      → Linked old new tail key message → (n h d : ℕ) → length (walk old (suc n) h) ≡ suc n
      → last_key (walk old (suc n) h) d ≡ tail → ((k : ℕ) → uses k (walk old (suc n) h) ≤ 1)
      → walk new (suc (suc n)) h ≡ walk old (suc n) h ++ (key, message) ∷ []
  walk-linked old new tail key message l zero h d whole last once =
      by_cell (get_or old h None) refl whole last
    where
      by_cell : (o : Option (Cell T)) → get_or old h None ≡ o
          → length (from_cell h (walk old zero) o) ≡ 1
          → last_key (from_cell h (walk old zero) o) d ≡ tail
          → from_cell h (walk new 1) (get_or new h None)
          ≡ from_cell h (walk old zero) (get_or old h None) ++ (key, message) ∷ []
      by_cell None is short _ = absurd (omega arith)
      by_cell (Some c) is _ at_tail =
          let here : get_or new h None ≡ Some (record { message = c.message; next = key }) =
          subst (λ j. get_or new j None ≡ Some (record { message = c.message; next = key }))
          (sym at_tail) (l.linked c (subst (λ j. get_or old j None ≡ Some c) at_tail is)) in
          rw (here, is) (ap (λ ps. (h, c.message) ∷ ps) (one_cell new key message l.placed))
  walk-linked old new tail key message l (suc n) h d whole last once = by_cell (get_or old h None)
      refl whole last once (λ next. walk-linked old new tail key message l n next h)
    where
      by_cell : (o : Option (Cell T)) → get_or old h None ≡ o
          → length (from_cell h (walk old (suc n)) o) ≡ suc (suc n)
          → last_key (from_cell h (walk old (suc n)) o) d ≡ tail
          → ((k : ℕ) → uses k (from_cell h (walk old (suc n)) o) ≤ 1)
          → ((next : ℕ) → length (walk old (suc n) next) ≡ suc n
          → last_key (walk old (suc n) next) h ≡ tail
          → ((k : ℕ) → uses k (walk old (suc n) next) ≤ 1)
          → walk new (suc (suc n)) next ≡ walk old (suc n) next ++ (key, message) ∷ [])
          → from_cell h (walk new (suc (suc n))) (get_or new h None)
          ≡ from_cell h (walk old (suc n)) (get_or old h None) ++ (key, message) ∷ []
      by_cell None is short _ _ _ = absurd (omega arith)
      by_cell (Some c) is long at_tail single next_linked = by_rest (walk old (suc n) c.next) refl
        where
          by_rest : (ps : List (ℕ × T)) → walk old (suc n) c.next ≡ ps
              → from_cell h (walk new (suc (suc n))) (get_or new h None)
              ≡ from_cell h (walk old (suc n)) (get_or old h None) ++ (key, message) ∷ []
          by_rest [] none = absurd (omega (arith, ap length none))
          by_rest (p ∷ ps) some =
              let later : last_key (p ∷ ps) h ≡ tail =
              subst (λ w. last_key w h ≡ tail) some at_tail in
              let differs : h ≢ tail = λ same.
              let in_rest : 0 < uses h (p ∷ ps) =
              subst (λ j. 0 < uses j (p ∷ ps)) (later ∙ sym same) (uses-last p ps h) in
              let both : cond (eqb h h) 1 0 + uses h (p ∷ ps) ≤ 1 =
              subst (λ w. cond (eqb h h) 1 0 + uses h w ≤ 1) some (single h) in
              let twice : 1 + uses h (p ∷ ps) ≤ 1 = rw eqb-same at both in
              omega arith in
              let old_key : h ≢ key =
              λ same. let e : get_or old key None ≡ Some c =
              subst (λ j. get_or old j None ≡ Some c) same is in let v = l.vacant in cc in
              let here : get_or new h None ≡ Some c = l.others h differs old_key ∙ is in
              let rest =
              next_linked c.next (omega arith) at_tail (λ k. let s = single k in omega arith) in
              rw (here, is) (ap (λ ps. (h, c.message) ∷ ps) rest)

  -- the uses of one of the queues are among all uses
  pub uses-le-all : (slots : List (Option (Cell T))) (k : ℕ) (es : List Ends) (q : ℕ) (e : Ends)
      → q < length es → get_or es q e ≡ e → uses k (walked slots e) ≤ all_uses slots k es
  uses-le-all slots k [] q e within is = absurd (omega arith)
  uses-le-all slots k (x ∷ es) zero e within is =
      let same : uses k (walked slots x) ≡ uses k (walked slots e) =
      ap (λ y. uses k (walked slots y)) is in
      omega arith
  uses-le-all slots k (x ∷ es) (suc q) e within is =
      omega (arith, uses-le-all slots k es q e (omega arith) is)

  pub AllQueues-at : (slots : List (Option (Cell T))) (es : List Ends) (q : ℕ) (e : Ends)
      → q < length es → get_or es q e ≡ e → AllQueues slots es → IsQueue slots e
  AllQueues-at slots [] q e within is all = absurd (omega arith)
  AllQueues-at slots (x ∷ es) zero e within is all = subst (λ y. IsQueue slots y) is all.0
  AllQueues-at slots (x ∷ es) (suc q) e within is all =
      AllQueues-at slots es q e (omega arith) is all.1

  IsQueue-same : (old new : List (Option (Cell T))) (e : Ends) → walked new e ≡ walked old e
      → IsQueue old e → IsQueue new e
  IsQueue-same old new e same was = record { whole = rw same was.whole; last = rw same was.last }

  pub queues-same : (old new : List (Option (Cell T))) (es : List Ends) → AllQueues old es
      → ((k : ℕ) → 0 < all_uses old k es → get_or new k None ≡ get_or old k None)
      → (map (messages new) es ≡ map (messages old) es) × AllQueues new es
      × ((k : ℕ) → all_uses new k es ≡ all_uses old k es)
  queues-same old new [] all stays = (refl, tt, λ k. refl)
  queues-same old new (e ∷ es) all stays =
      let first : walked new e ≡ walked old e =
      walk-same old new e.count e.head all.0.whole (λ k used. stays k (omega arith)) in
      let rest = queues-same old new es all.1 (λ k used. stays k (omega arith)) in (
        rw (first, rest.0),
        (IsQueue-same old new e first all.0, rest.1),
        λ k. rw (first, rest.2 k),
      )

  -- one queue was replaced by another, and the cells of the others stay
  pub queue-set : (old new : List (Option (Cell T))) (es : List Ends) (q : ℕ) (e e' : Ends)
      → q < length es → get_or es q e ≡ e → AllQueues old es → IsQueue new e'
      → ((k : ℕ) → uses k (walked old e) < all_uses old k es
      → get_or new k None ≡ get_or old k None)
      → (map (messages new) (set es q e') ≡ set (map (messages old) es) q (messages new e'))
      × AllQueues new (set es q e')
      × ((k : ℕ)
      → all_uses new k (set es q e') + uses k (walked old e)
      ≡ all_uses old k es + uses k (walked new e'))
  queue-set old new [] q e e' within is all now stays = absurd (omega arith)
  queue-set old new (x ∷ es) zero e e' within is all now stays =
      let same : (k : ℕ) → uses k (walked old x) ≡ uses k (walked old e) =
      λ k. ap (λ y. uses k (walked old y)) is in
      let rest = queues-same old new es all.1 (λ k used. stays k (omega (arith, same k))) in (
        rw rest.0,
        (now, rest.1),
        λ k. omega (arith, same k, rest.2 k),
      )
  queue-set old new (x ∷ es) (suc q) e e' within is all now stays =
      let first : walked new x ≡ walked old x =
      walk-same old new x.count x.head all.0.whole
      (λ k used. stays k (omega (arith, uses-le-all old k es q e (omega arith) is))) in
      let rest =
      queue-set old new es q e e' (omega arith) is all.1 now (λ k used. stays k (omega arith)) in (
        rw (first, rest.0),
        (IsQueue-same old new x first all.0, rest.1),
        λ k. omega (arith, rest.2 k, ap (λ w. uses k w) first),
      )

  -- ---- the steps of the code

  -- the first message of an empty queue
  pub Chained-first : (old new : Slab (Cell T)) (key : ℕ) (message : T) (before : Ends) (next : ℕ)
      → before.count ≡ 0 → get_or old.slots key None ≡ None
      → Updates old new key (Some (record { message = message; next = next }))
      → Chained old.slots new.slots before (record { head = key; tail = key; count = 1 }) message
  Chained-first old new key message before next none gone u =
      let alone : walk new.slots 1 key ≡ (key, message) ∷ [] =
      one_cell new.slots key message (next, u.changed) in
      let empty : walked old.slots before ≡ [] = rw none refl in
      record {
        key = key;
        vacant = gone;
        longer = rw empty alone;
        queue = record { whole = ap length alone; last = ap (λ w. last_key w key) alone };
        count = omega arith;
        others = λ k differs _. u.others k differs;
      }

  tail_used : (tail n : ℕ) (w : List (ℕ × T)) → 0 < n → length w ≡ n → last_key w tail ≡ tail
      → uses tail w ≡ 0 → ⊥
  tail_used tail n [] some long _ _ = omega arith
  tail_used tail n (p ∷ ps) some long last none =
      let u : 0 < uses tail (p ∷ ps) =
      subst (λ j. 0 < uses j (p ∷ ps)) last (uses-last p ps tail) in
      omega arith

  -- a message behind others
  pub Chained-next : (old new : List (Option (Cell T))) (key : ℕ) (message : T) (before : Ends)
      → 0 < before.count → IsQueue old before → ((k : ℕ) → uses k (walked old before) ≤ 1)
      → Linked old new before.tail key message
      → Chained old new before (record { head = before.head; tail = key; count = before.count + 1 })
      message
  Chained-next old new key message before some queue once l =
      by_count before.count refl some queue.whole queue.last once
    where
      by_count : (n : ℕ) → before.count ≡ n → 0 < n → length (walk old n before.head) ≡ n
          → last_key (walk old n before.head) before.tail ≡ before.tail
          → ((k : ℕ) → uses k (walk old n before.head) ≤ 1)
          → Chained old new before
          (record { head = before.head; tail = key; count = before.count + 1 }) message
      by_count zero is less _ _ _ = absurd (omega arith)
      by_count (suc n) is less whole last single =
          let longer = walk-linked old new before.tail key message l n before.head before.tail whole
          last single in
          let here : walked old before ≡ walk old (suc n) before.head =
          ap (λ j. walk old j before.head) is in
          let there : walk new (before.count + 1) before.head ≡ walk new (suc (suc n)) before.head =
          let e : before.count + 1 ≡ suc (suc n) = omega arith in
          ap (λ j. walk new j before.head) e in
          let all : walk new (before.count + 1) before.head
          ≡ walked old before ++ (key, message) ∷ [] =
          there ∙ longer ∙ ap (λ w. w ++ (key, message) ∷ []) (sym here) in
          record {
            key = key;
            vacant = l.vacant;
            longer = all;
            queue = record {
              whole = ap length all ∙ length-append (walked old before) ((key, message) ∷ [])
                  ∙ ap (λ j. j + 1) queue.whole;
              last = ap (λ w. last_key w key) all
                  ∙ last_key-append (walked old before) (key, message) key;
            };
            count = refl;
            others = λ k differs unused.
                let other : k ≢ before.tail =
                λ same. tail_used before.tail (suc n) (walk old (suc n) before.head) less whole last
                (subst (λ j. uses j (walk old (suc n) before.head) ≡ 0) same
                (subst (λ w. uses k w ≡ 0) here unused)) in
                l.others k other differs;
          }

  pub vacant_unused : (slots : List (Option (Cell T))) (k : ℕ) (es : List Ends)
      → get_or slots k None ≡ None → all_uses slots k es ≡ 0
  vacant_unused slots k [] gone = refl
  vacant_unused slots k (e ∷ es) gone =
      omega (arith, uses-vacant slots e.count e.head k gone, vacant_unused slots k es gone)

  pub messages-at : (slots : List (Option (Cell T))) (es : List Ends) (q : ℕ) (e : Ends)
      → q < length es → get_or es q e ≡ e → get_or (map (messages slots) es) q [] ≡ messages slots e
  messages-at slots [] q e within is = absurd (omega arith)
  messages-at slots (x ∷ es) zero e within is = ap (messages slots) is
  messages-at slots (x ∷ es) (suc q) e within is = messages-at slots es q e (omega arith) is

  tail_there : (slots : List (Option (Cell T))) (e : Ends) → 0 < e.count → IsQueue slots e
      → get_or slots e.tail None ≡ None → ⊥
  tail_there slots e some queue gone = tail_used e.tail e.count (walked slots e) some
      queue.whole queue.last (uses-vacant slots e.count e.head e.tail gone)

  -- a cell that was inserted, and then the tail made to lead to it
  pub Linked-from : (old mid new : Slab (Cell T)) (before : Ends) (key next : ℕ) (message : T)
      → 0 < before.count → IsQueue old.slots before → get_or old.slots key None ≡ None
      → Updates old mid key (Some (record { message = message; next = next }))
      → ((cell : Cell T) → get_or mid.slots before.tail None ≡ Some cell
      → get_or new.slots before.tail None ≡ Some (record { message = cell.message; next = key }))
      → ((k : ℕ) → k ≢ before.tail → get_or new.slots k None ≡ get_or mid.slots k None)
      → Linked old.slots new.slots before.tail key message
  Linked-from old mid new before key next message some queue gone u leads stays =
      let differs : key ≢ before.tail =
      λ same. tail_there old.slots before some queue
      (subst (λ j. get_or old.slots j None ≡ None) same gone) in
      record {
        vacant = gone;
        placed = (next, stays key differs ∙ u.changed);
        linked = λ cell was. leads cell (u.others before.tail (λ same. differs (sym same)) ∙ was);
        others = λ k other new_one. stays k other ∙ u.others k new_one;
      }

  -- a queue with a member has a front cell
  pub front-cell : (slots : List (Option (Cell T))) (e : Ends) → 0 < e.count → IsQueue slots e
      → (cell : Cell T) × (get_or slots e.head None ≡ Some cell)
  front-cell slots e some queue = by_count e.count some queue.whole
    where
      by_cell : (n : ℕ) (o : Option (Cell T)) → get_or slots e.head None ≡ o
          → length (from_cell e.head (walk slots n) o) ≡ suc n
          → (cell : Cell T) × (get_or slots e.head None ≡ Some cell)
      by_cell n None is short = absurd (omega arith)
      by_cell n (Some cell) is long = (cell, is)

      by_count : (n : ℕ) → 0 < n → length (walk slots n e.head) ≡ n
          → (cell : Cell T) × (get_or slots e.head None ≡ Some cell)
      by_count zero less whole = absurd (omega arith)
      by_count (suc n) less whole = by_cell n (get_or slots e.head None) refl whole

  -- what a queue with a front cell holds
  pub messages-front : (slots : List (Option (Cell T))) (e : Ends) (cell : Cell T) → 0 < e.count
      → get_or slots e.head None ≡ Some cell
      → walked slots e ≡ (e.head, cell.message) ∷ walk slots (e.count - 1) cell.next
  messages-front slots e cell some is = by_count e.count some
    where
      by_count : (n : ℕ) → 0 < n
          → walk slots n e.head ≡ (e.head, cell.message) ∷ walk slots (n - 1) cell.next
      by_count zero less = absurd (omega arith)
      by_count (suc n) less = let e : suc n - 1 ≡ n = omega arith in rw (is, e) refl

  last_key-again : (w : List (ℕ × T)) (d tail : ℕ) → last_key w d ≡ tail → last_key w tail ≡ tail
  last_key-again [] d tail last = refl
  last_key-again (p ∷ ps) d tail last = last

  -- the front cell was removed
  pub Unchained-from : (old new : Slab (Cell T)) (before : Ends) (cell : Cell T) → 0 < before.count
      → IsQueue old.slots before → ((k : ℕ) → uses k (walked old.slots before) ≤ 1)
      → get_or old.slots before.head None ≡ Some cell → Updates old new before.head None
      → Unchained old.slots new.slots before
      (record { head = cell.next; tail = before.tail; count = before.count - 1 }) cell.message
  Unchained-from old new before cell some queue once is u =
      let front = messages-front old.slots before cell some is in
      let whole : suc (length (walk old.slots (before.count - 1) cell.next)) ≡ before.count =
      sym (ap length front) ∙ queue.whole in
      let last : last_key (walk old.slots (before.count - 1) cell.next) before.head ≡ before.tail =
      sym (ap (λ w. last_key w before.tail) front) ∙ queue.last in
      let single : (k : ℕ)
      → cond {A = ℕ} (eqb before.head k) 1 0 + uses k (walk old.slots (before.count - 1) cell.next)
      ≤ 1 = λ k. subst (λ w. uses k w ≤ 1) front (once k) in
      let unused : uses before.head (walk old.slots (before.count - 1) cell.next) ≡ 0 =
      let s = rw eqb-same at (single before.head) in omega arith in
      let rest : walk new.slots (before.count - 1) cell.next
      ≡ walk old.slots (before.count - 1) cell.next =
      walk-same old.slots new.slots (before.count - 1) cell.next (omega arith) (λ k used.
      u.others k (λ same. let again : uses k (walk old.slots (before.count - 1) cell.next) ≡ 0 =
      subst (λ j. uses j (walk old.slots (before.count - 1) cell.next) ≡ 0) (sym same) unused in
      omega arith)) in
      record {
        shorter = front ∙ ap (λ w. (before.head, cell.message) ∷ w) (sym rest);
        queue = record {
          whole = ap length rest ∙ (omega arith);
          last = ap (λ w. last_key w before.tail) rest
              ∙ last_key-again (walk old.slots (before.count - 1) cell.next)
              before.head before.tail last;
        };
        count = omega arith;
        others = u.others;
      }
