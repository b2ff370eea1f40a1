-- Keys by sites, walked from a site on and then from the first one on, are in the order of turns.
use Rattle.std.proofs.Common.{◌≡◌, ℕ, ◌+◌, ◌-◌, ◌<◌, ◌≤◌, List, ◌++◌, Option, Some, Bool, true}
use Rattle.std.proofs.Common.{false, refl, ap, sym, ◌∙◌, arith, ◌&&◌, ◌⊎◌, inl, inr, Less}
use Rattle.std.specs.Prelude.{nat_lt, not}
use Rattle.std.specs.List.{filter}
use Rattle.std.specs.List.Sorted.{IsStrictlySortedBy}
use Rattle.std.specs.Ordering.{is_le}
use Rattle.std.proofs.lemmas.Bool.{and_parts, and_from, and_right, cases_lt}
use Rattle.std.proofs.lemmas.Bool.Decides.{nat_tests}
use Rattle.chem_model.specs.Each.{Each, IsIn}
use Rattle.chem_laws.proofs.Lists.{Each-weaker}
use Rattle.trace_history.specs.First.{turns, less}
use Rattle.book_store.specs.Walk.{walk}
use Rattle.book_store.specs.Keys.{Key}
use Rattle.trace_history.specs.inside.Passed.{Beaten, IsOne}
use Rattle.book_store.proofs.Order.{less_asym, not_less}
use Rattle.trace_history.proofs.Order.{sooner, not_sooner}
use Rattle.book_store.proofs.KeyLaws.{key_cmp}
use Rattle.book_store.proofs.Members.{in_first, in_last}
use Rattle.book_store.proofs.Queued.{from_site, key_less, sorted_in_order, sorted_filter}
use Rattle.book_store.proofs.Queued.{each_filter, in_filter}
use Rattle.book_store.proofs.WalkLaws.{InOrder, joined_order}
use Rattle.trace_history.proofs.Walked.{walked}

-- whether a key is at a site from f on, or before it: as ranges say it
abbrev pub is_late : ℕ → Key → Bool
is_late f k = is_le (key_cmp (f, (0, 0)) k) && true

abbrev pub is_early : ℕ → Key → Bool
is_early f k = not (is_le (key_cmp (f, (0, 0)) k))

late_is : (f : ℕ) (k : Key) → is_late f k ≡ true → f ≤ k.0
late_is f k h =
    let both = and_parts (is_le (key_cmp (f, (0, 0)) k)) true h in
    let a : not (nat_lt k.0 f) ≡ true = sym (from_site f k) ∙ both.0 in
    grind (arith, nat_tests)

early_is : (f : ℕ) (k : Key) → is_early f k ≡ true → k.0 < f
early_is f k h =
    let a : not (not (nat_lt k.0 f)) ≡ true = sym (ap not (from_site f k)) ∙ h in
    grind (arith, nat_tests)

late_at : (f : ℕ) (k : Key) → f ≤ k.0 → is_late f k ≡ true
late_at f k h =
    let a : not (nat_lt k.0 f) ≡ true = grind (arith, nat_tests) in
    ap (λ t. t && true) (from_site f k ∙ a)

early_at : (f : ℕ) (k : Key) → k.0 < f → is_early f k ≡ true
early_at f k h =
    let a : not (not (nat_lt k.0 f)) ≡ true = grind (arith, nat_tests) in
    ap not (from_site f k) ∙ a

-- the keys from a site on, and then those before it
abbrev pub turned : ℕ → List Key → List Key
turned f ks = filter (is_late f) ks ++ filter (is_early f) ks

pub in_turned : (f : ℕ) (ks : List Key) (k : Key) → IsIn k ks → IsIn k (turned f ks)
in_turned f ks k at = go (cases_lt k.0 f)
  where
    go : (k.0 < f) ⊎ (f ≤ k.0) → IsIn k (turned f ks)
    go (inl h) = in_last (filter (is_late f) ks) (filter (is_early f) ks) k
        (in_filter (is_early f) ks k at (early_at f k h))
    go (inr h) = in_first (filter (is_late f) ks) (filter (is_early f) ks) k
        (in_filter (is_late f) ks k at (late_at f k h))

turns_late : (sites from s : ℕ) → from ≤ s → turns sites from s ≡ s - from
turns_late sites from s h = grind (arith, nat_tests)

turns_early : (sites from s : ℕ) → s < from → turns sites from s ≡ s + (sites - from)
turns_early sites from s h = grind (arith, nat_tests)

module _ (sites from : ℕ) where
  -- a key comes before another by the turns of their sites, where both are sites of the solution
  abbrev pub key_before : Key → Key → Bool
  key_before k j = (nat_lt k.0 sites && nat_lt j.0 sites)
      && sooner (turns sites from k.0) (less k.1.0 k.1.1 j.1.0 j.1.1) (turns sites from j.0)

  after : (k j : Key) → (k.0 < j.0 → turns sites from k.0 < turns sites from j.0)
      → key_cmp k j ≡ Less → key_before j k ≡ false
  after k j rises e =
      and_right (nat_lt j.0 sites && nat_lt k.0 sites)
      (sooner (turns sites from j.0) (less j.1.0 j.1.1 k.1.0 k.1.1) (turns sites from k.0))
      (go (key_less k j e))
    where
      go : (k.0 < j.0) ⊎ ((k.0 ≡ j.0) × (less k.1.0 k.1.1 j.1.0 j.1.1 ≡ true))
          → sooner (turns sites from j.0) (less j.1.0 j.1.1 k.1.0 k.1.1) (turns sites from k.0)
          ≡ false
      go (inl h) =
          let low = rises h in
          not_sooner (turns sites from j.0) (turns sites from k.0) (less j.1.0 j.1.1 k.1.0 k.1.1)
          (omega (arith, low)) (λ f. absurd (omega (arith, low, f)))
      go (inr h) =
          let same : turns sites from k.0 ≡ turns sites from j.0 = ap (turns sites from) h.0 in
          not_sooner (turns sites from j.0) (turns sites from k.0) (less j.1.0 j.1.1 k.1.0 k.1.1)
          (omega (arith, same)) (λ f. less_asym k.1.0 k.1.1 j.1.0 j.1.1 h.1)

  after_late : (k j : Key) → is_late from k ≡ true → is_late from j ≡ true → key_cmp k j ≡ Less
      → key_before j k ≡ false
  after_late k j a b e = after k j (λ h.
      let low = late_is from k a in
      let later = late_is from j b in
      let one = turns_late sites from k.0 low in
      let other = turns_late sites from j.0 later in
      omega (arith, h, low, later, one, other)) e

  after_early : (k j : Key) → is_early from k ≡ true → is_early from j ≡ true → key_cmp k j ≡ Less
      → key_before j k ≡ false
  after_early k j a b e = after k j (λ h.
      let one = turns_early sites from k.0 (early_is from k a) in
      let other = turns_early sites from j.0 (early_is from j b) in
      omega (arith, h, one, other)) e

  wrapped : (k j : Key) → is_late from k ≡ true → is_early from j ≡ true → key_before j k ≡ false
  wrapped k j a b = go (nat_lt j.0 sites && nat_lt k.0 sites) refl
    where
      go : (t : Bool) → nat_lt j.0 sites && nat_lt k.0 sites ≡ t
          → t
          && sooner (turns sites from j.0) (less j.1.0 j.1.1 k.1.0 k.1.1) (turns sites from k.0)
          ≡ false
      go false c = refl
      go true c =
          let both = and_parts (nat_lt j.0 sites) (nat_lt k.0 sites) c in
          let within : k.0 < sites = let d = both.1 in grind (arith, nat_tests) in
          let low = late_is from k a in
          let high = early_is from j b in
          let one = turns_late sites from k.0 low in
          let other = turns_early sites from j.0 high in
          not_sooner (turns sites from j.0) (turns sites from k.0) (less j.1.0 j.1.1 k.1.0 k.1.1)
          (omega (arith, within, low, one, other))
          (λ f. absurd (omega (arith, within, low, one, other, f)))

  in_turns : (ks : List Key) → IsStrictlySortedBy key_cmp ks → InOrder key_before (turned from ks)
  in_turns ks s =
      joined_order key_before (filter (is_late from) ks) (filter (is_early from) ks)
      (sorted_in_order key_cmp key_before (λ k. is_late from k ≡ true) after_late
      (filter (is_late from) ks) (sorted_filter key_cmp (is_late from) ks s) late)
      (sorted_in_order key_cmp key_before (λ k. is_early from k ≡ true) after_early
      (filter (is_early from) ks) (sorted_filter key_cmp (is_early from) ks s) early)
      (Each-weaker (λ k. is_late from k ≡ true)
      (λ k. Each (λ j. key_before j k ≡ false) (filter (is_early from) ks))
      (λ k a. Each-weaker (λ j. is_early from j ≡ true) (λ j. key_before j k ≡ false)
      (λ j b. wrapped k j a b) (filter (is_early from) ks) early)
      (filter (is_late from) ks) late)
    where
      late : Each (λ k. is_late from k ≡ true) (filter (is_late from) ks)
      late = each_filter (is_late from) ks

      early : Each (λ k. is_early from k ≡ true) (filter (is_early from) ks)
      early = each_filter (is_early from) ks

  -- ---- members at sites, with numbers

  module _ {X : Type 0} (site : X → ℕ) (pair : X → ℕ × ℕ) where
    abbrev pub member_before : X → X → Bool
    member_before x y = sooner (turns sites from (site x))
        (less (pair x).0 (pair x).1 (pair y).0 (pair y).1) (turns sites from (site y))

    -- the member is at the key's site, which is one of the solution, and has its number
    pub record IsAtKey (k : Key) (x : X) : Type 0 where
      pub at_site : site x ≡ k.0
      pub numbered : pair x ≡ k.1
      pub within : site x < sites

    not_itself : (x : X) → member_before x x ≡ false
    not_itself x = not_sooner (turns sites from (site x)) (turns sites from (site x))
        (less (pair x).0 (pair x).1 (pair x).0 (pair x).1) (omega arith)
        (λ e. not_less (pair x).0 (pair x).1 (pair x).0 (pair x).1 (omega arith) (λ f. omega arith))

    kept_order : (k j : Key) (x y : X) → IsAtKey k x → IsAtKey j y → key_before k j ≡ false
        → member_before x y ≡ false
    kept_order k j x y a b h =
        ap (λ (s : ℕ). sooner (turns sites from s)
        (less (pair x).0 (pair x).1 (pair y).0 (pair y).1) (turns sites from (site y))) a.at_site
        ∙ ap (λ (s : ℕ). sooner (turns sites from k.0)
        (less (pair x).0 (pair x).1 (pair y).0 (pair y).1) (turns sites from s)) b.at_site
        ∙ ap (λ (i : ℕ × ℕ). sooner (turns sites from k.0)
        (less i.0 i.1 (pair y).0 (pair y).1) (turns sites from j.0)) a.numbered
        ∙ ap (λ (i : ℕ × ℕ). sooner (turns sites from k.0)
        (less k.1.0 k.1.1 i.0 i.1) (turns sites from j.0)) b.numbered
        ∙ sym (ap (λ t. t
        && sooner (turns sites from k.0) (less k.1.0 k.1.1 j.1.0 j.1.1) (turns sites from j.0))
        (and_from (nat_lt k.0 sites) (nat_lt j.0 sites) (low k x a) (low j y b)))
        ∙ h
      where
        low : (i : Key) (z : X) → IsAtKey i z → nat_lt i.0 sites ≡ true
        low i z r = let e = r.at_site in let f = r.within in grind (arith, nat_tests)

    -- what a walk along the keys finds first
    pub first_in_turn : (find : Key → Option X) (test : X → Bool) (xs : List X) (ks : List Key)
        → IsStrictlySortedBy key_cmp ks
        → ((k : Key) (x : X) → find k ≡ Some x → IsIn x xs × (test x ≡ true) × IsAtKey k x)
        → (o : Option X) → walk find (turned from ks) ≡ o
        → IsOne test xs o
        × ((k : Key) (x : X) → IsIn k ks → find k ≡ Some x → Beaten member_before x o)
    first_in_turn find test xs ks s right o e =
        let r = walked find test member_before key_before xs (turned from ks)
        (λ k x f. let g = right k x f in (g.0, g.1)) (in_turns ks s) not_itself
        (λ k j x y f g h. kept_order k j x y (right k x f).2 (right j y g).2 h) o e in
        (r.0, λ k x at f. r.1 x (k, in_turned from ks k at, f))
