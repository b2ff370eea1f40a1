-- The walk along the index: it finds the guard that goes first, or none.
use Rattle.std.proofs.Common.{◌≡◌, ℕ, zero, suc, ◌+◌, ◌-◌, ◌<◌, ◌≤◌, Bool, true, false, cond, List}
use Rattle.std.proofs.Common.{[], ◌∷◌, length, Some, refl, sym, ap, subst, ◌∙◌, arith, eq-eqb}
use Rattle.std.specs.Prelude.{slice_get, nat_lt, ◌==◌, ◌&&◌, ◌||◌}
use Rattle.std.specs.List.{list_any, AllByRecursion}
use Rattle.std.specs.List.Sorted.{IsStrictlySortedBy}
use Rattle.std.specs.declared.cmp.Ordering.{Ordering}
use Rattle.std.specs.declared.cmp.Ordering.TheVariants.{Less, Equal, Greater}
use Rattle.std.specs.Ordering.{is_eq, ordering_then, ordering_reverse, nat_cmp}
use Rattle.std.specs.Cmp.{IsTotalOrder, then_total, on_total, nat_cmp_total}
use Rattle.std.specs.BTreeMap.{is_at}
use Rattle.std.proofs.lemmas.Option.{slice_get_within}
use Rattle.std.proofs.lemmas.Bool.Decides.{nat_tests}
use Rattle.chem_model.specs.declared.event.RuleId.{RuleId}
use Rattle.env_store.specs.declared.code.Level.{Level}
use Rattle.env_store.specs.declared.code.Guard.{Guard}
use Rattle.env_store.specs.CodeParts.{CodeParts}
use Rattle.loc_tree.specs.Tree.{Tree}
use Rattle.status_words.specs.Words.{number_of_words}
use Rattle.queue_cells.specs.Grouped.{AllHeld}
use Rattle.net_laws.specs.Site.{Group}
use Rattle.site_shelves.specs.inside.Index.{Rise}
use Rattle.site_shelves.specs.inside.Covered.{Key, Keys, key_cmp, has, Levels, Agrees}
use Rattle.site_shelves.specs.inside.Covered.{AreIndexed}
use Rattle.site_shelves.specs.inside.Fired.{IsGuardOf, IsFiredBy, NothingFiredBy, NothingFired}
use Rattle.site_shelves.specs.inside.Fired.{IsFirstFired}
use Rattle.site_shelves.specs.Guards.{Picked, PicksAt, FiresAt, rule_at, precedes, NothingFires}
use Rattle.site_shelves.specs.Guards.{FiresFirst}
use Rattle.site_shelves.proofs.Noting.{key-parts, some-is, same-place}

-- ---- the order of keys

pub key-total : IsTotalOrder key_cmp
key-total = then_total (then_total (on_total (λ (t : Key). t.0) nat_cmp_total)
    (on_total (λ (t : Key). t.1) nat_cmp_total)) (on_total (λ (t : Key). t.2) nat_cmp_total)

pub equal-is : (o : Ordering) → is_eq o ≡ true → o ≡ Equal
equal-is Less e = cc
equal-is Equal e = refl
equal-is Greater e = cc

-- a key among those that come after another one
pub in-later : (q k : Key) (ks : List Key) → AllByRecursion (λ y. key_cmp k y ≡ Less) ks
    → list_any (is_at (key_cmp q)) ks ≡ true → key_cmp k q ≡ Less
in-later q k [] after e = cc
in-later q k (x ∷ ks) after e = go (is_at (key_cmp q) x) refl (λ f. in-later q k ks after.1 f) e
  where
    go : (b : Bool) → is_at (key_cmp q) x ≡ b
        → (list_any (is_at (key_cmp q)) ks ≡ true → key_cmp k q ≡ Less)
        → b || list_any (is_at (key_cmp q)) ks ≡ true → key_cmp k q ≡ Less
    go true same later e =
        let is : key_cmp q k ≡ key_cmp x k = key-total.congr q x k (equal-is (key_cmp q x) same) in
        key-total.antisymm k q ∙ ap ordering_reverse is ∙ sym (key-total.antisymm k x) ∙ after.0
    go false same later e = later e

not-both-less : (p q : Key) → key_cmp p q ≡ Less → key_cmp q p ≡ Less → ⊥
not-both-less p q e f =
    let both : Less ≡ ordering_reverse Less =
    sym e ∙ key-total.antisymm p q ∙ ap ordering_reverse f in
    cc

not-at-itself : (p q : Key) → is_at (key_cmp p) q ≡ true → key_cmp p q ≡ Less → ⊥
not-at-itself p q e f = let both : is_eq Less ≡ true = ap is_eq (sym f) ∙ e in cc

rule-less : (a b c : Bool) (x y : Ordering) → a || (b && c) ≡ true
    → ordering_then (ordering_then (cond a Less (cond b Equal Greater)) (cond c Less x)) y ≡ Less
rule-less true b c x y e = refl
rule-less false true true x y e = refl
rule-less false true false x y e = cc
rule-less false false c x y e = cc

key-less : (r u : RuleId) (s t : ℕ) → precedes r u ≡ true
    → key_cmp (r.site, r.k, s) (u.site, u.k, t) ≡ Less
key-less r u s t e = rule-less (nat_lt r.site u.site) (r.site == u.site) (nat_lt r.k u.k)
    (cond (r.k == u.k) Equal Greater) (nat_cmp s t) e

nat-same : (n : ℕ) → nat_cmp n n ≡ Equal
nat-same n =
    let less : nat_lt n n ≡ false = grind (arith, nat_tests) in
    ap (λ b. cond b Less (cond (n == n) Equal Greater)) less
    ∙ ap (λ b. cond b Equal Greater) (eq-eqb n n refl)

nat-less : (m n : ℕ) → m < n → nat_cmp m n ≡ Less
nat-less m n h =
    let less : nat_lt m n ≡ true = grind (arith, nat_tests) in
    ap (λ b. cond b Less (cond (m == n) Equal Greater)) less

serial-less : (site k s t : ℕ) → s < t → key_cmp (site, k, s) (site, k, t) ≡ Less
serial-less site k s t h =
    ap (λ o. ordering_then (ordering_then o (nat_cmp k k)) (nat_cmp s t)) (nat-same site)
    ∙ ap (λ o. ordering_then o (nat_cmp s t)) (nat-same k)
    ∙ nat-less s t h

pub not-behind : (r u : RuleId) → precedes r u ≡ true → precedes u r ≡ false
not-behind r u e = grind (arith, nat_tests)

pub not-itself : (r : RuleId) → precedes r r ≡ false
not-itself r = grind (arith, nat_tests)

Rise-above : (least : ℕ) (ss : List ℕ) (next j s : ℕ) → Rise least ss next → slice_get ss j ≡ Some s
    → least ≤ s
Rise-above least [] next j s rise at = cc
Rise-above least (x ∷ ss) next zero s rise at = let same : x ≡ s = cc in omega (arith, rise.0)
Rise-above least (x ∷ ss) next (suc j) s rise at =
    omega (arith, rise.0, Rise-above (suc x) ss next j s rise.1 at)

serials-rise : (least : ℕ) (ss : List ℕ) (next i j s t : ℕ) → Rise least ss next
    → slice_get ss i ≡ Some s → slice_get ss j ≡ Some t → i < j → s < t
serials-rise least [] next i j s t rise at there less = cc
serials-rise least (x ∷ ss) next i zero s t rise at there less = absurd (omega arith)
serials-rise least (x ∷ ss) next zero (suc j) s t rise at there less =
    let same : x ≡ s = cc in
    omega (arith, Rise-above (suc x) ss next j t rise.1 there)
serials-rise least (x ∷ ss) next (suc i) (suc j) s t rise at there less =
    serials-rise (suc x) ss next i j s t rise.1 at there (omega arith)

-- ---- the walk

module _ (c : CodeParts) (t : Tree) (gs : List Group) (ss : List ℕ) where
  -- what is left has each key of a guard that may fire
  pub record AreLeft (all : Keys) (left : List Key) : Type 0 where
    pub sorted : IsStrictlySortedBy key_cmp left
    pub there :
        (q : Key) (j n : ℕ) → has all q ≡ true → IsFiredBy c t gs ss q j n
        → list_any (is_at (key_cmp q)) left ≡ true

  -- a key with the same parts
  same-fired : (q k : Key) (j n : ℕ) → is_at (key_cmp q) k ≡ true → IsFiredBy c t gs ss q j n
      → IsFiredBy c t gs ss k j n
  same-fired q k j n e by =
      let same = key-parts q k e in
      record {
        pick = by.pick;
        fires = by.fires;
        site = by.site ∙ same.0;
        number = by.number ∙ same.1;
        serial = by.serial ∙ ap Some same.2;
      }

  pub one-passed : (all : Keys) (k : Key) (left : List Key) → AreLeft all (k ∷ left)
      → NothingFiredBy c t gs ss k → AreLeft all left
  unfolding IsStrictlySortedBy
  one-passed all k left are none = record {
    sorted = are.sorted.1;
    there = λ q j n e by. go q j n by (is_at (key_cmp q) k) refl (are.there q j n e by);
  }
    where
      go : (q : Key) (j n : ℕ) → IsFiredBy c t gs ss q j n → (b : Bool) → is_at (key_cmp q) k ≡ b
          → b || list_any (is_at (key_cmp q)) left ≡ true → list_any (is_at (key_cmp q)) left ≡ true
      go q j n by true same e = absurd (none j n (same-fired q k j n same by))
      go q j n by false same e = e

  pub none-left : (all : Keys) → AreLeft all [] → NothingFired c t gs ss all
  none-left all are key e j n by = let f = are.there key j n e by in cc

  pub first-found : (all : Keys) (k : Key) (left : List Key) (j n : ℕ) → AreLeft all (k ∷ left)
      → IsFiredBy c t gs ss k j n → IsFirstFired c t gs ss all j n
  unfolding IsStrictlySortedBy
  first-found all k left j n are by = record {
    key = k;
    by = by;
    least = λ q i m e other less. go q less (is_at (key_cmp q) k) refl (are.there q i m e other);
  }
    where
      go : (q : Key) → key_cmp q k ≡ Less → (b : Bool) → is_at (key_cmp q) k ≡ b
          → b || list_any (is_at (key_cmp q)) left ≡ true → ⊥
      go q less true same e = not-at-itself q k same less
      go q less false same e = not-both-less q k less (in-later q k left are.sorted.0 e)

-- ---- each guard that may fire has its key

pub some-get : {X : Type 0} (xs : List X) (i : ℕ) → i < length xs
    → (x : X) × (slice_get xs i ≡ Some x)
some-get [] i less = absurd (omega arith)
some-get (x ∷ xs) zero less = (x, refl)
some-get (x ∷ xs) (suc i) less = some-get xs i (omega arith)

-- the mask of a guard is known, and is the code's
pub record IsKnown (masks : List (List ℕ)) (n : ℕ) (x : Picked) : Type 0 where
  pub mask : List ℕ
  pub at : slice_get masks (n - x.level.first) ≡ Some mask
  pub is : mask ≡ x.guard.mask.words

-- so are those of the guards with these rules
abbrev pub AreKnown : CodeParts → Levels → List Group → (RuleId → Type 0) → Type 0
AreKnown c levels gs With =
    (j n : ℕ) (x : Picked) (ms : List (List ℕ)) → PicksAt c gs j n x → With (rule_at n x)
    → slice_get levels x.group.told.inst.level ≡ Some (Some ms) → IsKnown ms n x

-- there are as many masks as guards, and the one at the guard's place is the guard's
pub known-at : (c : CodeParts) (gs : List Group) (j n : ℕ) (x : Picked) (ms : List (List ℕ))
    → PicksAt c gs j n x → length ms ≡ x.level.guards
    → ((m : List ℕ) → slice_get ms (n - x.level.first) ≡ Some m
    → slice_get c.guards (x.level.first + (n - x.level.first)) ≡ Some x.guard
    → m ≡ x.guard.mask.words)
    → IsKnown ms n x
known-at c gs j n x ms picks many same =
    let there = some-get ms (n - x.level.first) (omega (arith, many, picks.from, picks.below)) in
    let number : n ≡ x.level.first + (n - x.level.first) = omega (arith, picks.from) in
    record {
      mask = there.0;
      at = there.1;
      is = same there.0 there.1 (ap (slice_get c.guards) (sym number) ∙ picks.guard);
    }

-- any rule
abbrev pub Any : RuleId → Type 0
Any r = Unit {0}

-- where all masks are the code's
pub all-known : (c : CodeParts) (levels : Levels) (gs : List Group) → Agrees c levels
    → AreKnown c levels gs Any
all-known c levels gs agree j n x ms picks any known =
    let of = agree x.group.told.inst.level ms known x.level picks.level in
    known-at c gs j n x ms picks of.0 (λ m at guard.
    of.1 (n - x.level.first) m x.guard (slice_get_within ms (n - x.level.first) m at) at guard)

module _ (c : CodeParts) (levels : Levels) (ks : Keys) (ss : List ℕ) (gs : List Group)
    (With : RuleId → Type 0) (known : AreKnown c levels gs With) (many : length ss ≡ length gs)
    (are : AreIndexed levels ks ss gs) where
  serial-of : (j : ℕ) (g : Group) → slice_get gs j ≡ Some g → (s : ℕ) × (slice_get ss j ≡ Some s)
  serial-of j g at =
      let within = slice_get_within gs j g at in
      some-get ss j (omega (arith, within))

  pub guard-wide : (j n : ℕ) (x : Picked) → PicksAt c gs j n x → With (rule_at n x)
      → length x.guard.mask.words ≡ number_of_words (length x.group.queues)
  guard-wide j n x picks here =
      let serial = serial-of j x.group picks.group in
      let is = are j serial.0 x.group serial.1 picks.group in
      let mask = known j n x is.masks picks here is.known in
      ap length (sym mask.is) ∙ (is.noted (n - x.level.first) mask.mask mask.at).wide

  keyed : (t : Tree) (j n s : ℕ) (x : Picked) → FiresAt c t gs j n x → With (rule_at n x)
      → slice_get ss j ≡ Some s → has ks ((rule_at n x).site, (rule_at n x).k, s) ≡ true
  keyed t j n s x fires here serial =
      let picks = fires.covers.picks in
      let is = are j s x.group serial picks.group in
      let mask = known j n x is.masks picks here is.known in
      (is.noted (n - x.level.first) mask.mask mask.at).entered
      (subst (AllHeld x.group.queues) (sym mask.is) fires.covers.held)

  own-key : (t : Tree) (j n s : ℕ) (x : Picked) → FiresAt c t gs j n x → slice_get ss j ≡ Some s
      → IsFiredBy c t gs ss ((rule_at n x).site, (rule_at n x).k, s) j n
  own-key t j n s x fires serial =
      record { pick = x; fires = fires; site = refl; number = refl; serial = serial }

  pub nothing-fires : (t : Tree) → ((r : RuleId) → With r) → NothingFired c t gs ss ks
      → NothingFires c t gs
  nothing-fires t all none j n x fires =
      let serial = serial-of j x.group fires.covers.picks.group in
      none ((rule_at n x).site, (rule_at n x).k, serial.0)
      (keyed t j n serial.0 x fires (all (rule_at n x)) serial.1) j
      n (own-key t j n serial.0 x fires serial.1)

  module _ (t : Tree) (next : ℕ) (rise : Rise 0 ss next) (j n : ℕ)
      (first : IsFirstFired c t gs ss ks j n)
      (until : (r : RuleId) → precedes (rule_at n first.by.pick) r ≡ false → With r) where
    -- no guard that may fire has a lesser key
    none-less : (i m s : ℕ) (y : Picked) → FiresAt c t gs i m y → With (rule_at m y)
        → slice_get ss i ≡ Some s → key_cmp ((rule_at m y).site, (rule_at m y).k, s)
        ((rule_at n first.by.pick).site, (rule_at n first.by.pick).k, first.key.2) ≡ Less → ⊥
    none-less i m s y fires here serial less =
        let q : Key = ((rule_at m y).site, (rule_at m y).k, s) in
        first.least q i m (keyed t i m s y fires here serial) (own-key t i m s y fires serial)
        (ap (λ z. key_cmp q (z, first.key.1, first.key.2)) (sym first.by.site)
        ∙ ap (λ z. key_cmp q ((rule_at n first.by.pick).site, z, first.key.2)) (sym first.by.number)
        ∙ less)

    rule-least : (i m : ℕ) (y : Picked) → FiresAt c t gs i m y
        → precedes (rule_at m y) (rule_at n first.by.pick) ≡ false
    rule-least i m y fires = go (precedes (rule_at m y) (rule_at n first.by.pick)) refl
      where
        go : (b : Bool) → precedes (rule_at m y) (rule_at n first.by.pick) ≡ b → b ≡ false
        go true e =
            let serial = serial-of i y.group fires.covers.picks.group in
            absurd (none-less i m serial.0 y fires
            (until (rule_at m y) (not-behind (rule_at m y) (rule_at n first.by.pick) e))
            serial.1 (key-less (rule_at m y) (rule_at n first.by.pick) serial.0 first.key.2 e))
        go false e = refl

    group-first : (i m : ℕ) (y : Picked) → FiresAt c t gs i m y
        → rule_at m y ≡ rule_at n first.by.pick → j ≤ i
    group-first i m y fires same = go (nat_lt i j) refl
      where
        go : (b : Bool) → nat_lt i j ≡ b → j ≤ i
        go true e =
            let less : i < j = grind (arith, nat_tests) in
            let serial = serial-of i y.group fires.covers.picks.group in
            let serials =
            serials-rise 0 ss next i j serial.0 first.key.2 rise serial.1 first.by.serial less in
            absurd (none-less i m serial.0 y fires
            (until (rule_at m y) (ap (precedes (rule_at n first.by.pick)) same
            ∙ not-itself (rule_at n first.by.pick)))
            serial.1 (ap (λ (r : RuleId). key_cmp (r.site, r.k, serial.0)
            ((rule_at n first.by.pick).site, (rule_at n first.by.pick).k, first.key.2)) same
            ∙ serial-less (rule_at n first.by.pick).site (rule_at n first.by.pick).k serial.0
            first.key.2 serials))
        go false e = grind (arith, nat_tests)

    pub fires-first : FiresFirst c t gs j n
    fires-first = record {
      pick = first.by.pick;
      fires = first.by.fires;
      least = rule-least;
      first = group-first;
    }

-- ---- what a key tells of its guard

module _ (c : CodeParts) (t : Tree) (gs : List Group) (ss : List ℕ) (next : ℕ)
    (rise : Rise 0 ss next) (key : Key) (i : ℕ) (g : Group) (serial : slice_get ss i ≡ Some key.2)
    (at : slice_get gs i ≡ Some g) where
  -- a guard of this key is one of the group
  record IsHere (j n : ℕ) (x : Picked) : Type 0 where
    place : j ≡ i
    group : x.group ≡ g
    guard : IsGuardOf c g.told key n

  here : (j n : ℕ) → (by : IsFiredBy c t gs ss key j n) → IsHere j n by.pick
  here j n by =
      let x = by.pick in
      let picks = by.fires.covers.picks in
      let place = same-place ss next j i key.2 key.2 rise by.serial serial refl in
      let group : x.group ≡ g =
      some-is (slice_get gs j) x.group g picks.group (ap (slice_get gs) place ∙ at) in
      record {
        place = place;
        group = group;
        guard = record {
          level = x.level;
          level_is =
              ap (λ (h : Group). slice_get c.levels h.told.inst.level) (sym group) ∙ picks.level;
          from = picks.from;
          below = picks.below;
          there = slice_get_within c.guards n x.guard picks.guard;
          site = ap (λ (h : Group). h.told.inst.rules.site) (sym group) ∙ by.site;
          number =
              ap (λ (h : Group). h.told.inst.rules.k + (n - x.level.first)) (sym group) ∙ by.number;
        };
      }

  -- there is one guard at most
  same-guard : (m n : ℕ) → IsGuardOf c g.told key m → IsGuardOf c g.told key n → m ≡ n
  same-guard m n a b =
      let level : a.level ≡ b.level =
      some-is (slice_get c.levels g.told.inst.level) a.level b.level a.level_is b.level_is in
      let first : a.level.first ≡ b.level.first = ap (λ (l : Level). l.first) level in
      omega (arith, first, a.from, b.from, a.number, b.number)

  pub no-guard : ((n : ℕ) → IsGuardOf c g.told key n → ⊥) → NothingFiredBy c t gs ss key
  no-guard none j n by = none n (here j n by).guard

  pub picked-by : (n : ℕ) (u : Guard) → (is : IsGuardOf c g.told key n)
      → slice_get c.guards n ≡ Some u
      → PicksAt c gs i n (record { group = g; level = is.level; guard = u })
  picked-by n u is guard =
      record { group = at; level = is.level_is; guard = guard; from = is.from; below = is.below }

  pub fired-by : (n : ℕ) (u : Guard) → (is : IsGuardOf c g.told key n)
      → slice_get c.guards n ≡ Some u
      → FiresAt c t gs i n (record { group = g; level = is.level; guard = u })
      → IsFiredBy c t gs ss key i n
  fired-by n u is guard fires = record {
    pick = record { group = g; level = is.level; guard = u };
    fires = fires;
    site = is.site;
    number = is.number;
    serial = serial;
  }

  -- where it doesn't fire, none does
  pub not-fired : (n : ℕ) (u : Guard) → IsGuardOf c g.told key n → slice_get c.guards n ≡ Some u
      → ((x : Picked) → x.group ≡ g → x.guard ≡ u → (m : ℕ) → FiresAt c t gs i m x → ⊥)
      → NothingFiredBy c t gs ss key
  not-fired n u is guard none j m by =
      let h = here j m by in
      let same : m ≡ n = same-guard m n h.guard is in
      let u-is : by.pick.guard ≡ u =
      some-is (slice_get c.guards m) by.pick.guard u
      by.fires.covers.picks.guard (ap (slice_get c.guards) same ∙ guard) in
      none by.pick h.group u-is m (subst (λ k. FiresAt c t gs k m by.pick) h.place by.fires)
