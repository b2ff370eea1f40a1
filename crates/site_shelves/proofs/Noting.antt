-- The index of covered guards: its keys, and which groups it is right for.
use Rattle.std.proofs.Common.{◌≡◌, ℕ, zero, suc, ◌+◌, ◌<◌, ◌≤◌, Bool, true, false, cond, List, []}
use Rattle.std.proofs.Common.{◌∷◌, ◌++◌, length, Option, Some, None, refl, sym, ap, subst, ◌∙◌}
use Rattle.std.proofs.Common.{arith, eqb-true, eq-eqb, inl, inr, ◌⊎◌}
use Rattle.std.specs.Prelude.{slice_get, slice_set, ◌==◌, nat_lt}
use Rattle.std.specs.declared.cmp.Ordering.{Ordering}
use Rattle.std.specs.declared.cmp.Ordering.TheVariants.{Less, Equal, Greater}
use Rattle.std.specs.Ordering.{is_eq, ordering_then, nat_cmp}
use Rattle.std.specs.BTreeMap.{is_at}
use Rattle.std.proofs.lemmas.Option.{slice_get_within}
use Rattle.std.proofs.lemmas.Bool.Decides.{nat_tests}
use Rattle.chem_model.specs.declared.event.RuleId.{RuleId}
use Rattle.chem_model.specs.declared.name.Loc.{Loc}
use Rattle.chem_model.specs.Solution.{same_loc}
use Rattle.wire_packet.specs.MessageFacts.{MessageParts}
use Rattle.queue_cells.specs.Grouped.{lists_at, with_queue}
use Rattle.net_laws.specs.Site.{Told, Group, told_in}
use Rattle.net_laws.specs.Parcels.{groups_but}
use Rattle.site_shelves.specs.declared.covering.Covering.{Covering}
use Rattle.site_shelves.specs.declared.told.Spots.{Spots}
use Rattle.site_shelves.specs.inside.Index.{Rows, groups_of, Rise, place_of, IsIndex}
use Rattle.site_shelves.specs.inside.Forgotten.{serials_but}
use Rattle.site_shelves.specs.inside.Covered.{Key, Keys, key_cmp, key_at, KeepsAllBut}
use Rattle.site_shelves.specs.inside.Covered.{KeepsOthers, Levels, KeepsLevels, SameLevels}
use Rattle.site_shelves.specs.inside.Covered.{IsNoted, AreNoted, IsIndexed, AreIndexed}
use Rattle.site_shelves.specs.inside.Covered.{AreIndexedBut, AreIndexedAway, HasSerials}
use Rattle.site_shelves.specs.inside.Covered.{IsCovering, IsCoveringBut, IsCoveringAway}
use Rattle.site_shelves.proofs.CoveredBelow.{NotedBelow}
use Rattle.site_shelves.proofs.Queueing.{group-at, groups-many}

-- ---- keys

then-equal : (a b : Ordering) → is_eq (ordering_then a b) ≡ true
    → (is_eq a ≡ true) × (is_eq b ≡ true)
then-equal Less b e = cc
then-equal Equal b e = (refl, e)
then-equal Greater b e = cc

eq-nat : (x y : ℕ) → is_eq (nat_cmp x y) ≡ true → x ≡ y
eq-nat x y e = go (nat_lt x y) (x == y) refl e
  where
    go : (a b : Bool) → (x == y) ≡ b → is_eq (cond a Less (cond b Equal Greater)) ≡ true → x ≡ y
    go true b s e = cc
    go false true s e = eqb-true x y s
    go false false s e = cc

pub key-parts : (p q : Key) → is_at (key_cmp p) q ≡ true → (p.0 ≡ q.0) × (p.1 ≡ q.1) × (p.2 ≡ q.2)
key-parts p q e =
    let both = then-equal (ordering_then (nat_cmp p.0 q.0) (nat_cmp p.1 q.1)) (nat_cmp p.2 q.2) e in
    let first = then-equal (nat_cmp p.0 q.0) (nat_cmp p.1 q.1) both.0 in
    (eq-nat p.0 q.0 first.0, eq-nat p.1 q.1 first.1, eq-nat p.2 q.2 both.1)

pub key-same : (p q : Key) → is_at (key_cmp p) q ≡ true → (p.1 ≡ q.1) × (p.2 ≡ q.2)
key-same p q e = let all = key-parts p q e in (all.1, all.2)

pub not-at : (p q : Key) → (is_at (key_cmp p) q ≡ true → ⊥) → is_at (key_cmp p) q ≡ false
not-at p q no-way = go (is_at (key_cmp p) q) refl
  where
    go : (b : Bool) → is_at (key_cmp p) q ≡ b → is_at (key_cmp p) q ≡ false
    go true e = absurd (no-way e)
    go false e = e

pub others-next : (s x y : ℕ) (a b c : Keys) → KeepsOthers s a b → KeepsAllBut (x, y, s) b c
    → KeepsOthers s a c
others-next s x y a b c before step q other =
    step q (not-at (x, y, s) q (λ e. other (sym (key-same (x, y, s) q e).1))) ∙ before q other

-- ---- the guards of one group, one after another

pub below-or : (i n : ℕ) → i < n + 1 → (i < n) ⊎ (i ≡ n)
below-or i n h = go (nat_lt i n) refl
  where
    go : (b : Bool) → nat_lt i n ≡ b → (i < n) ⊎ (i ≡ n)
    go true e = inl (grind (arith, nat_tests))
    go false e = inr (grind (arith, nat_tests))

pub noted-none :
    (ks : Keys) (r : RuleId) (s : ℕ) (masks : List (List ℕ)) (qs : List (List MessageParts))
    → NotedBelow 0 ks r s masks qs
noted-none ks r s masks qs i m less at = absurd (omega arith)

pub noted-more :
    (n : ℕ) (ks new : Keys) (r : RuleId) (s : ℕ) (masks : List (List ℕ))
    (qs : List (List MessageParts)) (mask : List ℕ) → NotedBelow n ks r s masks qs
    → slice_get masks n ≡ Some mask → IsNoted new (key_at r n s) qs mask
    → KeepsAllBut (key_at r n s) ks new → NotedBelow (n + 1) new r s masks qs
noted-more n ks new r s masks qs mask below at noted keeps i m less here =
    elim (below-or i n less) [
      | inl lower ↦
          let was = below i m lower here in
          let other = not-at (key_at r n s) (key_at r i s)
          (λ e. omega (arith, (key-same (key_at r n s) (key_at r i s) e).0)) in
          record {
            wide = was.wide;
            entered = λ held. keeps (key_at r i s) other ∙ was.entered held;
          }
      | inr same ↦
          let is : Some m ≡ Some mask = sym here ∙ ap (slice_get masks) same ∙ at in
          let m-is : mask ≡ m = cc in
          subst (λ j. IsNoted new (key_at r j s) qs m) (sym same)
          (subst (IsNoted new (key_at r n s) qs) m-is noted)
    ]

pub noted-all :
    (n : ℕ) (ks : Keys) (r : RuleId) (s : ℕ) (masks : List (List ℕ)) (qs : List (List MessageParts))
    → length masks ≤ n → NotedBelow n ks r s masks qs → AreNoted ks r s masks qs
noted-all n ks r s masks qs all below i m at =
    below i m (omega (arith, slice_get_within masks i m at)) at

pub indexed-at :
    (levels : Levels) (ks : Keys) (s : ℕ) (qs : Rows) (j : ℕ) (d : Told) (masks : List (List ℕ))
    (g : Group) → slice_get qs j ≡ Some (record { told = d; lists = lists_at qs j })
    → slice_get levels d.inst.level ≡ Some (Some masks)
    → AreNoted ks d.inst.rules s masks (lists_at qs j) → slice_get (groups_of qs) j ≡ Some g
    → IsIndexed levels ks s g
indexed-at levels ks s qs j d masks g at known noted here =
    let both : Some (record { told = d; queues = lists_at qs j }) ≡ Some g =
    sym (group-at qs j (record { told = d; lists = lists_at qs j }) at) ∙ here in
    let is : record { told = d; queues = lists_at qs j } ≡ g = cc in
    subst (IsIndexed levels ks s) is (record { masks = masks; known = known; noted = noted })

pub not-both : (b : Bool) → b ≡ true → b ≡ false → ⊥
not-both true e f = cc
not-both false e f = cc

-- ---- serials

Rise-get : (least : ℕ) (ss : List ℕ) (next j s : ℕ) → Rise least ss next → slice_get ss j ≡ Some s
    → least ≤ s
Rise-get least [] next j s rise at = cc
Rise-get least (x ∷ ss) next zero s rise at = let same : x ≡ s = cc in omega (arith, rise.0)
Rise-get least (x ∷ ss) next (suc j) s rise at =
    omega (arith, rise.0, Rise-get (suc x) ss next j s rise.1 at)

pub placed-at : (least : ℕ) (ss : List ℕ) (next j s : ℕ) → Rise least ss next
    → slice_get ss j ≡ Some s → place_of s ss ≡ j
placed-at least [] next j s rise at = cc
placed-at least (x ∷ ss) next zero s rise at =
    let same : x ≡ s = cc in
    let test : nat_lt x s ≡ false = grind (arith, nat_tests) in
    ap (λ b. cond b (suc (place_of s ss)) 0) test
placed-at least (x ∷ ss) next (suc j) s rise at =
    let more = Rise-get (suc x) ss next j s rise.1 at in
    let test : nat_lt x s ≡ true = grind (arith, nat_tests) in
    ap (λ b. cond b (suc (place_of s ss)) 0) test ∙ ap suc (placed-at (suc x) ss next j s rise.1 at)

pub same-place : (ss : List ℕ) (next i j s t : ℕ) → Rise 0 ss next → slice_get ss i ≡ Some s
    → slice_get ss j ≡ Some t → s ≡ t → i ≡ j
same-place ss next i j s t rise at there same = sym (placed-at 0 ss next i s rise at)
    ∙ ap (λ n. place_of n ss) same ∙ placed-at 0 ss next j t rise there

pub some-is : {X : Type 0} (o : Option X) (x y : X) → o ≡ Some x → o ≡ Some y → x ≡ y
some-is o x y a b = let both : Some x ≡ Some y = sym a ∙ b in cc

-- ---- which groups the index is right for

with-keys : (levels : Levels) (ks new : Keys) (s t : ℕ) (g : Group) → (t ≡ s → ⊥)
    → KeepsOthers s ks new → IsIndexed levels ks t g → IsIndexed levels new t g
with-keys levels ks new s t g other keeps is = record {
  masks = is.masks;
  known = is.known;
  noted = λ i m at.
      let was = is.noted i m at in
      record {
        wide = was.wide;
        entered = λ held. keeps (key_at g.told.inst.rules i t) other ∙ was.entered held;
      };
}

with-levels : (levels new : Levels) (ks : Keys) (s : ℕ) (g : Group) → KeepsLevels levels new
    → IsIndexed levels ks s g → IsIndexed new ks s g
with-levels levels new ks s g keeps is =
    record { masks = is.masks; known = keeps g.told.inst.level is.masks is.known; noted = is.noted }

pub learned : (levels new : Levels) (ks : Keys) (ss : List ℕ) (gs : List Group)
    → KeepsLevels levels new → AreIndexed levels ks ss gs → AreIndexed new ks ss gs
learned levels new ks ss gs keeps are j s g serial at =
    with-levels levels new ks s g keeps (are j s g serial at)

pub all-but : (levels : Levels) (ks : Keys) (ss : List ℕ) (gs : List Group) (i : ℕ) → length gs ≤ i
    → AreIndexedBut levels ks ss gs i → AreIndexed levels ks ss gs
all-but levels ks ss gs i past are j s g serial at = are j s g
    (λ same. let within = slice_get_within gs j g at in omega (arith, within, same)) serial at

pub refreshed :
    (levels : Levels) (ks new : Keys) (ss : List ℕ) (next : ℕ) (gs : List Group) (i s : ℕ)
    → Rise 0 ss next → slice_get ss i ≡ Some s → AreIndexedBut levels ks ss gs i
    → KeepsOthers s ks new → ((g : Group) → slice_get gs i ≡ Some g → IsIndexed levels new s g)
    → AreIndexed levels new ss gs
refreshed levels ks new ss next gs i s rise at are keeps done j t g serial here = go (j == i) refl
  where
    go : (b : Bool) → (j == i) ≡ b → IsIndexed levels new t g
    go true e =
        let same = eqb-true j i e in
        let t-is : t ≡ s = some-is (slice_get ss j) t s serial (ap (slice_get ss) same ∙ at) in
        subst (λ k. IsIndexed levels new k g) (sym t-is)
        (done g (sym (ap (slice_get gs) same) ∙ here))
    go false e =
        let differ : (j ≡ i) → ⊥ = λ same. let f : true ≡ false = sym (eq-eqb j i same) ∙ e in cc in
        with-keys levels ks new s t g
        (λ same. differ (same-place ss next j i t s rise serial at same)) keeps
        (are j t g differ serial here)

pub serials-known : (spots : Spots) (qs : Rows) → IsIndex spots (groups_of qs)
    → HasSerials spots (length qs)
serials-known spots qs index = record { many = index.many ∙ groups-many qs; rise = index.rise }

pub with-queue-many : (qs : Rows) (i c : ℕ) (ms : List MessageParts)
    → length (with_queue qs i c ms) ≡ length qs
with-queue-many [] i c ms = refl
with-queue-many (q ∷ qs) zero c ms = refl
with-queue-many (q ∷ qs) (suc i) c ms = ap suc (with-queue-many qs i c ms)

-- ---- a queue changes

pub get-other : (qs : Rows) (i c : ℕ) (ms : List MessageParts) (j : ℕ) → (j ≡ i → ⊥)
    → slice_get (groups_of (with_queue qs i c ms)) j ≡ slice_get (groups_of qs) j
get-other [] i c ms j other = refl
get-other (q ∷ qs) zero c ms zero other = absurd (other refl)
get-other (q ∷ qs) zero c ms (suc j) other = refl
get-other (q ∷ qs) (suc i) c ms zero other = refl
get-other (q ∷ qs) (suc i) c ms (suc j) other = get-other qs i c ms j (λ e. other (ap suc e))

pub queue-changed :
    (levels : Levels) (ks : Keys) (ss : List ℕ) (qs : Rows) (i c : ℕ) (ms : List MessageParts)
    → AreIndexed levels ks ss (groups_of qs)
    → AreIndexedBut levels ks ss (groups_of (with_queue qs i c ms)) i
queue-changed levels ks ss qs i c ms are j s g other serial at =
    are j s g serial (sym (get-other qs i c ms j other) ∙ at)

pub set-other : {X : Type 0} (xs : List X) (i j : ℕ) (x : X) → (j ≡ i → ⊥)
    → slice_get (slice_set xs i x) j ≡ slice_get xs j
set-other [] i j x other = refl
set-other (y ∷ xs) zero zero x other = absurd (other refl)
set-other (y ∷ xs) zero (suc j) x other = refl
set-other (y ∷ xs) (suc i) zero x other = refl
set-other (y ∷ xs) (suc i) (suc j) x other = set-other xs i j x (λ e. other (ap suc e))

-- ---- a group comes

push-other : (ss : List ℕ) (gs : List Group) (t : ℕ) (h : Group) (j s : ℕ) (g : Group)
    → length ss ≡ length gs → (j ≡ length gs → ⊥) → slice_get (ss ++ t ∷ []) j ≡ Some s
    → slice_get (gs ++ h ∷ []) j ≡ Some g → (slice_get ss j ≡ Some s) × (slice_get gs j ≡ Some g)
push-other [] [] t h zero s g many other serial at = absurd (other refl)
push-other [] [] t h (suc j) s g many other serial at = cc
push-other [] (x ∷ gs) t h j s g many other serial at = absurd (omega arith)
push-other (r ∷ ss) [] t h j s g many other serial at = absurd (omega arith)
push-other (r ∷ ss) (x ∷ gs) t h zero s g many other serial at = (serial, at)
push-other (r ∷ ss) (x ∷ gs) t h (suc j) s g many other serial at =
    push-other ss gs t h j s g (omega arith) (λ e. other (ap suc e)) serial at

pub group-added : (levels : Levels) (ks : Keys) (ss : List ℕ) (gs : List Group) (t : ℕ) (h : Group)
    → length ss ≡ length gs → AreIndexed levels ks ss gs
    → AreIndexedBut levels ks (ss ++ t ∷ []) (gs ++ h ∷ []) (length gs)
group-added levels ks ss gs t h many are j s g other serial at =
    let both = push-other ss gs t h j s g many other serial at in
    are j s g both.0 both.1

pub group-covering :
    (a : Covering) (ss more : List ℕ) (gs new : List Group) (t : ℕ) (h : Group) (n : ℕ)
    → length ss ≡ length gs → n ≡ length gs → more ≡ ss ++ t ∷ [] → new ≡ gs ++ h ∷ []
    → IsCovering a ss gs → IsCoveringBut n a more new
group-covering a ss more gs new t h n many place serials groups covering e =
    subst (λ k. AreIndexedBut a.levels.items a.keys more new k) (sym place)
    (subst (λ (hs : List Group). AreIndexedBut a.levels.items a.keys more hs (length gs))
    (sym groups)
    (subst (λ xs. AreIndexedBut a.levels.items a.keys xs (gs ++ h ∷ []) (length gs)) (sym serials)
    (group-added a.levels.items a.keys ss gs t h many (covering e))))

-- ---- groups go

pub away-next :
    (levels : Levels) (ks new : Keys) (ss : List ℕ) (next : ℕ) (gs : List Group) (l : Loc) (i s : ℕ)
    (h : Group) → Rise 0 ss next → slice_get ss i ≡ Some s → slice_get gs i ≡ Some h
    → same_loc l h.told.inst.loc ≡ true → KeepsOthers s ks new → AreIndexedAway levels ks ss gs l
    → AreIndexedAway levels new ss gs l
away-next levels ks new ss next gs l i s h rise at here stands keeps are j t g away serial there =
    with-keys levels ks new s t g differ keeps (are j t g away serial there)
  where
    differ : t ≡ s → ⊥
    differ same =
        let place = same-place ss next j i t s rise serial at same in
        let g-is : g ≡ h = some-is (slice_get gs j) g h there (ap (slice_get gs) place ∙ here) in
        let both : true ≡ false =
        sym stands ∙ ap (λ (x : Group). same_loc l x.told.inst.loc) (sym g-is) ∙ away in
        cc

-- a group is looked at: where it stands at the location its keys go
pub away-step :
    (levels : Levels) (ks new : Keys) (ss : List ℕ) (next : ℕ) (gs : List Group) (l : Loc) (i s : ℕ)
    (h : Group) → Rise 0 ss next → slice_get ss i ≡ Some s → slice_get gs i ≡ Some h
    → (same_loc l h.told.inst.loc ≡ true → KeepsOthers s ks new)
    → (same_loc l h.told.inst.loc ≡ false → new ≡ ks) → AreIndexedAway levels ks ss gs l
    → AreIndexedAway levels new ss gs l
away-step levels ks new ss next gs l i s h rise at here stands away are =
    go (same_loc l h.told.inst.loc) refl
  where
    go : (b : Bool) → same_loc l h.told.inst.loc ≡ b → AreIndexedAway levels new ss gs l
    go true e = away-next levels ks new ss next gs l i s h rise at here e (stands e) are
    go false e = subst (λ (x : Keys). AreIndexedAway levels x ss gs l) (sym (away e)) are

record IsLeft (l : Loc) (ss : List ℕ) (gs : List Group) (s : ℕ) (g : Group) : Type 0 where
  place : ℕ
  serial : slice_get ss place ≡ Some s
  at : slice_get gs place ≡ Some g
  away : same_loc l g.told.inst.loc ≡ false

left-later : (l : Loc) (r : ℕ) (ss : List ℕ) (h : Group) (gs : List Group) (s : ℕ) (g : Group)
    → IsLeft l ss gs s g → IsLeft l (r ∷ ss) (h ∷ gs) s g
left-later l r ss h gs s g is =
    record { place = suc is.place; serial = is.serial; at = is.at; away = is.away }

left-at : (l : Loc) (ss : List ℕ) (gs : List Group) (j s : ℕ) (g : Group)
    → slice_get (serials_but l ss (told_in gs)) j ≡ Some s → slice_get (groups_but l gs) j ≡ Some g
    → IsLeft l ss gs s g
left-at l [] gs j s g serial at = cc
left-at l (r ∷ ss) [] j s g serial at = cc
left-at l (r ∷ ss) (h ∷ gs) j s g serial at =
    go (same_loc l h.told.inst.loc) refl (λ k e f. left-at l ss gs k s g e f) j serial at
  where
    go : (b : Bool) → same_loc l h.told.inst.loc ≡ b
        → ((k : ℕ) → slice_get (serials_but l ss (told_in gs)) k ≡ Some s
        → slice_get (groups_but l gs) k ≡ Some g → IsLeft l ss gs s g)
        → (k : ℕ)
        → slice_get (cond b (serials_but l ss (told_in gs)) (r ∷ serials_but l ss (told_in gs))) k
        ≡ Some s → slice_get (cond b (groups_but l gs) (h ∷ groups_but l gs)) k ≡ Some g
        → IsLeft l (r ∷ ss) (h ∷ gs) s g
    go true e later k serial at = left-later l r ss h gs s g (later k serial at)
    go false e later zero serial at =
        let g-is : h ≡ g = cc in
        record {
          place = 0;
          serial = serial;
          at = at;
          away = ap (λ (x : Group). same_loc l x.told.inst.loc) (sym g-is) ∙ e;
        }
    go false e later (suc k) serial at = left-later l r ss h gs s g (later k serial at)

pub groups-gone : (levels : Levels) (ks : Keys) (ss : List ℕ) (gs : List Group) (l : Loc)
    → AreIndexedAway levels ks ss gs l
    → AreIndexed levels ks (serials_but l ss (told_in gs)) (groups_but l gs)
groups-gone levels ks ss gs l are j s g serial at =
    let is = left-at l ss gs j s g serial at in
    are is.place s g is.away is.serial is.at

pub left-covering : (a : Covering) (ss left : List ℕ) (gs new : List Group) (l : Loc)
    → left ≡ serials_but l ss (told_in gs) → new ≡ groups_but l gs → IsCoveringAway l a ss gs
    → IsCovering a left new
left-covering a ss left gs new l serials groups away e =
    subst (λ (hs : List Group). AreIndexed a.levels.items a.keys left hs) (sym groups)
    (subst (λ xs. AreIndexed a.levels.items a.keys xs (groups_but l gs)) (sym serials)
    (groups-gone a.levels.items a.keys ss gs l (away e)))

-- the same groups with the same serials
pub same-covering : (a : Covering) (ss more : List ℕ) (gs new : List Group) → more ≡ ss → new ≡ gs
    → IsCovering a ss gs → IsCovering a more new
same-covering a ss more gs new serials groups covering =
    subst (IsCovering a more) (sym groups) (subst (λ xs. IsCovering a xs gs) (sym serials) covering)

-- ---- levels

get-push : {X : Type 0} (xs : List X) (y : X) (v : ℕ) (x : X) → slice_get xs v ≡ Some x
    → slice_get (xs ++ y ∷ []) v ≡ Some x
get-push [] y v x at = cc
get-push (z ∷ xs) y zero x at = at
get-push (z ∷ xs) y (suc v) x at = get-push xs y v x at

push-get : (levels : Levels) (v : ℕ) (ms : List (List ℕ))
    → slice_get (levels ++ None ∷ []) v ≡ Some (Some ms) → slice_get levels v ≡ Some (Some ms)
push-get [] zero ms at = let none : ◌≡◌ {A = Option (List (List ℕ))} None (Some ms) = cc in cc
push-get [] (suc v) ms at = cc
push-get (z ∷ levels) zero ms at = at
push-get (z ∷ levels) (suc v) ms at = push-get levels v ms at

pub levels-more : (old now : Levels) → SameLevels old now → SameLevels old (now ++ None ∷ [])
levels-more old now same v ms = (
  λ at. get-push now None v (Some ms) ((same v ms).0 at),
  λ at. (same v ms).1 (push-get now v ms at),
)

pub level-set : (old now : Levels) (v : ℕ) (masks : List (List ℕ))
    → ((ms : List (List ℕ)) → slice_get old v ≡ Some (Some ms) → ⊥) → SameLevels old now
    → KeepsLevels old (slice_set now v (Some masks))
level-set old now v masks absent same w ms at = go (w == v) refl
  where
    go : (b : Bool) → (w == v) ≡ b → slice_get (slice_set now v (Some masks)) w ≡ Some (Some ms)
    go true e = absurd (absent ms (sym (ap (slice_get old) (eqb-true w v e)) ∙ at))
    go false e =
        let differ : (w ≡ v) → ⊥ = λ is. let f : true ≡ false = sym (eq-eqb w v is) ∙ e in cc in
        set-other now v w (Some masks) differ ∙ (same w ms).0 at
