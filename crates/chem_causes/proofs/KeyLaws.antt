-- Keys of channels in a set.
use Rattle.std.proofs.Common.{◌≡◌, ℕ, ◌+◌, ◌<◌, ◌≤◌, List, [], ◌∷◌, Some, None, Bool, true, false}
use Rattle.std.proofs.Common.{refl, ap, sym, ◌∙◌, arith, ◌&&◌, ◌||◌, ◌==◌, eqb-true, Ordering, Less}
use Rattle.std.proofs.Common.{Equal, Greater, length, drop, get_or}
use Rattle.std.specs.List.{list_any}
use Rattle.std.specs.Ordering.{is_eq, nat_cmp, ordering_then, match_ordering}
use Rattle.std.specs.BTreeSet.{insert_key}
use Rattle.std.specs.BTreeMap.{is_at}
use Rattle.std.proofs.lemmas.Bool.Decides.{nat_tests}
use Rattle.std.proofs.lemmas.List.{drop_more, drop_all}
use Rattle.chem_laws.proofs.Lists.{or_assoc}
use Rattle.chem_model.specs.declared.name.Name.TheVariants as name
use Rattle.chem_model.specs.declared.name.Ref.{Ref}
use Rattle.chem_model.specs.declared.name.Ref.TheVariants.{Binder, Known}
use Rattle.chem_model.specs.Apply.{same_ref}
use Rattle.chem_causes.specs.Cause.{IsChannel}
use Rattle.chem_causes.specs.Channels.{Key, key_of, is_key, has, Adds}

abbrev pub key_cmp : Key → Key → Ordering
key_cmp x y = ordering_then (ordering_then (nat_cmp x.0.0 y.0.0) (nat_cmp x.0.1 y.0.1))
    (ordering_then (ordering_then (nat_cmp x.1.0.0 y.1.0.0) (nat_cmp x.1.0.1 y.1.0.1))
    (nat_cmp x.1.1 y.1.1))

is_eq-nat_cmp : (x y : ℕ) → is_eq (nat_cmp x y) ≡ (y == x)
is_eq-nat_cmp x y = grind (arith, nat_tests)

is_eq-then : (o p : Ordering) → is_eq (ordering_then o p) ≡ is_eq o && is_eq p
is_eq-then Less p = refl
is_eq-then Equal p = refl
is_eq-then Greater p = refl

pair_is : (a b c d : ℕ) → is_eq (ordering_then (nat_cmp a c) (nat_cmp b d)) ≡ (c == a) && (d == b)
pair_is a b c d =
    is_eq-then (nat_cmp a c) (nat_cmp b d) ∙ ap (λ t. t && is_eq (nat_cmp b d)) (is_eq-nat_cmp a c)
    ∙ ap (λ t. (c == a) && t) (is_eq-nat_cmp b d)

and_four : (a b c d e : Bool) → (a && b) && ((c && d) && e) ≡ (a && (b && (c && d))) && e
and_four true true c d e = refl
and_four true false c d e = refl
and_four false b c d e = refl

-- a key is compared as equal exactly where it is the channel's with the count
pub at_key : (s k t j c : ℕ) (e : Key)
    → is_eq (key_cmp ((s, k), ((t, j), c)) e)
    ≡ is_key (Known (name.Chan s k (record { site = t; k = j }))) c e
at_key s k t j c e =
    is_eq-then (ordering_then (nat_cmp s e.0.0) (nat_cmp k e.0.1))
    (ordering_then (ordering_then (nat_cmp t e.1.0.0) (nat_cmp j e.1.0.1)) (nat_cmp c e.1.1))
    ∙ ap (λ u. u
    && is_eq
    (ordering_then (ordering_then (nat_cmp t e.1.0.0) (nat_cmp j e.1.0.1)) (nat_cmp c e.1.1)))
    (pair_is s k e.0.0 e.0.1)
    ∙ ap (λ u. ((e.0.0 == s) && (e.0.1 == k)) && u)
    (is_eq-then (ordering_then (nat_cmp t e.1.0.0) (nat_cmp j e.1.0.1)) (nat_cmp c e.1.1)
    ∙ ap (λ u. u && is_eq (nat_cmp c e.1.1)) (pair_is t j e.1.0.0 e.1.0.1)
    ∙ ap (λ u. ((e.1.0.0 == t) && (e.1.0.1 == j)) && u) (is_eq-nat_cmp c e.1.1))
    ∙ and_four (e.0.0 == s) (e.0.1 == k) (e.1.0.0 == t) (e.1.0.1 == j) (e.1.1 == c)

pub contained : (s k t j c : ℕ) (ks : List Key)
    → list_any (is_at (key_cmp ((s, k), ((t, j), c)))) ks
    ≡ has ks (Known (name.Chan s k (record { site = t; k = j }))) c
contained s k t j c [] = refl
contained s k t j c (e ∷ ks) =
    ap (λ u. u || list_any (is_at (key_cmp ((s, k), ((t, j), c)))) ks) (at_key s k t j c e)
    ∙ ap (λ u. is_key (Known (name.Chan s k (record { site = t; k = j }))) c e || u)
    (contained s k t j c ks)

-- ---- one key more

or_same : (a b : Bool) → a || b ≡ a || (a || b)
or_same true b = refl
or_same false b = refl

pub or_swap : (a b c : Bool) → a || (b || c) ≡ b || (a || c)
or_swap true true c = refl
or_swap true false c = refl
or_swap false b c = refl

nat_equal : (x y : ℕ) → is_eq (nat_cmp x y) ≡ true → x ≡ y
nat_equal x y h = sym (eqb-true y x (sym (is_eq-nat_cmp x y) ∙ h))

and_both : (o p : Ordering) → ordering_then o p ≡ Equal → (is_eq o ≡ true) × (p ≡ Equal)
and_both Less p e = cc
and_both Equal p e = (refl, e)
and_both Greater p e = cc

pub key_equal : (x y : Key) → key_cmp x y ≡ Equal → x ≡ y
key_equal x y e =
    let a = and_both (ordering_then (nat_cmp x.0.0 y.0.0) (nat_cmp x.0.1 y.0.1))
    (ordering_then (ordering_then (nat_cmp x.1.0.0 y.1.0.0) (nat_cmp x.1.0.1 y.1.0.1))
    (nat_cmp x.1.1 y.1.1)) e in
    let b = and_both (ordering_then (nat_cmp x.1.0.0 y.1.0.0) (nat_cmp x.1.0.1 y.1.0.1))
    (nat_cmp x.1.1 y.1.1) a.1 in
    let p = pair (nat_cmp x.0.0 y.0.0) (nat_cmp x.0.1 y.0.1) a.0 in
    let q = pair (nat_cmp x.1.0.0 y.1.0.0) (nat_cmp x.1.0.1 y.1.0.1) b.0 in
    λ t. (
      (nat_equal x.0.0 y.0.0 p.0 t, nat_equal x.0.1 y.0.1 p.1 t),
      (
        (nat_equal x.1.0.0 y.1.0.0 q.0 t, nat_equal x.1.0.1 y.1.0.1 q.1 t),
        nat_equal x.1.1 y.1.1 (ap is_eq b.1) t,
      ),
    )
  where
    pair : (o p : Ordering) → is_eq (ordering_then o p) ≡ true → (is_eq o ≡ true) × (is_eq p ≡ true)
    pair Less p h = cc
    pair Equal p h = (refl, h)
    pair Greater p h = cc

pub inserted : (x : Ref) (c : ℕ) (k : Key) (ks : List Key)
    → has (insert_key key_cmp ks k) x c ≡ is_key x c k || has ks x c
inserted x c k [] = refl
inserted x c k (e ∷ ks) = go (key_cmp k e) refl (inserted x c k ks)
  where
    go : (o : Ordering) → key_cmp k e ≡ o
        → has (insert_key key_cmp ks k) x c ≡ is_key x c k || has ks x c
        → has (match_ordering o (k ∷ e ∷ ks) (e ∷ ks) (e ∷ insert_key key_cmp ks k)) x c
        ≡ is_key x c k || (is_key x c e || has ks x c)
    go Less h ih = refl
    go Equal h ih = or_same (is_key x c e) (has ks x c)
        ∙ ap (λ (i : Key). is_key x c i || (is_key x c e || has ks x c)) (sym (key_equal k e h))
    go Greater h ih =
        ap (λ t. is_key x c e || t) ih ∙ or_swap (is_key x c e) (is_key x c k) (has ks x c)

-- ---- by the key that a channel has

pub has_some : (x : Ref) (c : ℕ) (key : Key) (ks : List Key) → Some key ≡ key_of x c
    → list_any (is_at (key_cmp key)) ks ≡ has ks x c
has_some (Binder b) c key ks e = cc
has_some (Known (name.Seen i)) c key ks e = cc
has_some (Known (name.Place a)) c key ks e = cc
has_some (Known (name.Num i)) c key ks e = cc
has_some (Known (name.Op i)) c key ks e = cc
has_some (Known (name.Chan s k h)) c key ks e =
    let same : key ≡ ((s, k), ((h.site, h.k), c)) = cc in
    ap (λ (q : Key). list_any (is_at (key_cmp q)) ks) same ∙ contained s k h.site h.k c ks

pub has_none : (x : Ref) (c : ℕ) (ks : List Key) → None ≡ key_of x c → false ≡ has ks x c
has_none (Binder b) c [] e = refl
has_none (Binder b) c (k ∷ ks) e = has_none (Binder b) c ks e
has_none (Known (name.Seen i)) c [] e = refl
has_none (Known (name.Seen i)) c (k ∷ ks) e = has_none (Known (name.Seen i)) c ks e
has_none (Known (name.Place a)) c [] e = refl
has_none (Known (name.Place a)) c (k ∷ ks) e = has_none (Known (name.Place a)) c ks e
has_none (Known (name.Chan s k h)) c ks e = cc
has_none (Known (name.Num i)) c [] e = refl
has_none (Known (name.Num i)) c (k ∷ ks) e = has_none (Known (name.Num i)) c ks e
has_none (Known (name.Op i)) c [] e = refl
has_none (Known (name.Op i)) c (k ∷ ks) e = has_none (Known (name.Op i)) c ks e

pub added : (x : Ref) (c : ℕ) (key : Key) (old new : List Key) → Some key ≡ key_of x c
    → new ≡ insert_key key_cmp old key → Adds (λ y d. same_ref x y && (c == d)) old new
added (Binder b) c key old new e is = cc
added (Known (name.Seen i)) c key old new e is = cc
added (Known (name.Place a)) c key old new e is = cc
added (Known (name.Num i)) c key old new e is = cc
added (Known (name.Op i)) c key old new e is = cc
added (Known (name.Chan s k h)) c key old new e is = λ y _ d.
    let same : key ≡ ((s, k), ((h.site, h.k), c)) = cc in
    ap (λ (ks : List Key). has ks y d) is ∙ inserted y d key old
    ∙ ap (λ (q : Key). is_key y d q || has old y d) same

-- ---- the members of a list one after another

-- what is left to add, and what was added so far, are what was there and all members
abbrev pub IsLeft : {X : Type 0} → (Ref → ℕ → X → Bool) → List X → List X → List Key → List Key
    → Type 0
IsLeft t left all now start = (x : Ref) → IsChannel x → (c : ℕ)
    → (list_any (t x c) left || has now x c) ≡ (list_any (t x c) all || has start x c)

pub one_more : {X : Type 0} (t : Ref → ℕ → X → Bool) (all : List X) (i : ℕ) (m : X)
    (now next start : List Key) → i < length all → m ≡ get_or all i m
    → IsLeft t (drop i all) all now start → Adds (λ x c. t x c m) now next
    → IsLeft t (drop (i + 1) all) all next start
one_more t all i m now next start lt is left adds = λ x ch c.
    let here : drop i all ≡ m ∷ drop (i + 1) all =
    drop_more all i m lt ∙ ap (λ z. z ∷ drop (i + 1) all) (sym is) in
    ap (λ b. list_any (t x c) (drop (i + 1) all) || b) (adds x ch c)
    ∙ or_swap (list_any (t x c) (drop (i + 1) all)) (t x c m) (has now x c)
    ∙ or_assoc (t x c m) (list_any (t x c) (drop (i + 1) all)) (has now x c)
    ∙ ap (λ xs. list_any (t x c) xs || has now x c) (sym here)
    ∙ left x ch c

pub at_end : {X : Type 0} (t : Ref → ℕ → X → Bool) (all : List X) (i : ℕ) (now start : List Key)
    → length all ≤ i → IsLeft t (drop i all) all now start
    → Adds (λ x c. list_any (t x c) all) start now
at_end t all i now start le left =
    λ x ch c. ap (λ xs. list_any (t x c) xs || has now x c) (sym (drop_all i all le)) ∙ left x ch c
