-- The keys of a channel, walked in order, lead to the least of the older messages that a pattern
-- receives.
use Rattle.std.proofs.Common.{◌≡◌, ℕ, ◌+◌, ◌<◌, ◌≤◌, List, [], ◌∷◌, Option, Some, None, Bool, true}
use Rattle.std.proofs.Common.{false, cond, refl, ap, sym, ◌∙◌, subst, arith, ◌==◌, ◌&&◌, ◌⊎◌, inl}
use Rattle.std.proofs.Common.{inr, length, Ordering, Less, Equal, Greater, is_some}
use Rattle.std.specs.Prelude.{nat_lt, not}
use Rattle.std.specs.List.{filter, AllByRecursion}
use Rattle.std.specs.List.Sorted.{IsStrictlySortedBy}
use Rattle.std.specs.Ordering.{is_le, nat_cmp, ordering_then, MatchOrdering}
use Rattle.std.specs.Cmp.{ranks}
use Rattle.std.proofs.lemmas.Bool.{and_parts}
use Rattle.std.proofs.lemmas.List.Kept.{IsStrictlySortedBy-filter}
use Rattle.std.proofs.lemmas.Bool.Decides.{nat_tests}
use Rattle.chem_model.specs.declared.name.Loc.{Loc}
use Rattle.chem_model.specs.declared.name.Pat.{Pat}
use Rattle.chem_model.specs.declared.event.AtomId.{AtomId}
use Rattle.chem_model.specs.declared.numbered.NumberedAtom.{NumberedAtom}
use Rattle.chem_model.specs.Process.{Process, Msg, Par, Def, Go, Fail, Halt}
use Rattle.chem_model.specs.Each.{Each, IsIn}
use Rattle.chem_model.specs.Reduction.{given}
use Rattle.chem_model.specs.Solution.{same_loc}
use Rattle.chem_model.specs.Pour.{known}
use Rattle.chem_model.specs.Apply.{same_atom, same_ref, received, atom_at}
use Rattle.chem_laws.proofs.Taking.{same_ref_is}
use Rattle.book_store.proofs.Order.{less, less_asym, not_less}
use Rattle.book_store.specs.Walk.{IsFirstOf, walk}
use Rattle.chem_causes.specs.Ready.{receives}
use Rattle.book_store.specs.Older.{atom_before, passing, find_at}
use Rattle.book_store.proofs.KeptKeys.{AreQueued}
use Rattle.book_store.specs.Keys.{Key, number_of, channel_of}
use Rattle.chem_commit.specs.inside.Differ.{AtomsDiffer}
use Rattle.book_store.proofs.ByNumber.{atom_has, member_found}
use Rattle.book_store.proofs.TableLaws.{pair_cmp}
use Rattle.book_store.proofs.KeyLaws.{key_cmp}
use Rattle.book_store.proofs.WalkLaws.{InOrder, Leads, walk_first}

-- ---- the order of keys

nat_cmp-less : (x y : ℕ) → nat_cmp x y ≡ Less → x < y
nat_cmp-less x y e = subst (λ (o : Ordering). MatchOrdering o (x < y) (x ≡ y) (y < x)) e (ranks x y)

nat_cmp-equal : (x y : ℕ) → nat_cmp x y ≡ Equal → x ≡ y
nat_cmp-equal x y e =
    subst (λ (o : Ordering). MatchOrdering o (x < y) (x ≡ y) (y < x)) e (ranks x y)

nat_cmp-greater : (x y : ℕ) → nat_cmp x y ≡ Greater → y < x
nat_cmp-greater x y e =
    subst (λ (o : Ordering). MatchOrdering o (x < y) (x ≡ y) (y < x)) e (ranks x y)

less_at : (s k t j : ℕ) → (s < t) ⊎ ((s ≡ t) × (k < j)) → less s k t j ≡ true
less_at s k t j (inl h) = grind (arith, nat_tests)
less_at s k t j (inr h) = let e = h.0 in let f = h.1 in grind (arith, nat_tests)

pair_less : (x y : ℕ × ℕ) → pair_cmp x y ≡ Less → less x.0 x.1 y.0 y.1 ≡ true
pair_less x y e = go (nat_cmp x.0 y.0) refl e
  where
    go : (o : Ordering) → nat_cmp x.0 y.0 ≡ o → ordering_then o (nat_cmp x.1 y.1) ≡ Less
        → less x.0 x.1 y.0 y.1 ≡ true
    go Less c f = less_at x.0 x.1 y.0 y.1 (inl (nat_cmp-less x.0 y.0 c))
    go Equal c f = less_at x.0 x.1 y.0 y.1 (inr (nat_cmp-equal x.0 y.0 c, nat_cmp-less x.1 y.1 f))
    go Greater c f = cc

pub key_less : (k j : Key) → key_cmp k j ≡ Less
    → (k.0 < j.0) ⊎ ((k.0 ≡ j.0) × (less k.1.0 k.1.1 j.1.0 j.1.1 ≡ true))
key_less k j e = go (nat_cmp k.0 j.0) refl e
  where
    go : (o : Ordering) → nat_cmp k.0 j.0 ≡ o → ordering_then o (pair_cmp k.1 j.1) ≡ Less
        → (k.0 < j.0) ⊎ ((k.0 ≡ j.0) × (less k.1.0 k.1.1 j.1.0 j.1.1 ≡ true))
    go Less c f = inl (nat_cmp-less k.0 j.0 c)
    go Equal c f = inr (nat_cmp-equal k.0 j.0 c, pair_less k.1 j.1 f)
    go Greater c f = cc

-- whether a key is at a site from f on
least_pair : (p : ℕ × ℕ) → is_le (pair_cmp (0, 0) p) ≡ true
least_pair p = go (nat_cmp 0 p.0) refl (nat_cmp 0 p.1) refl
  where
    go : (o : Ordering) → nat_cmp 0 p.0 ≡ o → (q : Ordering) → nat_cmp 0 p.1 ≡ q
        → is_le (ordering_then o q) ≡ true
    go Less c q d = refl
    go Greater c q d = let no = nat_cmp-greater 0 p.0 c in absurd (omega arith)
    go Equal c Less d = refl
    go Equal c Equal d = refl
    go Equal c Greater d = let no = nat_cmp-greater 0 p.1 d in absurd (omega arith)

pub from_site : (f : ℕ) (k : Key) → is_le (key_cmp (f, (0, 0)) k) ≡ not (nat_lt k.0 f)
from_site f k = go (nat_cmp f k.0) refl
  where
    go : (o : Ordering) → nat_cmp f k.0 ≡ o
        → is_le (ordering_then o (pair_cmp (0, 0) k.1)) ≡ not (nat_lt k.0 f)
    go Less c = let h = nat_cmp-less f k.0 c in grind (arith, nat_tests)
    go Equal c =
        let h = nat_cmp-equal f k.0 c in
        let h2 : not (nat_lt k.0 f) ≡ true = grind (arith, nat_tests) in
        least_pair k.1 ∙ sym h2
    go Greater c = let h = nat_cmp-greater f k.0 c in grind (arith, nat_tests)

-- ---- lists in order

pub sorted_in_order : {K : Type 0} (c : K → K → Ordering) (below : K → K → Bool) (P : K → Type 0)
    → ((k j : K) → P k → P j → c k j ≡ Less → below j k ≡ false) → (ks : List K)
    → IsStrictlySortedBy c ks → Each P ks → InOrder below ks
unfolding IsStrictlySortedBy
sorted_in_order c below P keeps [] s h = tt
sorted_in_order {K} c below P keeps (k ∷ ks) s h =
    (later ks s.0 h.1, sorted_in_order c below P keeps ks s.1 h.1)
  where
    later : (js : List K) → AllByRecursion (λ y. c k y ≡ Less) js → Each P js
        → Each (λ j. below j k ≡ false) js
    later [] a b = tt
    later (j ∷ js) a b = (keeps k j h.0 b.0 a.0, later js a.1 b.1)

pub each_filter : {K : Type 0} (p : K → Bool) (ks : List K) → Each (λ k. p k ≡ true) (filter p ks)
each_filter p [] = tt
each_filter p (k ∷ ks) = go (p k) refl (each_filter p ks)
  where
    go : (t : Bool) → p k ≡ t → Each (λ j. p j ≡ true) (filter p ks)
        → Each (λ j. p j ≡ true) (cond t (k ∷ filter p ks) (filter p ks))
    go true c h = (c, h)
    go false c h = h

pub sorted_filter : {K : Type 0} (c : K → K → Ordering) (p : K → Bool) (ks : List K)
    → IsStrictlySortedBy c ks → IsStrictlySortedBy c (filter p ks)
sorted_filter c p ks s = IsStrictlySortedBy-filter c p ks s

pub in_filter : {K : Type 0} (p : K → Bool) (ks : List K) (k : K) → IsIn k ks → p k ≡ true
    → IsIn k (filter p ks)
in_filter p [] k at h = absurd at
in_filter p (j ∷ ks) k (inl same) h = ap-in (p j) (ap p (sym same) ∙ h)
  where
    ap-in : (t : Bool) → t ≡ true → IsIn k (cond t (j ∷ filter p ks) (filter p ks))
    ap-in true e = inl same
    ap-in false e = cc
in_filter p (j ∷ ks) k (inr later) h = go (p j) (in_filter p ks k later h)
  where
    go : (t : Bool) → IsIn k (filter p ks) → IsIn k (cond t (j ∷ filter p ks) (filter p ks))
    go true at = inr at
    go false at = at

-- ---- the keys of a channel

abbrev pub is_high : ℕ → ℕ → Key → Bool
is_high sites from k = is_le (key_cmp (from, (0, 0)) k) && not (is_le (key_cmp (sites, (0, 0)) k))

pub high_is : (sites from : ℕ) (k : Key) → is_high sites from k ≡ true
    → (from ≤ k.0) × (k.0 < sites)
high_is sites from k h =
    let both =
    and_parts (is_le (key_cmp (from, (0, 0)) k)) (not (is_le (key_cmp (sites, (0, 0)) k))) h in
    let a : not (nat_lt k.0 from) ≡ true = sym (from_site from k) ∙ both.0 in
    let b : not (not (nat_lt k.0 sites)) ≡ true = sym (ap not (from_site sites k)) ∙ both.1 in
    (grind (arith, nat_tests), grind (arith, nat_tests))

pub is_high_at : (sites from : ℕ) (k : Key) → from ≤ k.0 → k.0 < sites → is_high sites from k ≡ true
is_high_at sites from k a b =
    let c : not (nat_lt k.0 from) ≡ true = grind (arith, nat_tests) in
    let d : not (not (nat_lt k.0 sites)) ≡ true = grind (arith, nat_tests) in
    ap (λ t. t && not (is_le (key_cmp (sites, (0, 0)) k))) (from_site from k ∙ c)
    ∙ ap not (from_site sites k) ∙ d

-- ---- what a key finds

abbrev pub id_of : Key → AtomId
id_of k = record { site = k.1.0; k = k.1.1 }

pub atom_in : (atoms : List NumberedAtom) (i : AtomId) (a : NumberedAtom) → atom_at atoms i ≡ Some a
    → IsIn a atoms
atom_in [] i a e = cc
atom_in (b ∷ atoms) i a e = go (same_atom b.id i) (atom_in atoms i a) e
  where
    go : (t : Bool) → (atom_at atoms i ≡ Some a → IsIn a atoms)
        → cond t (Some b) (atom_at atoms i) ≡ Some a → IsIn a (b ∷ atoms)
    go true ih e' = let same : a ≡ b = cc in inl same
    go false ih e' = inr (ih e')

pub some_here : {X : Type 0} (t : Bool) (o : Option X) → is_some (cond t o None) ≡ true
    → is_some o ≡ true
some_here true o h = h
some_here false o h = cc

when_some : {X : Type 0} (t : Bool) (x : X) → is_some (cond t (Some x) None) ≡ true → t ≡ true
when_some true x h = refl
when_some false x h = cc

-- what a pattern receives is on its channel
received_channel : (p : Pat) (q : Process) → is_some (received p q) ≡ true
    → channel_of q ≡ Some (number_of p.on)
received_channel p (Msg x vs) h =
    let fits =
    when_some (same_ref p.on x && (length p.params == length vs)) (given p.params (known vs)) h in
    let same = (and_parts (same_ref p.on x) (length p.params == length vs) fits).0 in
    ap (λ y. Some (number_of y)) (sym (same_ref_is p.on x same))
received_channel p (Par ps) h = cc
received_channel p (Def ds q) h = cc
received_channel p (Go b k) h = cc
received_channel p (Fail a k) h = cc
received_channel p Halt h = cc

pub receives_channel : (l : Loc) (p : Pat) (a : NumberedAtom) → receives l p a ≡ true
    → channel_of a.term ≡ Some (number_of p.on)
receives_channel l p a h =
    received_channel p a.term (some_here (same_loc a.loc l) (received p a.term) h)

each_one : {X : Type 0} (P : X → Type 0) (xs : List X) → ((x : X) → IsIn x xs → P x) → Each P xs
each_one P [] h = tt
each_one P (x ∷ xs) h = (h x (inl refl), each_one P xs (λ y at. h y (inr at)))

module _ (l : Loc) (p : Pat) (old : List NumberedAtom) where
  pub record Finds (k : Key) (a : NumberedAtom) : Type 0 where
    pub at : atom_at old (id_of k) ≡ Some a
    pub passes : receives l p a ≡ true

  key_finds : (k : Key) (a : NumberedAtom) → find_at l p old k ≡ Some a → Finds k a
  key_finds k a e = go (atom_at old (id_of k)) refl e
    where
      here : (b : NumberedAtom) → atom_at old (id_of k) ≡ Some b → (t : Bool) → receives l p b ≡ t
          → cond t (Some b) None ≡ Some a → Finds k a
      here b c true d f =
          let same : b ≡ a = cc in
          subst (λ (x : NumberedAtom). Finds k x) same (record { at = c; passes = d })
      here b c false d f = cc

      go : (o : Option NumberedAtom) → atom_at old (id_of k) ≡ o → passing l p o ≡ Some a
          → Finds k a
      go None c f = cc
      go (Some b) c f = here b c (receives l p b) refl f

  abbrev below : Key → Key → Bool
  below k j = less k.1.0 k.1.1 j.1.0 j.1.1

  kept_order : (k j : Key) (x y : NumberedAtom) → find_at l p old k ≡ Some x
      → find_at l p old j ≡ Some y → below k j ≡ false → atom_before x y ≡ false
  kept_order k j x y e f h =
      let a = atom_has old (id_of k) x (key_finds k x e).at in
      let b = atom_has old (id_of j) y (key_finds j y f).at in
      ap (λ (i : AtomId). less i.site i.k y.id.site y.id.k) a
      ∙ ap (λ (i : AtomId). less k.1.0 k.1.1 i.site i.k) b ∙ h

  not_itself : (x : NumberedAtom) → atom_before x x ≡ false
  not_itself x = not_less x.id.site x.id.k x.id.site x.id.k (omega arith) (λ f. omega arith)

  module _ (c : ℕ) (on : number_of p.on ≡ c) (ks : List Key) (differ : AtomsDiffer old)
      (queued : AreQueued old ks) where
    abbrev here : Key → Bool
    here = is_high (c + 1) c

    led : (x : NumberedAtom) → IsIn x old → receives l p x ≡ true
        → Leads (find_at l p old) (filter here ks) x
    led x at passes =
        let channel : channel_of x.term ≡ Some c = receives_channel l p x passes ∙ ap Some on in
        let key : Key = (c, (x.id.site, x.id.k)) in
        let found : atom_at old x.id ≡ Some x = member_found old differ x at in (
          key,
          in_filter here ks key
              (queued x at c channel) (is_high_at (c + 1) c key (omega arith) (omega arith)),
          ap (passing l p) found ∙ ap (λ t. cond t (Some x) None) passes,
        )

    after : (k j : Key) → here k ≡ true → here j ≡ true → key_cmp k j ≡ Less → below j k ≡ false
    after k j a b e =
        let ka = high_is (c + 1) c k a in
        let jb = high_is (c + 1) c j b in
        go ka jb (key_less k j e)
      where
        go : (c ≤ k.0) × (k.0 < c + 1) → (c ≤ j.0) × (j.0 < c + 1)
            → (k.0 < j.0) ⊎ ((k.0 ≡ j.0) × (less k.1.0 k.1.1 j.1.0 j.1.1 ≡ true))
            → below j k ≡ false
        go ka jb (inl h) = absurd (omega (arith, ka.0, jb.1, h))
        go ka jb (inr h) = less_asym k.1.0 k.1.1 j.1.0 j.1.1 h.1

    pub first_queued : IsStrictlySortedBy key_cmp ks → (o : Option NumberedAtom)
        → walk (find_at l p old) (filter here ks) ≡ o → IsFirstOf (receives l p) atom_before old o
    first_queued s o e =
        walk_first (find_at l p old) (receives l p) atom_before below old (filter here ks)
        (record {
          right = λ k x f. let r = key_finds k x f in (atom_in old (id_of k) x r.at, r.passes);
          all = led;
        })
        (sorted_in_order key_cmp below (λ k. here k ≡ true) after (filter here ks)
        (sorted_filter key_cmp here ks s) (each_filter here ks))
        not_itself kept_order o e

  -- without a key there is none
  pub none_there : (ks : List Key) → AreQueued old ks → length ks ≡ 0
      → IsFirstOf (receives l p) atom_before old None
  none_there ks queued e =
      each_one (λ x. receives l p x ≡ false) old (λ x at. go x at (receives l p x) refl)
    where
      gone : (ks : List Key) (n : ℕ) (x : NumberedAtom) → length ks ≡ 0
          → IsIn {X = Key} (n, (x.id.site, x.id.k)) ks → ⊥
      gone [] n x e at = at
      gone (k ∷ ks) n x e at = cc

      go : (x : NumberedAtom) → IsIn x old → (t : Bool) → receives l p x ≡ t
          → receives l p x ≡ false
      go x at false d = d
      go x at true d = absurd (gone ks (number_of p.on) x e
          (queued x at (number_of p.on) (receives_channel l p x d)))

-- ---- a message that was found by its number

pub found_passes : (l : Loc) (p : Pat) (a : NumberedAtom) (o : Option NumberedAtom) (t : Bool)
    → Some a ≡ o → t ≡ receives l p a → t ≡ true → Some a ≡ passing l p o
found_passes l p a o t e f h =
    sym (ap (passing l p) (sym e) ∙ ap (λ b. cond b (Some a) None) (sym f ∙ h))

pub found_fails : (l : Loc) (p : Pat) (a : NumberedAtom) (o : Option NumberedAtom) (t : Bool)
    → Some a ≡ o → t ≡ receives l p a → t ≡ false → None ≡ passing l p o
found_fails l p a o t e f h =
    sym (ap (passing l p) (sym e) ∙ ap (λ b. cond b (Some a) None) (sym f ∙ h))
