-- That each older message has its key: as the test that the type keeps, and as what holds of each;
-- and how it stays when one comes or goes.
use Rattle.std.proofs.Common.{◌≡◌, ℕ, ◌<◌, ◌≤◌, List, [], ◌∷◌, Option, Some, None, Bool, true}
use Rattle.std.proofs.Common.{false, refl, ap, sym, ◌∙◌, subst, arith, ◌&&◌, ◌||◌, ◌==◌, ◌⊎◌, inl}
use Rattle.std.proofs.Common.{inr, is_some}
use Rattle.std.proofs.lemmas.Bool.{eqb-true, eq-eqb, or_left, or_right, and_parts}
use Rattle.std.specs.Cmp.Derive.{both_true}
use Rattle.std.specs.List.{list_any}
use Rattle.chem_model.specs.declared.event.AtomId.{AtomId}
use Rattle.chem_model.specs.declared.numbered.NumberedAtom.{NumberedAtom}
use Rattle.chem_model.specs.Each.{IsIn}
use Rattle.chem_model.specs.Bag.{one, bag}
use Rattle.chem_model.specs.NewNames.{Pair, coded_pair}
use Rattle.chem_model.specs.Numbered.{atom_pairs}
use Rattle.chem_model.specs.Apply.{atom_at, without}
use Rattle.chem_laws.proofs.Bags.{one_is}
use Rattle.chem_laws.proofs.Lists.{zero_or_above}
use Rattle.chem_commit.specs.inside.Differ.{AtomsDiffer}
use Rattle.book_store.specs.Keys.{Key, KeepsKeys, channel_of}
use Rattle.book_store.specs.Asked.{atom_pair, KeepsBut}
use Rattle.book_store.specs.Older.{same_key, has_key, are_queued}
use Rattle.book_store.specs.inside.Table.{Adds}
use Rattle.book_store.proofs.DifferLaws.{one_most}
use Rattle.book_store.proofs.SoundLaws.{counted}
use Rattle.book_store.proofs.Apart.{each_added, each_left}

-- a message has a key with the number of its channel
abbrev pub IsQueued : List Key → NumberedAtom → Type 0
IsQueued keys a =
    (c : ℕ) → channel_of a.term ≡ Some c → IsIn {X = Key} (c, atom_pair a.id) keys

abbrev pub AreQueued : List NumberedAtom → List Key → Type 0
AreQueued old keys = (a : NumberedAtom) → IsIn a old → IsQueued keys a

-- ---- as a test, and as what holds of each

key_is : (x y : Key) → same_key x y ≡ true → x ≡ y
key_is x y h =
    let a = and_parts (x.0 == y.0) ((x.1.0 == y.1.0) && (x.1.1 == y.1.1)) h in
    let b = and_parts (x.1.0 == y.1.0) (x.1.1 == y.1.1) a.1 in
    λ t. (eqb-true x.0 y.0 a.0 t, (eqb-true x.1.0 y.1.0 b.0 t, eqb-true x.1.1 y.1.1 b.1 t))

key_self : (x : Key) → same_key x x ≡ true
key_self x = both_true (eq-eqb x.0 x.0 refl)
    (both_true (eq-eqb x.1.0 x.1.0 refl) (eq-eqb x.1.1 x.1.1 refl))

has_in : (k : Key) (ks : List Key) → list_any (same_key k) ks ≡ true → IsIn k ks
has_in k [] h = cc
has_in k (x ∷ xs) h = go (same_key k x) refl (has_in k xs) h
  where
    go : (t : Bool) → same_key k x ≡ t → (list_any (same_key k) xs ≡ true → IsIn k xs)
        → t || list_any (same_key k) xs ≡ true → (k ≡ x) ⊎ IsIn k xs
    go true e rest f = inl (key_is k x e)
    go false e rest f = inr (rest f)

in_has : (k : Key) (ks : List Key) → IsIn k ks → list_any (same_key k) ks ≡ true
in_has k [] at = absurd at
in_has k (x ∷ xs) at = go at (in_has k xs)
  where
    go : (k ≡ x) ⊎ IsIn k xs → (IsIn k xs → list_any (same_key k) xs ≡ true)
        → same_key k x || list_any (same_key k) xs ≡ true
    go (inl e) rest = or_left (same_key k x) (list_any (same_key k) xs)
        (subst (λ (y : Key). same_key k y ≡ true) e (key_self k))
    go (inr f) rest = or_right (same_key k x) (list_any (same_key k) xs) (rest f)

keyed_is : (ks : List Key) (o : Option ℕ) (i : AtomId) → has_key ks o i ≡ true → (c : ℕ)
    → o ≡ Some c → IsIn {X = Key} (c, atom_pair i) ks
keyed_is ks None i h c e = cc
keyed_is ks (Some d) i h c e =
    let same : d ≡ c = cc in
    subst (λ (x : ℕ). IsIn {X = Key} (x, atom_pair i) ks) same (has_in (d, atom_pair i) ks h)

to_keyed : (ks : List Key) (o : Option ℕ) (i : AtomId)
    → ((c : ℕ) → o ≡ Some c → IsIn {X = Key} (c, atom_pair i) ks) → has_key ks o i ≡ true
to_keyed ks None i h = refl
to_keyed ks (Some c) i h = in_has (c, atom_pair i) ks (h c refl)

pub are_queued_is : (old : List NumberedAtom) (ks : List Key) → are_queued old ks ≡ true
    → AreQueued old ks
are_queued_is [] ks h a at = absurd at
are_queued_is (x ∷ old) ks h a at =
    go (and_parts (has_key ks (channel_of x.term) x.id) (are_queued old ks) h)
    (are_queued_is old ks) at
  where
    go : (has_key ks (channel_of x.term) x.id ≡ true) × (are_queued old ks ≡ true)
        → (are_queued old ks ≡ true → AreQueued old ks) → (a ≡ x) ⊎ IsIn a old → IsQueued ks a
    go b rest (inl e) = subst (λ (y : NumberedAtom). IsQueued ks y) (sym e)
        (keyed_is ks (channel_of x.term) x.id b.0)
    go b rest (inr f) = rest b.1 a f

pub to_queued : (old : List NumberedAtom) (ks : List Key) → AreQueued old ks
    → are_queued old ks ≡ true
to_queued [] ks q = refl
to_queued (x ∷ old) ks q = both_true (to_keyed ks (channel_of x.term) x.id (q x (inl refl)))
    (to_queued old ks (λ a at. q a (inr at)))

-- ---- keys that came or went

queued_more : (ks new : List Key) → KeepsKeys ks new → (a : NumberedAtom) → IsQueued ks a
    → IsQueued new a
queued_more ks new kept a h c e = kept (c, atom_pair a.id) (h c e)

queued_but : (i : AtomId) (ks new : List Key) → KeepsBut i ks new → (a : NumberedAtom)
    → (a.id ≡ i → ⊥) → IsQueued ks a → IsQueued new a
queued_but i ks new kept a other h c e = go (kept (c, atom_pair a.id) (h c e))
  where
    go : (atom_pair a.id ≡ atom_pair i) ⊎ IsIn {X = Key} (c, atom_pair a.id) new
        → IsIn {X = Key} (c, atom_pair a.id) new
    go (inl same) =
        absurd (other (ap (λ (p : ℕ × ℕ). record { site = p.0; k = p.1 }) same))
    go (inr at) = at

queued_here : (ks : List Key) (a : NumberedAtom) (c : ℕ) → channel_of a.term ≡ Some c
    → IsIn {X = Key} (c, atom_pair a.id) ks → IsQueued ks a
queued_here ks a c is at d e =
    let both : Some c ≡ Some d = sym is ∙ e in
    let same : c ≡ d = cc in
    subst (λ (x : ℕ). IsIn {X = Key} (x, atom_pair a.id) ks) same at

queued_none : (ks : List Key) (a : NumberedAtom) → channel_of a.term ≡ None → IsQueued ks a
queued_none ks a is d e = let wrong : None ≡ Some d = sym is ∙ e in cc

pub queued_kept : (old : List NumberedAtom) (ks new : List Key) → KeepsKeys ks new
    → are_queued old ks ≡ true → are_queued old new ≡ true
queued_kept old ks new kept h = to_queued old new (λ a at.
    queued_more ks new kept a (are_queued_is old ks h a at))

pub queued_same : (old now : List NumberedAtom) (ks : List Key) → now ≡ old
    → are_queued old ks ≡ true → are_queued now ks ≡ true
queued_same old now ks e h = subst (λ (l : List NumberedAtom). are_queued l ks ≡ true) (sym e) h

-- ---- one comes, whose number wasn't there

differ_more : (old now : List NumberedAtom) (a : NumberedAtom) → AtomsDiffer old
    → atom_at old a.id ≡ None → Adds a old now → AtomsDiffer now
differ_more old now a d none adds p =
    go (zero_or_above (one coded_pair (atom_pair a.id) p))
  where
    go : (one coded_pair (atom_pair a.id) p ≡ 0) ⊎ (0 < one coded_pair (atom_pair a.id) p)
        → bag coded_pair (atom_pairs now) p ≤ 1
    go (inl z) = omega (arith, adds.pairs p, d p)
    go (inr f) =
        let same : atom_pair a.id ≡ p = one_is coded_pair (atom_pair a.id) p f in
        let most : one coded_pair (atom_pair a.id) p ≤ 1 = one_most (atom_pair a.id) p in
        let gone : bag coded_pair (atom_pairs old) p ≡ 0 =
        subst (λ (q : Pair). bag coded_pair (atom_pairs old) q ≡ 0) same
        (absent (zero_or_above (bag coded_pair (atom_pairs old) (atom_pair a.id)))) in
        omega (arith, adds.pairs p, most, gone)
      where
        absent : (bag coded_pair (atom_pairs old) (atom_pair a.id) ≡ 0)
            ⊎ (0 < bag coded_pair (atom_pairs old) (atom_pair a.id))
            → bag coded_pair (atom_pairs old) (atom_pair a.id) ≡ 0
        absent (inl z) = z
        absent (inr f) =
            let some = counted old a.id f in
            let wrong : true ≡ false = sym some ∙ ap is_some none in
            cc

pub message_queued : (old now : List NumberedAtom) (a : NumberedAtom) (c : ℕ) (ks new : List Key)
    → AtomsDiffer old → atom_at old a.id ≡ None → channel_of a.term ≡ Some c → Adds a old now
    → KeepsKeys ks new → IsIn {X = Key} (c, atom_pair a.id) new → are_queued old ks ≡ true
    → are_queued now new ≡ true
message_queued old now a c ks new d none is adds kept key h = to_queued now new
    (each_added (IsQueued new) old now a (differ_more old now a d none adds) adds
    (queued_here new a c is key)
    (λ b at. queued_more ks new kept b (are_queued_is old ks h b at)))

pub request_queued : (old now : List NumberedAtom) (a : NumberedAtom) (ks : List Key)
    → AtomsDiffer old → atom_at old a.id ≡ None → channel_of a.term ≡ None → Adds a old now
    → are_queued old ks ≡ true → are_queued now ks ≡ true
request_queued old now a ks d none is adds h = to_queued now ks
    (each_added (IsQueued ks) old now a (differ_more old now a d none adds) adds
    (queued_none ks a is) (are_queued_is old ks h))

-- ---- one goes, with its key

pub rest_queued : (old now : List NumberedAtom) (i : AtomId) (ks new : List Key)
    → AtomsDiffer old → now ≡ without i old → KeepsBut i ks new → are_queued old ks ≡ true
    → are_queued now new ≡ true
rest_queued old now i ks new d e kept h = queued_same (without i old) now new e
    (to_queued (without i old) new
    (each_left (IsQueued new) i old d
    (λ b at other. queued_but i ks new kept b other (are_queued_is old ks h b at))))

pub keeps_but_all : (i : AtomId) (ks : List Key) → KeepsBut i ks ks
keeps_but_all i ks k at = inr at

-- what is found by a number has it
pub but_here : (i j : AtomId) (old new : List Key) → j ≡ i → KeepsBut j old new
    → KeepsBut i old new
but_here i j old new e h = subst (λ (x : AtomId). KeepsBut x old new) e h
