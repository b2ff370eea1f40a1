-- A map of messages and requests by number, and the list of its values.
use Rattle.std.proofs.Common.{◌≡◌, ℕ, ◌+◌, List, [], ◌∷◌, Option, Some, None, Bool, true, false}
use Rattle.std.proofs.Common.{cond, refl, ap, sym, ◌∙◌, arith, ◌==◌, ◌&&◌, Ordering, Less, Equal}
use Rattle.std.proofs.Common.{Greater}
use Rattle.std.specs.Prelude.{Result, Ok, Err, OnOk, OnErr}
use Rattle.std.specs.Ordering.{is_eq, nat_cmp, ordering_then, match_ordering}
use Rattle.std.specs.Map.{lookup, remove_entry, values_of}
use Rattle.std.specs.BTreeMap.{is_at, insert_entry}
use Rattle.std.proofs.lemmas.Bool.Decides.{nat_tests}
use Rattle.chem_model.specs.declared.event.AtomId.{AtomId}
use Rattle.chem_model.specs.declared.numbered.NumberedAtom.{NumberedAtom}
use Rattle.chem_model.specs.Bag.{one, bag}
use Rattle.chem_model.specs.NewNames.{coded_pair}
use Rattle.chem_model.specs.Numbered.{atom_pairs}
use Rattle.chem_model.specs.Apply.{same_atom, atom_at, without}
use Rattle.chem_laws.proofs.Taking.{same_atom_is}
use Rattle.book_store.specs.inside.Table.{IsKeyed, AreKeyed}

abbrev pub pair_cmp : ℕ × ℕ → ℕ × ℕ → Ordering
pair_cmp x y = ordering_then (nat_cmp x.0 y.0) (nat_cmp x.1 y.1)

abbrev pub key_of : AtomId → ℕ × ℕ
key_of i = (i.site, i.k)

is_eq-nat_cmp : (x y : ℕ) → is_eq (nat_cmp x y) ≡ (y == x)
is_eq-nat_cmp x y = grind (arith, nat_tests)

is_eq-then : (o p : Ordering) → is_eq (ordering_then o p) ≡ is_eq o && is_eq p
is_eq-then Less p = refl
is_eq-then Equal p = refl
is_eq-then Greater p = refl

-- a key is at an entry exactly where the numbers are the same
at_key : (i : AtomId) (e : (ℕ × ℕ) × NumberedAtom) → IsKeyed e
    → is_eq (pair_cmp (key_of i) e.0) ≡ same_atom e.1.id i
at_key i e h =
    is_eq-then (nat_cmp i.site e.0.0) (nat_cmp i.k e.0.1)
    ∙ ap (λ t. t && is_eq (nat_cmp i.k e.0.1)) (is_eq-nat_cmp i.site e.0.0)
    ∙ ap (λ t. (e.0.0 == i.site) && t) (is_eq-nat_cmp i.k e.0.1)
    ∙ ap (λ s. (s == i.site) && (e.0.1 == i.k)) h.0
    ∙ ap (λ k. (e.1.id.site == i.site) && (k == i.k)) h.1

pub lookup_atom : (i : AtomId) (es : List ((ℕ × ℕ) × NumberedAtom)) → AreKeyed es
    → lookup (is_at (pair_cmp (key_of i))) es ≡ atom_at (values_of es) i
lookup_atom i [] h = refl
lookup_atom i (e ∷ es) h =
    ap (λ t. cond t (Some e.1) (lookup (is_at (pair_cmp (key_of i))) es)) (at_key i e h.0)
    ∙ ap (λ o. cond (same_atom e.1.id i) (Some e.1) o) (lookup_atom i es h.1)

pub values_without : (i : AtomId) (es : List ((ℕ × ℕ) × NumberedAtom)) → AreKeyed es
    → values_of (remove_entry (is_at (pair_cmp (key_of i))) es) ≡ without i (values_of es)
values_without i [] h = refl
values_without i (e ∷ es) h =
    go (is_eq (pair_cmp (key_of i) e.0)) (at_key i e h.0) (values_without i es h.1)
  where
    go : (t : Bool) → t ≡ same_atom e.1.id i
        → values_of (remove_entry (is_at (pair_cmp (key_of i))) es) ≡ without i (values_of es)
        → values_of (cond t es (e ∷ remove_entry (is_at (pair_cmp (key_of i))) es))
        ≡ cond (same_atom e.1.id i) (values_of es) (e.1 ∷ without i (values_of es))
    go true c ih = ap (λ t. cond t (values_of es) (e.1 ∷ without i (values_of es))) c
    go false c ih =
        ap (λ xs. e.1 ∷ xs) ih ∙ ap (λ t. cond t (values_of es) (e.1 ∷ without i (values_of es))) c

pub keyed_without : (i : AtomId) (es : List ((ℕ × ℕ) × NumberedAtom)) → AreKeyed es
    → AreKeyed (remove_entry (is_at (pair_cmp (key_of i))) es)
keyed_without i [] h = tt
keyed_without i (e ∷ es) h = go (is_eq (pair_cmp (key_of i) e.0)) (keyed_without i es h.1)
  where
    go : (t : Bool) → AreKeyed (remove_entry (is_at (pair_cmp (key_of i))) es)
        → AreKeyed (cond t es (e ∷ remove_entry (is_at (pair_cmp (key_of i))) es))
    go true ih = h.1
    go false ih = (h.0, ih)

pub keyed_insert : (a : NumberedAtom) (es : List ((ℕ × ℕ) × NumberedAtom)) → AreKeyed es
    → AreKeyed (insert_entry pair_cmp es (key_of a.id) a)
keyed_insert a [] h = ((refl, refl), tt)
keyed_insert a (e ∷ es) h = go (pair_cmp (key_of a.id) e.0) refl (keyed_insert a es h.1)
  where
    go : (o : Ordering) → pair_cmp (key_of a.id) e.0 ≡ o
        → AreKeyed (insert_entry pair_cmp es (key_of a.id) a)
        → AreKeyed (match_ordering o ((key_of a.id, a) ∷ e ∷ es) ((e.0, a) ∷ es)
        (e ∷ insert_entry pair_cmp es (key_of a.id) a))
    go Less c ih = ((refl, refl), h)
    go Greater c ih = (h.0, ih)
    go Equal c ih =
        let at : same_atom e.1.id a.id ≡ true = sym (at_key a.id e h.0) ∙ ap is_eq c in
        let same : e.1.id ≡ a.id = same_atom_is e.1.id a.id at in
        ((h.0.0 ∙ ap (λ (j : AtomId). j.site) same, h.0.1 ∙ ap (λ (j : AtomId). j.k) same), h.1)

-- what each number finds once one more stands there
pub lookup_insert : (a : NumberedAtom) (es : List ((ℕ × ℕ) × NumberedAtom)) → AreKeyed es
    → atom_at (values_of es) a.id ≡ None → (i : AtomId)
    → atom_at (values_of (insert_entry pair_cmp es (key_of a.id) a)) i
    ≡ cond (same_atom a.id i) (Some a) (atom_at (values_of es) i)
lookup_insert a [] h n i = refl
lookup_insert a (e ∷ es) h n i = go (pair_cmp (key_of a.id) e.0) refl (same_atom e.1.id a.id) refl n
    (λ m. lookup_insert a es h.1 m i)
  where
    apart : same_atom e.1.id a.id ≡ false → (t u : Bool) → same_atom e.1.id i ≡ t
        → same_atom a.id i ≡ u → (o : Option NumberedAtom)
        → cond t (Some e.1) (cond u (Some a) o) ≡ cond u (Some a) (cond t (Some e.1) o)
    apart d true true c b o =
        let both : same_atom e.1.id a.id ≡ true =
        ap (λ (j : AtomId). same_atom e.1.id j) (same_atom_is a.id i b) ∙ c in
        cc
    apart d true false c b o = refl
    apart d false true c b o = refl
    apart d false false c b o = refl

    go : (o : Ordering) → pair_cmp (key_of a.id) e.0 ≡ o → (t : Bool) → same_atom e.1.id a.id ≡ t
        → cond t (Some e.1) (atom_at (values_of es) a.id) ≡ None
        → (atom_at (values_of es) a.id ≡ None
        → atom_at (values_of (insert_entry pair_cmp es (key_of a.id) a)) i
        ≡ cond (same_atom a.id i) (Some a) (atom_at (values_of es) i))
        → atom_at (values_of (match_ordering o ((key_of a.id, a) ∷ e ∷ es) ((e.0, a) ∷ es)
        (e ∷ insert_entry pair_cmp es (key_of a.id) a))) i
        ≡ cond (same_atom a.id i) (Some a)
        (cond (same_atom e.1.id i) (Some e.1) (atom_at (values_of es) i))
    go o c true d m ih = cc
    go Less c false d m ih = refl
    go Greater c false d m ih = ap (λ q. cond (same_atom e.1.id i) (Some e.1) q) (ih m)
        ∙ apart d (same_atom e.1.id i) (same_atom a.id i) refl refl (atom_at (values_of es) i)
    go Equal c false d m ih =
        let at : same_atom e.1.id a.id ≡ true = sym (at_key a.id e h.0) ∙ ap is_eq c in
        cc

-- how often each pair stands once one more stands there
pub pairs_insert : (a : NumberedAtom) (es : List ((ℕ × ℕ) × NumberedAtom)) → AreKeyed es
    → atom_at (values_of es) a.id ≡ None → (p : ℕ × ℕ)
    → bag coded_pair (atom_pairs (values_of (insert_entry pair_cmp es (key_of a.id) a))) p
    ≡ one coded_pair (a.id.site, a.id.k) p + bag coded_pair (atom_pairs (values_of es)) p
pairs_insert a [] h n p = refl
pairs_insert a (e ∷ es) h n p = go (pair_cmp (key_of a.id) e.0) refl (same_atom e.1.id a.id) refl n
    (λ m. pairs_insert a es h.1 m p)
  where
    go : (o : Ordering) → pair_cmp (key_of a.id) e.0 ≡ o → (t : Bool) → same_atom e.1.id a.id ≡ t
        → cond t (Some e.1) (atom_at (values_of es) a.id) ≡ None
        → (atom_at (values_of es) a.id ≡ None
        → bag coded_pair (atom_pairs (values_of (insert_entry pair_cmp es (key_of a.id) a))) p
        ≡ one coded_pair (a.id.site, a.id.k) p + bag coded_pair (atom_pairs (values_of es)) p)
        → bag coded_pair (atom_pairs (values_of (match_ordering o ((key_of a.id, a) ∷ e ∷ es)
        ((e.0, a) ∷ es) (e ∷ insert_entry pair_cmp es (key_of a.id) a)))) p
        ≡ one coded_pair (a.id.site, a.id.k) p
        + (one coded_pair (e.1.id.site, e.1.id.k) p + bag coded_pair (atom_pairs (values_of es)) p)
    go o c true d m ih = cc
    go Less c false d m ih = refl
    go Greater c false d m ih = omega (arith, ih m)
    go Equal c false d m ih =
        let at : same_atom e.1.id a.id ≡ true = sym (at_key a.id e h.0) ∙ ap is_eq c in
        cc

-- what follows from either way a call ended
pub either_way : {X Y : Type 0} (r : Result X Y) (A B P : Type 0) → OnOk r A → OnErr r B → (A → P)
    → (B → P) → P
either_way (Ok x) A B P a b f g = f a
either_way (Err y) A B P a b f g = g b
