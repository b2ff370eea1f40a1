-- The least messages for the patterns of a rule are received, and none that are received come
-- before them.
use Rattle.std.proofs.Common.{◌≡◌, ℕ, zero, suc, ◌+◌, ◌<◌, length, take, get_or, add-one, List, []}
use Rattle.std.proofs.Common.{◌∷◌, ◌++◌, Option, Some, None, Bool, true, false, cond, refl, ap, sym}
use Rattle.std.proofs.Common.{◌∙◌, subst, arith, ◌&&◌, ◌||◌, is_some}
use Rattle.std.proofs.lemmas.Bool.{and_parts}
use Rattle.std.specs.List.{list_any, list_all}
use Rattle.std.proofs.Math.Seq.{take-suc}
use Rattle.chem_model.specs.declared.name.Loc.{Loc}
use Rattle.chem_model.specs.declared.name.Pat.{Pat}
use Rattle.chem_model.specs.declared.event.AtomId.{AtomId}
use Rattle.chem_model.specs.declared.numbered.NumberedAtom.{NumberedAtom}
use Rattle.chem_model.specs.Each.{Each}
use Rattle.chem_model.specs.Fill.{Naming}
use Rattle.chem_model.specs.Apply.{same_atom, atom_at, received_at, both_received, received_all}
use Rattle.chem_laws.proofs.Taking.{atom_found}
use Rattle.trace_history.specs.First.{atom_less, atoms_less}
use Rattle.book_store.specs.Walk.{IsFirstOf}
use Rattle.chem_causes.specs.Ready.{receives, is_met}
use Rattle.book_store.specs.Older.{atom_before}
use Rattle.trace_history.specs.inside.Search.{IsLeast, AreLeast}
use Rattle.book_store.proofs.ByNumber.{atom_has, member_found}
use Rattle.chem_commit.specs.inside.Differ.{AtomsDiffer}

-- ---- receiving

pub some_both : (o q : Option Naming) → is_some (both_received o q) ≡ is_some o && is_some q
some_both None q = refl
some_both (Some m) None = refl
some_both (Some m) (Some ms) = refl

-- what was received from an atom by its number was received from one that is there
pub record Received (atoms : List NumberedAtom) (l : Loc) (p : Pat) (i : AtomId) : Type 0 where
  pub atom : NumberedAtom
  pub found : atom_at atoms i ≡ Some atom
  pub passes : receives l p atom ≡ true

received_from :
    (atoms : List NumberedAtom) (l : Loc) (p : Pat) (i : AtomId) (o : Option NumberedAtom)
    → atom_at atoms i ≡ o → is_some (received_at l p o) ≡ true → Received atoms l p i
received_from atoms l p i None e h = cc
received_from atoms l p i (Some a) e h = record { atom = a; found = e; passes = h }

pub received_first :
    (atoms : List NumberedAtom) (l : Loc) (p : Pat) (ps : List Pat) (i : AtomId)
    (took : List AtomId) → is_some (received_all atoms l (p ∷ ps) (i ∷ took)) ≡ true
    → Received atoms l p i × (is_some (received_all atoms l ps took) ≡ true)
received_first atoms l p ps i took h =
    let f =
    and_parts (is_some (received_at l p (atom_at atoms i))) (is_some (received_all atoms l ps took))
    (sym (some_both (received_at l p (atom_at atoms i)) (received_all atoms l ps took)) ∙ h) in
    (received_from atoms l p i (atom_at atoms i) refl f.0, f.1)

-- the least messages are received
pub least_received : (atoms : List NumberedAtom) → AtomsDiffer atoms
    → (l : Loc) (ps : List Pat) (took : List AtomId) → AreLeast atoms l ps took
    → is_some (received_all atoms l ps took) ≡ true
least_received atoms d l [] [] h = refl
least_received atoms d l (p ∷ ps) (i ∷ took) h =
    let least = h.0 in
    let found : atom_at atoms i ≡ Some least.0 =
    ap (atom_at atoms) (sym least.1) ∙ member_found atoms d least.0 least.2.0 in
    let here : is_some (received_at l p (atom_at atoms i)) ≡ true =
    ap (λ o. is_some (received_at l p o)) found ∙ least.2.1 in
    some_both (received_at l p (atom_at atoms i)) (received_all atoms l ps took)
    ∙ ap (λ t. t && is_some (received_all atoms l ps took)) here
    ∙ least_received atoms d l ps took h.1
least_received atoms d l [] (i ∷ took) h = absurd h
least_received atoms d l (p ∷ ps) [] h = absurd h

either_false : (a b c : Bool) → a ≡ false → c ≡ false → a || (cond b false c) ≡ false
either_false a true c e f = ap (λ t. t || false) e
either_false a false c e f = ap (λ t. t || c) e ∙ f

-- and none that are received come before them
pub least_of_all : (atoms : List NumberedAtom) (l : Loc) (ps : List Pat) (took taken : List AtomId)
    → AreLeast atoms l ps took → is_some (received_all atoms l ps taken) ≡ true
    → atoms_less taken took ≡ false
least_of_all atoms l [] [] [] h e = refl
least_of_all atoms l [] [] (j ∷ taken) h e = cc
least_of_all atoms l (p ∷ ps) (i ∷ took) [] h e = cc
least_of_all atoms l (p ∷ ps) (i ∷ took) (j ∷ taken) h e =
    let least = h.0 in
    let f = received_first atoms l p ps j taken e in
    let from = f.0 in
    let has : from.atom.id ≡ j = atom_has atoms j from.atom from.found in
    let lower : atom_less from.atom.id least.0.id ≡ false =
    atom_found (λ (x : NumberedAtom). receives l p x ≡ true → atom_before x least.0 ≡ false) atoms j
    from.atom from.found least.2.2 from.passes in
    let here : atom_less j i ≡ false =
    ap (λ x. atom_less x i) (sym has) ∙ ap (λ x. atom_less from.atom.id x) (sym least.1) ∙ lower in
    either_false (atom_less j i) (atom_less i j) (atoms_less taken took) here
    (least_of_all atoms l ps took taken h.1 f.1)
least_of_all atoms l [] (i ∷ took) taken h e = absurd h
least_of_all atoms l (p ∷ ps) [] taken h e = absurd h

-- ---- whether each pattern is met

met_by : (atoms : List NumberedAtom) (l : Loc) (p : Pat) (i : AtomId) (a : NumberedAtom)
    → atom_at atoms i ≡ Some a → receives l p a ≡ true → is_met atoms l p ≡ true
met_by [] l p i a e h = cc
met_by (b ∷ atoms) l p i a e h = go (same_atom b.id i) (λ f. met_by atoms l p i a f h) e
  where
    later : (t : Bool) → list_any (receives l p) atoms ≡ true
        → t || list_any (receives l p) atoms ≡ true
    later true f = refl
    later false f = f

    go : (t : Bool) → (atom_at atoms i ≡ Some a → is_met atoms l p ≡ true)
        → cond t (Some b) (atom_at atoms i) ≡ Some a
        → receives l p b || list_any (receives l p) atoms ≡ true
    go true ih e' =
        let same : b ≡ a = cc in
        ap (λ (x : NumberedAtom). receives l p x || list_any (receives l p) atoms) same
        ∙ ap (λ t. t || list_any (receives l p) atoms) h
    go false ih e' = later (receives l p b) (ih e')

-- where messages are received, each pattern is met
pub all_met : (atoms : List NumberedAtom) (l : Loc) (ps : List Pat) (took : List AtomId)
    → is_some (received_all atoms l ps took) ≡ true → list_all (is_met atoms l) ps ≡ true
all_met atoms l [] took h = refl
all_met atoms l (p ∷ ps) [] h = cc
all_met atoms l (p ∷ ps) (i ∷ took) h =
    let f = received_first atoms l p ps i took h in
    let from = f.0 in
    ap (λ t. t && list_all (is_met atoms l) ps)
    (met_by atoms l p i from.atom from.found from.passes) ∙ all_met atoms l ps took f.1

-- ---- the least for one pattern more

pub least_more :
    (atoms : List NumberedAtom) (l : Loc) (ps : List Pat) (took : List AtomId) (p : Pat)
    (i : AtomId) → AreLeast atoms l ps took → IsLeast atoms l p i
    → AreLeast atoms l (ps ++ p ∷ []) (took ++ i ∷ [])
least_more atoms l [] [] p i h f = (f, tt)
least_more atoms l (q ∷ ps) (j ∷ took) p i h f = (h.0, least_more atoms l ps took p i h.1 f)
least_more atoms l [] (j ∷ took) p i h f = absurd h
least_more atoms l (q ∷ ps) [] p i h f = absurd h

-- a pattern that is met has a least message
pub not_met : (atoms : List NumberedAtom) (l : Loc) (p : Pat)
    → Each (λ x. receives l p x ≡ false) atoms → is_met atoms l p ≡ false
not_met [] l p h = refl
not_met (a ∷ atoms) l p h = ap (λ t. t || list_any (receives l p) atoms) h.0 ∙ not_met atoms l p h.1

-- the least messages for the patterns that were looked at, with one more
pub one_more_least :
    (atoms : List NumberedAtom) (l : Loc) (ps : List Pat) (i : ℕ) (p : Pat) (a : NumberedAtom)
    (took more : List AtomId) → i < length ps → p ≡ get_or ps i p
    → AreLeast atoms l (take i ps) took
    → IsFirstOf (receives l p) atom_before atoms (Some a) → more ≡ took ++ a.id ∷ []
    → AreLeast atoms l (take (i + 1) ps) more
one_more_least atoms l ps i p a took more lt is h f e =
    let longer : take (i + 1) ps ≡ take i ps ++ p ∷ [] =
    rw add-one (take-suc ps i p lt ∙ ap (λ q. take i ps ++ q ∷ []) (sym is)) in
    let both = least_more atoms l (take i ps) took p a.id h (a, refl, f) in
    subst (λ (qs : List Pat). AreLeast atoms l qs more) (sym longer)
    (subst (AreLeast atoms l (take i ps ++ p ∷ [])) (sym e) both)

all_at : (test : Pat → Bool) (ps : List Pat) (i : ℕ) (p : Pat) → i < length ps → p ≡ get_or ps i p
    → list_all test ps ≡ true → test p ≡ true
all_at test [] i p lt is h = absurd (omega arith)
all_at test (q ∷ ps) zero p lt is h = ap test is ∙ (and_parts (test q) (list_all test ps) h).0
all_at test (q ∷ ps) (suc i) p lt is h =
    all_at test ps i p (omega arith) is (and_parts (test q) (list_all test ps) h).1

pub none_least : (atoms : List NumberedAtom) (l : Loc) (ps : List Pat) (i : ℕ) (p : Pat)
    → i < length ps → p ≡ get_or ps i p → list_all (is_met atoms l) ps ≡ true
    → IsFirstOf (receives l p) atom_before atoms None → ⊥
none_least atoms l ps i p lt is h f =
    let met = all_at (is_met atoms l) ps i p lt is h in
    let not = not_met atoms l p f in cc
