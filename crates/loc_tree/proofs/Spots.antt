-- What look-ups find in the entries of a tree, after each change too.
use Rattle.std.proofs.Common.{◌≡◌, ℕ, zero, suc, ◌+◌, ◌<◌, ◌≤◌, Bool, true, false, cond, [], ◌∷◌}
use Rattle.std.proofs.Common.{◌++◌, Some, None, refl, sym, ap, ◌∙◌, arith, ◌&&◌, ◌==◌, eqb-true}
use Rattle.std.proofs.Common.{eq-eqb}
use Rattle.std.specs.Prelude.{option_map, Result, Ok, Err, IsOk, OnOk}
use Rattle.std.specs.Map.{lookup, set_value}
use Rattle.std.proofs.lemmas.Bool.{and_parts, and_from, eqb-false}
use Rattle.chem_model.specs.declared.name.Loc.{Loc}
use Rattle.chem_model.specs.Solution.{same_loc}
use Rattle.chem_model.specs.NewNames.{Pair}
use Rattle.chem_model.specs.Opening.{root_of}
use Rattle.loc_tree.specs.declared.tree.Spot.{Spot}
use Rattle.indexmap.specs.IndexMap.{insert_entry}
use Rattle.loc_tree.specs.Tree.{Entries, same_pair, is_pair_of, number_in, change_spot, roots_from}

-- ---- tests of locations

pub same_loc_is : (a b : Loc) → same_loc a b ≡ true → a ≡ b
same_loc_is a b e =
    let h = and_parts (a.site == b.site) (a.k == b.k) e in
    λ i. record { site = eqb-true a.site b.site h.0 i; k = eqb-true a.k b.k h.1 i }

pub same_loc_refl : (l : Loc) → same_loc l l ≡ true
same_loc_refl l =
    and_from (l.site == l.site) (l.k == l.k) (eq-eqb l.site l.site refl) (eq-eqb l.k l.k refl)

pub same_loc_sym : (a b : Loc) → same_loc a b ≡ same_loc b a
same_loc_sym a b = go (same_loc a b) refl (same_loc b a) refl
  where
    go : (t : Bool) → same_loc a b ≡ t → (u : Bool) → same_loc b a ≡ u → t ≡ u
    go true c true d = refl
    go true c false d =
        let same : same_loc b a ≡ true =
        ap (λ q. same_loc b q) (same_loc_is a b c) ∙ same_loc_refl b in
        cc
    go false c true d =
        let same : same_loc a b ≡ true =
        ap (λ q. same_loc a q) (same_loc_is b a d) ∙ same_loc_refl a in
        cc
    go false c false d = refl

-- a location with number 0 is the root of its site
pub root_is : (l : Loc) (i : ℕ) → l.k ≡ 0 → l.site ≡ i → root_of i ≡ l
root_is l i zeroed site = λ j. record { site = sym site j; k = sym zeroed j }

pair_is : (l : Loc) (p : Pair) → is_pair_of l p ≡ true → ◌≡◌ {A = Pair} (l.site, l.k) p
pair_is l p e =
    let h = and_parts (l.site == p.0) (l.k == p.1) e in
    λ i. (eqb-true l.site p.0 h.0 i, eqb-true l.k p.1 h.1 i)

-- at the pair of one location the test for another is whether the two are the same
pub pair_of_one : (l q : Loc) (p : Pair) → is_pair_of l p ≡ true → is_pair_of q p ≡ same_loc l q
pair_of_one l q p e = ap (is_pair_of q) (sym (pair_is l p e)) ∙ same_loc_sym q l

-- ---- one location changed

pub lookup-change : (l q : Loc) (change : Spot → Spot) (es : Entries)
    → lookup (is_pair_of q) (change_spot l change es)
    ≡ cond (same_loc l q) (option_map change (lookup (is_pair_of q) es)) (lookup (is_pair_of q) es)
lookup-change l q change [] = go (same_loc l q)
  where
    go : (t : Bool) → None ≡ cond t (option_map change None) None
    go true = refl
    go false = refl
lookup-change l q change (e ∷ es) =
    go (is_pair_of l e.0) refl (is_pair_of q e.0) refl (lookup-change l q change es)
  where
    go : (t : Bool) → is_pair_of l e.0 ≡ t → (u : Bool) → is_pair_of q e.0 ≡ u
        → lookup (is_pair_of q) (change_spot l change es)
        ≡ cond (same_loc l q) (option_map change (lookup (is_pair_of q) es))
        (lookup (is_pair_of q) es)
        → lookup (is_pair_of q) (cond t ((e.0, change e.1) ∷ es) (e ∷ change_spot l change es))
        ≡ cond (same_loc l q) (option_map change (cond u (Some e.1) (lookup (is_pair_of q) es)))
        (cond u (Some e.1) (lookup (is_pair_of q) es))
    go true c true d ih =
        let same : same_loc l q ≡ true = sym (pair_of_one l q e.0 c) ∙ d in
        rw (d, same) refl
    go true c false d ih =
        let other : same_loc l q ≡ false = sym (pair_of_one l q e.0 c) ∙ d in
        rw (d, other) refl
    go false c true d ih =
        let other : same_loc l q ≡ false = same_loc_sym l q ∙ sym (pair_of_one q l e.0 d) ∙ c in
        rw (d, other) refl
    go false c false d ih = rw d ih

-- a look-up that found something, written back changed
pub change_found : (l : Loc) (change : Spot → Spot) (es : Entries) (s : Spot)
    → lookup (is_pair_of l) es ≡ Some s
    → set_value (is_pair_of l) es (change s) ≡ change_spot l change es
change_found l change [] s found = cc
change_found l change (e ∷ es) s found = go (is_pair_of l e.0) found (change_found l change es s)
  where
    go : (t : Bool) → cond t (Some e.1) (lookup (is_pair_of l) es) ≡ Some s
        → (lookup (is_pair_of l) es ≡ Some s
        → set_value (is_pair_of l) es (change s) ≡ change_spot l change es)
        → cond t ((e.0, change s) ∷ es) (e ∷ set_value (is_pair_of l) es (change s))
        ≡ cond t ((e.0, change e.1) ∷ es) (e ∷ change_spot l change es)
    go true f rest =
        let same : s ≡ e.1 = cc in
        let with_spot : Spot → Entries = λ (r : Spot). (e.0, change r) ∷ es in
        ap with_spot same
    go false f rest = ap (λ (fs : Entries). e ∷ fs) (rest f)

-- ---- one location more

pub lookup-birth : (l q : Loc) (s : Spot) (es : Entries) → lookup (is_pair_of l) es ≡ None
    → lookup (is_pair_of q) (es ++ ((l.site, l.k), s) ∷ [])
    ≡ cond (same_loc l q) (Some s) (lookup (is_pair_of q) es)
lookup-birth l q s [] gone = ap (λ b. cond b (Some s) None) (same_loc_sym q l)
lookup-birth l q s (e ∷ es) gone =
    go (is_pair_of l e.0) refl gone (is_pair_of q e.0) refl (lookup-birth l q s es)
  where
    go : (t : Bool) → is_pair_of l e.0 ≡ t → cond t (Some e.1) (lookup (is_pair_of l) es) ≡ None
        → (u : Bool) → is_pair_of q e.0 ≡ u
        → (lookup (is_pair_of l) es ≡ None
        → lookup (is_pair_of q) (es ++ ((l.site, l.k), s) ∷ [])
        ≡ cond (same_loc l q) (Some s) (lookup (is_pair_of q) es))
        → cond u (Some e.1) (lookup (is_pair_of q) (es ++ ((l.site, l.k), s) ∷ []))
        ≡ cond (same_loc l q) (Some s) (cond u (Some e.1) (lookup (is_pair_of q) es))
    go true c g u d rest = cc
    go false c g true d rest =
        let other : same_loc l q ≡ false = same_loc_sym l q ∙ sym (pair_of_one q l e.0 d) ∙ c in
        rw other refl
    go false c g false d rest = rest g

-- ---- unmarked roots

-- what is found among roots
pub record IsAmongRoots (i more : ℕ) (q : Loc) (s : Spot) : Type 0 where
  pub zeroed : (q.k == 0) ≡ true
  pub from : i ≤ q.site
  pub upto : q.site < i + more
  pub own : s.number ≡ q.site

pub found_root : (i more : ℕ) (q : Loc) (s : Spot)
    → lookup (is_pair_of q) (roots_from i more) ≡ Some s → IsAmongRoots i more q s
found_root i zero q s found = cc
found_root i (suc more) q s found =
    go (is_pair_of q (i, 0)) refl found (found_root (i + 1) more q s)
  where
    go : (t : Bool) → is_pair_of q (i, 0) ≡ t
        → cond t (Some (record { number = i; marked = false }))
        (lookup (is_pair_of q) (roots_from (i + 1) more)) ≡ Some s
        → (lookup (is_pair_of q) (roots_from (i + 1) more) ≡ Some s → IsAmongRoots (i + 1) more q s)
        → IsAmongRoots i (suc more) q s
    go true c f rest =
        let h = and_parts (q.site == i) (q.k == 0) c in
        let site : q.site ≡ i = eqb-true q.site i h.0 in
        let number : i ≡ s.number = cc in
        record { zeroed = h.1; from = omega arith; upto = omega arith; own = sym number ∙ sym site }
    go false c f rest =
        let there = rest f in
        record {
          zeroed = there.zeroed;
          from = omega (arith, there.from);
          upto = omega (arith, there.upto);
          own = there.own;
        }

pub root_found : (i more j : ℕ) → i ≤ j → j < i + more
    → number_in (lookup (is_pair_of (root_of j)) (roots_from i more)) ≡ Some j
root_found i zero j from upto = absurd (omega arith)
root_found i (suc more) j from upto =
    go (j == i) refl (λ behind. root_found (i + 1) more j behind (omega arith))
  where
    go : (t : Bool) → (j == i) ≡ t
        → (i + 1 ≤ j
        → number_in (lookup (is_pair_of (root_of j)) (roots_from (i + 1) more)) ≡ Some j)
        → number_in (cond (t && (0 == 0)) (Some (record { number = i; marked = false }))
        (lookup (is_pair_of (root_of j)) (roots_from (i + 1) more))) ≡ Some j
    go true c rest = ap (λ n. Some n) (sym (eqb-true j i c))
    go false c rest = rest (let other = eqb-false j i c in omega arith)

-- a root more goes last
pub roots_from-next : (i more : ℕ)
    → roots_from i (more + 1)
    ≡ roots_from i more ++ ((i + more, 0), record { number = i + more; marked = false }) ∷ []
roots_from-next i zero = let same : i + 0 ≡ i = omega arith in rw same refl
roots_from-next i (suc more) =
    let same : i + 1 + more ≡ i + suc more = omega arith in
    let next : suc more + 1 ≡ suc (more + 1) = omega arith in
    rw next (ap (λ (es : Entries). ((i, 0), record { number = i; marked = false }) ∷ es)
    (roots_from-next (i + 1) more
    ∙ ap (λ n. roots_from (i + 1) more ++ ((n, 0), record { number = n; marked = false }) ∷ [])
    same))

pub no_root_yet : (i more j : ℕ) → i + more ≤ j
    → lookup (is_pair_of (root_of j)) (roots_from i more) ≡ None
no_root_yet i zero j past = refl
no_root_yet i (suc more) j past = go (j == i) refl (no_root_yet (i + 1) more j (omega arith))
  where
    go : (t : Bool) → (j == i) ≡ t
        → lookup (is_pair_of (root_of j)) (roots_from (i + 1) more) ≡ None
        → cond (t && (0 == 0)) (Some (record { number = i; marked = false }))
        (lookup (is_pair_of (root_of j)) (roots_from (i + 1) more)) ≡ None
    go true c rest = let same : j ≡ i = eqb-true j i c in absurd (omega arith)
    go false c rest = rest

-- what a call promises of its answer, where it can't fail
pub from_ok : {A E : Type 0} (r : Result A E) (P : Type 0) → IsOk r → OnOk r P → P
from_ok (Ok a) P ok p = p
from_ok (Err e) P ok p = absurd (cc)

-- a new key goes to the end
pub insert_absent : (es : Entries) (l : Loc) (s : Spot) → lookup (is_pair_of l) es ≡ None
    → insert_entry same_pair es (l.site, l.k) s ≡ es ++ ((l.site, l.k), s) ∷ []
insert_absent [] l s none = refl
insert_absent (e ∷ es) l s none = go (is_pair_of l e.0) none (insert_absent es l s)
  where
    go : (t : Bool) → cond t (Some e.1) (lookup (is_pair_of l) es) ≡ None
        → (lookup (is_pair_of l) es ≡ None
        → insert_entry same_pair es (l.site, l.k) s ≡ es ++ ((l.site, l.k), s) ∷ [])
        → cond t ((e.0, s) ∷ es) (e ∷ insert_entry same_pair es (l.site, l.k) s)
        ≡ e ∷ (es ++ ((l.site, l.k), s) ∷ [])
    go true gone rest = cc
    go false gone rest = ap (λ (fs : Entries). e ∷ fs) (rest gone)

-- a root more, inserted
pub insert_root : (count : ℕ)
    → insert_entry same_pair (roots_from 0 count) (count, 0)
    (record { number = count; marked = false }) ≡ roots_from 0 (count + 1)
insert_root count =
    insert_absent (roots_from 0 count) (root_of count) (record { number = count; marked = false })
    (no_root_yet 0 count count (omega arith)) ∙ sym (go (omega arith))
  where
    go : 0 + count ≡ count
        → roots_from 0 (count + 1)
        ≡ roots_from 0 count ++ ((count, 0), record { number = count; marked = false }) ∷ []
    go same = roots_from-next 0 count
        ∙ ap (λ n. roots_from 0 count ++ ((n, 0), record { number = n; marked = false }) ∷ []) same
