-- The largest numbers of the sites, after each change, and what they say of fresh numbers.
use Rattle.std.proofs.Common.{◌≡◌, ◌≢◌, ℕ, ◌<◌, ◌≤◌, Bool, true, false, cond, List, [], ◌∷◌, Option}
use Rattle.std.proofs.Common.{Some, None, length, max, refl, sym, ap, ◌∙◌, subst, arith, inl, inr}
use Rattle.std.proofs.Common.{◌||◌, ◌==◌, eqb-true, eq-eqb, ltb-true, ltb-false}
use Rattle.std.specs.Prelude.{option_map, nat_eq, nat_lt, not, is_some, slice_index, replicate}
use Rattle.std.specs.Map.{lookup, keys_of}
use Rattle.std.specs.List.{list_all}
use Rattle.std.proofs.lemmas.Bool.{and_parts, and_from, cases_lt, cases_eq}
use Rattle.std.proofs.lemmas.List.{get_or-replicate, length-replicate}
use Rattle.chem_model.specs.declared.name.Loc.{Loc}
use Rattle.chem_model.specs.Solution.{same_loc}
use Rattle.chem_model.specs.Opening.{root_of}
use Rattle.loc_tree.specs.declared.tree.Spot.{Spot}
use Rattle.loc_tree.specs.Tree.{Tree, Entries, spot, is_pair_of, number_in, IsFresh, roots_from}
use Rattle.loc_tree.specs.Tree.{unmarked_roots, with_birth}
use Rattle.loc_tree.specs.inside.Stored.{loc_at, is_below, IsNewest, AreNewest}
use Rattle.loc_tree.proofs.Spots.{same_loc_is, same_loc_refl, lookup-birth, found_root, root_found}

some_number : (o : Option Spot) → is_some (number_in o) ≡ is_some o
some_number None = refl
some_number (Some s) = refl

-- ---- unmarked roots

no_other : (count i k : ℕ) → 0 < k → (o : Option Spot)
    → lookup (is_pair_of (loc_at i k)) (roots_from 0 count) ≡ o → o ≡ None
no_other count i k some None is = refl
no_other count i k some (Some s) is =
    let there = found_root 0 count (loc_at i k) s is in
    let zeroed : k ≡ 0 = eqb-true k 0 there.zeroed in
    absurd (omega arith)

pub newest_start : (count : ℕ) → AreNewest (unmarked_roots count) (replicate count 0)
newest_start count = record {
  count = length-replicate {A = ℕ} count 0;
  each = λ i less. subst (IsNewest (unmarked_roots count) i)
      (sym (get_or-replicate {A = ℕ} count i 0 0 less)) (record {
        there = sym (some_number (spot (unmarked_roots count) (root_of i)))
            ∙ ap is_some (root_found 0 count i (omega arith) (omega arith));
        last = λ k some.
            no_other count i k some (lookup (is_pair_of (loc_at i k)) (roots_from 0 count)) refl;
      });
}

-- ---- the same locations are there

pub newest_same : (t new : Tree) (numbers : List ℕ) → new.roots ≡ t.roots
    → ((q : Loc) → is_some (spot new q) ≡ is_some (spot t q)) → AreNewest t numbers
    → AreNewest new numbers
newest_same t new numbers roots same are = record {
  count = are.count ∙ sym roots;
  each = λ i less.
      let old = are.each i (omega arith) in
      record {
        there = same (loc_at i (slice_index numbers i)) ∙ old.there;
        last =
            λ k past. go (spot new (loc_at i k)) (same (loc_at i k) ∙ ap is_some (old.last k past));
      };
}
  where
    go : (o : Option Spot) → is_some o ≡ false → o ≡ None
    go None e = refl
    go (Some s) e = cc

pub changed_some : (u : Bool) (change : Spot → Spot) (o : Option Spot)
    → is_some (cond u (option_map change o) o) ≡ is_some o
changed_some true change None = refl
changed_some true change (Some s) = refl
changed_some false change o = refl

-- ---- a birth

-- two lists of largest numbers, where a location was noted in the second
pub record Notes (l : Loc) (old new : List ℕ) : Type 0 where
  pub count : length new ≡ length old
  pub own : l.site < length old → slice_index new l.site ≡ max (slice_index old l.site) l.k
  pub others : (i : ℕ) → i ≢ l.site → slice_index new i ≡ slice_index old i

module _ (t : Tree) (l : Loc) (number : ℕ) (gone : spot t l ≡ None) where
  born : (q : Loc)
      → spot (with_birth t l number) q
      ≡ cond (same_loc l q) (Some (record { number = number; marked = false })) (spot t q)
  born q = lookup-birth l q (record { number = number; marked = false }) t.entries gone

  there_still : (q : Loc) → is_some (spot t q) ≡ true
      → is_some (spot (with_birth t l number) q) ≡ true
  there_still q there = ap is_some (born q) ∙ go (same_loc l q)
    where
      go : (u : Bool)
          → is_some (cond u (Some (record { number = number; marked = false })) (spot t q)) ≡ true
      go true = refl
      go false = there

  none_still : (q : Loc) → (l ≡ q → ⊥) → spot t q ≡ None → spot (with_birth t l number) q ≡ None
  none_still q other none = born q ∙ go (same_loc l q) refl
    where
      go : (u : Bool) → same_loc l q ≡ u
          → cond u (Some (record { number = number; marked = false })) (spot t q) ≡ None
      go true c = absurd (other (same_loc_is l q c))
      go false c = none

  there_now : is_some (spot (with_birth t l number) l) ≡ true
  there_now = ap is_some (born l
      ∙ ap (λ u. cond u (Some (record { number = number; marked = false })) (spot t l))
      (same_loc_refl l))

  own_newest : (n m : ℕ) → m ≡ max n l.k → IsNewest t l.site n
      → IsNewest (with_birth t l number) l.site m
  own_newest n m is old = elim (cases_lt n l.k) [
    | inl less ↦
        let new : m ≡ l.k = omega arith in
        record {
          there =
              ap (λ k. is_some (spot (with_birth t l number) (loc_at l.site k))) new ∙ there_now;
          last = λ k past. none_still (loc_at l.site k)
              (λ same. let e : l.k ≡ k = ap (λ (q : Loc). q.k) same in absurd (omega arith))
              (old.last k (omega arith));
        }
    | inr more ↦
        let new : m ≡ n = omega arith in
        record {
          there = ap (λ k. is_some (spot (with_birth t l number) (loc_at l.site k))) new
              ∙ there_still (loc_at l.site n) old.there;
          last = λ k past. none_still (loc_at l.site k)
              (λ same. let e : l.k ≡ k = ap (λ (q : Loc). q.k) same in absurd (omega arith))
              (old.last k (omega arith));
        }
  ]

  other_newest : (i n : ℕ) → i ≢ l.site → IsNewest t i n → IsNewest (with_birth t l number) i n
  other_newest i n other old = record {
    there = there_still (loc_at i n) old.there;
    last = λ k past. none_still (loc_at i k) (λ same. other (sym (ap (λ (q : Loc). q.site) same)))
        (old.last k past);
  }

  pub newest_birth : (old new : List ℕ) → Notes l old new → AreNewest t old
      → AreNewest (with_birth t l number) new
  newest_birth old new notes are = record {
    count = notes.count ∙ are.count;
    each = λ i less. elim (cases_eq i l.site) [
      | inl same ↦
          let count = are.count in
          let own : slice_index new l.site ≡ max (slice_index old l.site) l.k =
          notes.own (omega arith) in
          subst (λ j. IsNewest (with_birth t l number) j (slice_index new j)) (sym same)
          (own_newest (slice_index old l.site) (slice_index new l.site) own
          (subst (λ j. IsNewest t j (slice_index old j)) same (are.each i less)))
      | inr other ↦ subst (IsNewest (with_birth t l number) i) (sym (notes.others i other))
          (other_newest i (slice_index old i) other (are.each i less))
    ];
  }

-- ---- fresh numbers

pub fresh_above : (t : Tree) (site newest from : ℕ) → IsNewest t site newest → newest < from
    → IsFresh t site from
fresh_above t site newest from is less = λ k past. is.last k (omega arith)

pub fresh_only : (t : Tree) (site newest from : ℕ) → IsNewest t site newest → IsFresh t site from
    → newest < from
fresh_only t site newest from is fresh = elim (cases_lt newest from) [
  | inl less ↦ less
  | inr past ↦ absurd
      (let none : is_some (spot t (loc_at site newest)) ≡ false = ap is_some (fresh newest past) in
      let there = is.there in cc)
]

pub fresh_where_all : (site from : ℕ) (es : Entries)
    → list_all (is_below site from) (keys_of es) ≡ true → (k : ℕ) → from ≤ k
    → lookup (is_pair_of (loc_at site k)) es ≡ None
fresh_where_all site from [] all k past = refl
fresh_where_all site from (e ∷ es) all k past =
    let both =
    and_parts (is_below site from e.0) (list_all (is_below site from) (keys_of es)) all in
    go (is_pair_of (loc_at site k) e.0) refl both.0 (fresh_where_all site from es both.1 k past)
  where
    go : (u : Bool) → is_pair_of (loc_at site k) e.0 ≡ u → is_below site from e.0 ≡ true
        → lookup (is_pair_of (loc_at site k)) es ≡ None
        → cond u (Some e.1) (lookup (is_pair_of (loc_at site k)) es) ≡ None
    go true c pass rest =
        let h = and_parts (site == e.0.0) (k == e.0.1) c in
        let same_site : site ≡ e.0.0 = eqb-true site e.0.0 h.0 in
        let same_k : k ≡ e.0.1 = eqb-true k e.0.1 h.1 in
        let is_site : nat_eq e.0.0 site ≡ true = eq-eqb e.0.0 site (sym same_site) in
        let small : nat_lt e.0.1 from ≡ true =
        (sym (ap (λ b. not b || nat_lt e.0.1 from) is_site) ∙ pass) in
        let less : e.0.1 < from = ltb-true e.0.1 from small in
        absurd (omega arith)
    go false c pass rest = rest

pub all_where_fresh : (site from : ℕ) (es : Entries)
    → ((k : ℕ) → from ≤ k → lookup (is_pair_of (loc_at site k)) es ≡ None)
    → list_all (is_below site from) (keys_of es) ≡ true
all_where_fresh site from [] fresh = refl
all_where_fresh site from (e ∷ es) fresh =
    and_from (is_below site from e.0) (list_all (is_below site from) (keys_of es))
    (head (nat_eq e.0.0 site) refl (nat_lt e.0.1 from) refl) (all_where_fresh site from es
    (λ k past. tail k (is_pair_of (loc_at site k) e.0) (fresh k past)))
  where
    tail : (k : ℕ) (u : Bool) → cond u (Some e.1) (lookup (is_pair_of (loc_at site k)) es) ≡ None
        → lookup (is_pair_of (loc_at site k)) es ≡ None
    tail k true none = cc
    tail k false none = none

    head : (u : Bool) → nat_eq e.0.0 site ≡ u → (v : Bool) → nat_lt e.0.1 from ≡ v
        → not u || v ≡ true
    head false c v d = refl
    head true c true d = refl
    head true c false d =
        let past : from ≤ e.0.1 = ltb-false e.0.1 from d in
        let none = fresh e.0.1 past in
        let here : is_pair_of (loc_at site e.0.1) e.0 ≡ true =
        and_from (site == e.0.0) (e.0.1 == e.0.1) (eq-eqb site e.0.0 (sym (eqb-true e.0.0 site c)))
        (eq-eqb e.0.1 e.0.1 refl) in
        let some : ◌≡◌ {A = Option Spot} (Some e.1) None =
        sym (ap (λ u. cond u (Some e.1) (lookup (is_pair_of (loc_at site e.0.1)) es)) here)
        ∙ none in
        cc
