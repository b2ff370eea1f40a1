-- The names of what the sites define: each site's are its own, and their pairs are all different.
use Rattle.std.proofs.Common.{◌≡◌, ℕ, suc, ◌+◌, ◌<◌, ◌≤◌, List, [], ◌∷◌, ◌++◌, Option, Some, None}
use Rattle.std.proofs.Common.{Bool, true, false, cond, refl, sym, ap, ◌∙◌, subst, arith, length}
use Rattle.std.proofs.Common.{◌||◌, ◌==◌, inl, inr, eqb-true, eq-eqb}
use Rattle.std.proofs.lemmas.Bool.{or_parts}
use Rattle.std.specs.Prelude.{is_some, slice_index}
use Rattle.chem_model.specs.declared.name.Name.{Name}
use Rattle.chem_model.specs.declared.name.Name.TheVariants as name
use Rattle.chem_model.specs.declared.name.Ref.TheVariants.{Binder}
use Rattle.chem_model.specs.declared.program.SiteTerm.{SiteTerm}
use Rattle.chem_model.specs.Process.{Place, definitions}
use Rattle.chem_model.specs.Binders.{block, is_among}
use Rattle.chem_model.specs.Scope.{IsBlock, AreRulesAndPlaces}
use Rattle.chem_model.specs.ProgramFacts.{places}
use Rattle.chem_model.specs.Bag.{one, bag, same_code}
use Rattle.chem_model.specs.Each.{Each}
use Rattle.chem_model.specs.Fill.{Naming, name_at}
use Rattle.chem_model.specs.NewNames.{Pair, coded_pair, pairs_of, HasDomain}
use Rattle.chem_model.specs.Pour.{Drawn, naming}
use Rattle.chem_model.specs.Opening.{root_of, root_names, level_names, level_counts}
use Rattle.chem_model.specs.Runs.{NamesSites}
use Rattle.chem_laws.proofs.Lists.{above, is_false, has_none, cond_most, zero_or_above}
use Rattle.chem_laws.proofs.Bags.{one_is}
use Rattle.chem_laws.proofs.Terms.{or_name, name_at-append, some_or, among-append, domain-append}
use Rattle.chem_laws.proofs.Terms.{among_first, among_left, among_right}
use Rattle.chem_laws.proofs.Parts.{Agree, in_range, IsNaming, NamingIs}
use Rattle.chem_laws.proofs.OpeningLists.{not_among}
use Rattle.chem_laws.proofs.OpeningBlocks.{IsBlockAt, own_block, other_block, sites_apart}
use Rattle.chem_laws.proofs.OpeningBlocks.{name_apart}
use Rattle.chem_laws.proofs.NamingRange.{pairs_of-append, in_range_once, in_range_is}

-- ---- each site

-- the naming of a site's level at its root
abbrev pub own_naming : ℕ → SiteTerm → Drawn
own_naming i t = naming i (root_of i) (definitions t.defs) 1

-- a site with this number, where m names what the sites define
pub record SiteIs (m : Naming) (i : ℕ) (t : SiteTerm) : Type 0 where
  pub named : name_at m t.name ≡ Some (name.Place (root_of i))
  pub own : IsNaming i (root_of i) (root_of i) m (definitions t.defs) 1 (own_naming i t)
  pub levels : AreRulesAndPlaces (definitions t.defs)

abbrev pub SitesAre : Naming → ℕ → List SiteTerm → Type 0
SitesAre m i [] = Unit {0}
SitesAre m i (t ∷ ts) = SiteIs m i t × SitesAre m (i + 1) ts

abbrev pub HasLevel : SiteTerm → Type 0
HasLevel t = AreRulesAndPlaces (definitions t.defs)

-- the names of these sites, from this number on
abbrev pub rest_names : ℕ → List SiteTerm → Naming
rest_names i ts = root_names i ts ++ level_names i ts

abbrev site_binders : List SiteTerm → List ℕ
site_binders [] = []
site_binders (t ∷ ts) = t.name ∷ site_binders ts

abbrev level_binders : List SiteTerm → List ℕ
level_binders [] = []
level_binders (t ∷ ts) = block (definitions t.defs) ++ level_binders ts

-- ---- which binders have a name

root_found : (i : ℕ) (ts : List SiteTerm) → HasDomain (site_binders ts) (root_names i ts)
root_found i [] b = refl
root_found i (t ∷ ts) b = go (t.name == b) (root_found (i + 1) ts b)
  where
    go : (s : Bool) → is_some (name_at (root_names (i + 1) ts) b) ≡ is_among (site_binders ts) b
        → is_some (cond s (Some (name.Place (root_of i))) (name_at (root_names (i + 1) ts) b))
        ≡ s || is_among (site_binders ts) b
    go true ih = refl
    go false ih = ih

shuffle : (a e s l : Bool) → a || (e || (s || l)) ≡ (a || s) || (e || l)
shuffle true e s l = refl
shuffle false true true l = refl
shuffle false true false l = refl
shuffle false false s l = refl

block_is : (ts : List SiteTerm) (b : ℕ)
    → is_among (block (places ts)) b ≡ is_among (site_binders ts) b || is_among (level_binders ts) b
block_is [] b = refl
block_is (t ∷ ts) b =
    let es = block (definitions t.defs) in
    ap (λ s. (t.name == b) || s)
    (among-append es (block (places ts)) b ∙ ap (λ s. is_among es b || s) (block_is ts b))
    ∙ shuffle (t.name == b) (is_among es b) (is_among (site_binders ts) b)
    (is_among (level_binders ts) b)
    ∙ ap (λ s. ((t.name == b) || is_among (site_binders ts) b) || s)
    (sym (among-append es (level_binders ts) b))

first_name : (o q : Option Name) → is_some o ≡ true → or_name o q ≡ o
first_name None q e = cc
first_name (Some x) q e = refl

module _ (naming_is : NamingIs) where
  own_domain : (i : ℕ) (t : SiteTerm) → IsBlock (definitions t.defs) → HasLevel t
      → HasDomain (block (definitions t.defs)) (own_naming i t).names
  own_domain i t h g = (naming_is i (root_of i) (root_of i)
      (own_naming i t).names (definitions t.defs) 1 h g (λ b e. refl)).domain

  level_found : (ts : List SiteTerm) (i : ℕ) → IsBlockAt None (places ts) → Each HasLevel ts
      → HasDomain (level_binders ts) (level_names i ts)
  level_found [] i h g b = refl
  level_found (t ∷ ts) i h g b =
      domain-append (block (definitions t.defs)) (level_binders ts)
      (own_naming i t).names (level_names (i + 1) ts)
      (own_domain i t (own_block None t.name (definitions t.defs) t.body (places ts) h) g.0)
      (level_found ts (i + 1)
      (other_block None (Place (Binder t.name) (definitions t.defs) t.body) (places ts) h) g.1) b

  -- exactly the binders of the sites have a name
  pub rest_found : (ts : List SiteTerm) (i : ℕ) → IsBlockAt None (places ts) → Each HasLevel ts
      → HasDomain (block (places ts)) (rest_names i ts)
  rest_found ts i h g b =
      ap is_some (name_at-append (root_names i ts) (level_names i ts) b)
      ∙ some_or (name_at (root_names i ts) b) (name_at (level_names i ts) b)
      ∙ ap (λ s. s || is_some (name_at (level_names i ts) b)) (root_found i ts b)
      ∙ ap (λ s. is_among (site_binders ts) b || s) (level_found ts i h g b) ∙ sym (block_is ts b)

  module _ (i : ℕ) (t : SiteTerm) (ts : List SiteTerm) (h : IsBlockAt None (places (t ∷ ts)))
      (g : HasLevel t) where
    abbrev own : Naming
    own = (own_naming i t).names

    abbrev roots : Naming
    roots = root_names (i + 1) ts

    abbrev levels : Naming
    levels = level_names (i + 1) ts

    abbrev level : List ℕ
    level = block (definitions t.defs)

    one_block : IsBlock (definitions t.defs)
    one_block = own_block None t.name (definitions t.defs) t.body (places ts) h

    at_head : name_at (rest_names i (t ∷ ts)) t.name ≡ Some (name.Place (root_of i))
    at_head =
        ap (λ s. cond s (Some (name.Place (root_of i))) (name_at (roots ++ (own ++ levels)) t.name))
        (eq-eqb t.name t.name refl)

    parts : (b : ℕ) → (t.name == b) ≡ false
        → name_at (rest_names i (t ∷ ts)) b
        ≡ or_name (name_at roots b) (or_name (name_at own b) (name_at levels b))
    parts b e =
        ap (λ s. cond s (Some (name.Place (root_of i))) (name_at (roots ++ (own ++ levels)) b)) e
        ∙ name_at-append roots (own ++ levels) b
        ∙ ap (or_name (name_at roots b)) (name_at-append own levels b)

    pub here : Agree level (rest_names i (t ∷ ts)) own
    here b e =
        let apart = sites_apart t.name (definitions t.defs) t.body (places ts) h b
        (among_right (t.name ∷ []) level b e) in
        let other : (t.name == b) ≡ false =
        is_false (t.name == b) (λ q. let f : is_among level b ≡ false =
        ap (is_among level) (sym (eqb-true t.name b q))
        ∙ name_apart t.name (definitions t.defs) t.body (places ts) h in cc) in
        let no_root : is_some (name_at roots b) ≡ false =
        root_found (i + 1) ts b
        ∙ (or_parts (is_among (site_binders ts) b) (is_among (level_binders ts) b)
        (sym (block_is ts b) ∙ apart)).0 in
        parts b other
        ∙ ap (λ o. or_name o (or_name (name_at own b) (name_at levels b)))
        (has_none (name_at roots b) no_root)
        ∙ first_name (name_at own b) (name_at levels b) (own_domain i t one_block g b ∙ e)

    pub later : Agree (block (places ts)) (rest_names i (t ∷ ts)) (rest_names (i + 1) ts)
    later b e =
        let apart : is_among (t.name ∷ level) b ≡ false =
        is_false (is_among (t.name ∷ level) b)
        (λ q. let f = sites_apart t.name (definitions t.defs) t.body (places ts) h b q in cc) in
        let both = not_among (t.name ∷ []) level b apart in
        let other : (t.name == b) ≡ false = (or_parts (t.name == b) false both.0).0 in
        let no_own : is_some (name_at own b) ≡ false = own_domain i t one_block g b ∙ both.1 in
        parts b other
        ∙ ap (λ o. or_name (name_at roots b) (or_name o (name_at levels b)))
        (has_none (name_at own b) no_own) ∙ sym (name_at-append roots levels b)

  -- each site has its own names
  pub sites_are : (ts : List SiteTerm) (i : ℕ) (m : Naming) → IsBlockAt None (places ts)
      → Each HasLevel ts → Agree (block (places ts)) m (rest_names i ts) → SitesAre m i ts
  sites_are [] i m h g same = tt
  sites_are (t ∷ ts) i m h g same =
      let es = definitions t.defs in
      let others = other_block None (Place (Binder t.name) es t.body) (places ts) h in (
        record {
          named = same t.name (among_first t.name (block es ++ block (places ts)))
              ∙ at_head i t ts h g.0;
          own = naming_is i (root_of i) (root_of i) m es 1 (one_block i t ts h g.0)
              g.0 (λ b e. same b (among_right (t.name ∷ []) (block es ++ block (places ts)) b
              (among_left (block es) (block (places ts)) b e)) ∙ here i t ts h g.0 b e);
          levels = g.0;
        },
        sites_are ts (i + 1) m others
            g.1 (λ b e. same b (among_right (t.name ∷ block es) (block (places ts)) b e)
            ∙ later i t ts h g.0 b e),
      )

-- ---- what a start says of its names

pub names_sites : (m : Naming) (i : ℕ) (ts : List SiteTerm) → SitesAre m i ts → NamesSites m i ts
names_sites m i [] h = tt
names_sites m i (t ∷ ts) h = (h.0.named, h.0.own.whole, names_sites m (i + 1) ts h.1)

-- how often a pair is one of a name of these sites
abbrev pub site_pairs : ℕ → List SiteTerm → Pair → ℕ
site_pairs i ts q =
    bag coded_pair (pairs_of (root_names i ts)) q + bag coded_pair (pairs_of (level_names i ts)) q

-- a pair of these sites occurs once, and is below its site's count
pub record IsOnce (i : ℕ) (ts : List SiteTerm) (q : Pair) : Type 0 where
  pub once : site_pairs i ts q ≤ 1
  pub below : 0 < site_pairs i ts q
      → (j : ℕ) × (q.0 ≡ i + j) × (j < length ts) × (q.1 < slice_index (level_counts i ts) j)

one_of_three : (a b c : ℕ) → a ≤ 1 → b ≤ 1 → c ≤ 1 → (0 < a → 0 < b → ⊥) → (0 < a → 0 < c → ⊥)
    → (0 < b → 0 < c → ⊥) → a + (b + c) ≤ 1
one_of_three a b c x y z f g h = elim (zero_or_above a) [
  | inl u ↦ elim (zero_or_above b) [
    | inl v ↦ omega arith
    | inr v ↦ elim (zero_or_above c) [ inl w ↦ omega arith | inr w ↦ absurd (h v w) ]
  ]
  | inr u ↦ elim (zero_or_above b) [
    | inl v ↦ elim (zero_or_above c) [ inl w ↦ omega arith | inr w ↦ absurd (g u w) ]
    | inr v ↦ absurd (f u v)
  ]
]

one_at_most : (p q : Pair) → one coded_pair p q ≤ 1
unfolding one
one_at_most p q = cond_most (same_code (coded_pair.code p) (coded_pair.code q))

pub pairs_once : (m : Naming) (ts : List SiteTerm) (i : ℕ) (q : Pair) → SitesAre m i ts
    → IsOnce i ts q
pairs_once m [] i q h = record { once = omega arith; below = λ e. absurd (omega arith) }
pairs_once m (t ∷ ts) i q h =
    let own = own_naming i t in
    let p : Pair = (i, 0) in
    let a = one coded_pair p q in
    let b = in_range i 1 own.next q in
    let c = site_pairs (i + 1) ts q in
    let later = pairs_once m ts (i + 1) q h.1 in
    let once = later.once in
    let up = h.0.own.up in
    let split : site_pairs i (t ∷ ts) q ≡ a + (b + c) =
    omega (arith, h.0.own.range q, pairs_of-append own.names (level_names (i + 1) ts) q) in
    let at_root : 0 < a → (q.0 ≡ i) × (q.1 ≡ 0) = λ e. (
      ap (λ (x : Pair). x.0) (sym (one_is coded_pair p q e)),
      ap (λ (x : Pair). x.1) (sym (one_is coded_pair p q e)),
    ) in
    record {
      once = subst (λ (n : ℕ). n ≤ 1) (sym split)
          (one_of_three a b c (one_at_most p q) (in_range_once i 1 own.next q) once
          (λ x y. let f = at_root x in let g = in_range_is i 1 own.next q y in let z = f.1 in
          let w = g.1 in omega arith)
          (λ x y. let f = at_root x in let g = later.below y in let z = f.0 in let w = g.1 in
          omega arith)
          (λ x y. let f = in_range_is i 1 own.next q x in let g = later.below y in let z = f.0 in
          let w = g.1 in omega arith));
      below = λ e. elim (above a (b + c) (subst (λ (n : ℕ). 0 < n) split e)) [
        | inl u ↦ (let f = at_root u in let x = f.0 in let y = f.1 in
            (0, omega arith, omega arith, omega arith))
        | inr u ↦ elim (above b c u) [
          | inl v ↦ (let f = in_range_is i 1 own.next q v in let x = f.0 in let y = f.2 in
              (0, omega arith, omega arith, y))
          | inr v ↦ (let g = later.below v in let x = g.1 in let y = g.2 in
              (suc g.0, omega arith, omega arith, g.3))
        ]
      ];
    }
