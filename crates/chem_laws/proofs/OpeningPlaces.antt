-- The locations of an opening: one root a site, and then the places of each site's level.
use Rattle.std.proofs.Common.{◌≡◌, ℕ, ◌+◌, ◌<◌, ◌≤◌, List, [], ◌∷◌, ◌++◌, Option, Some, None, Bool}
use Rattle.std.proofs.Common.{true, false, cond, refl, sym, ap, ◌∙◌, arith, length, ◌||◌, ◌&&◌}
use Rattle.std.proofs.Common.{◌==◌, eqb-true, eq-eqb, ltb-true, lt-ltb, ◌⊎◌, inl, inr}
use Rattle.std.proofs.Common.{eq-or-lt_of_le}
use Rattle.std.proofs.lemmas.Bool.{and_parts}
use Rattle.std.specs.Prelude.{not, nat_lt}
use Rattle.chem_model.specs.declared.name.Loc.{Loc}
use Rattle.chem_model.specs.declared.event.Out.{Out}
use Rattle.chem_model.specs.declared.program.SiteTerm.{SiteTerm}
use Rattle.chem_model.specs.declared.numbered.Placed.{Placed}
use Rattle.chem_model.specs.Process.{Rule, Place, Definitions, no_definition, and_also, clauses}
use Rattle.chem_model.specs.Process.{definitions}
use Rattle.chem_model.specs.Bag.{one, bag, ◌⊕◌, nothing}
use Rattle.chem_model.specs.Each.{Each}
use Rattle.chem_model.specs.Fill.{Naming, fill_definitions}
use Rattle.chem_model.specs.Solution.{Standing, Places, Defs, Procs, coded_located_definition}
use Rattle.chem_model.specs.Solution.{same_loc, is_there, is_marked, host_of, or_itself, root, live}
use Rattle.chem_model.specs.Solution.{born, at}
use Rattle.chem_model.specs.NewNames.{Pair, coded_pair}
use Rattle.chem_model.specs.Reduction.{IsReached}
use Rattle.chem_model.specs.Numbered.{standing, place_pairs}
use Rattle.chem_model.specs.Pour.{births_of}
use Rattle.chem_model.specs.Opening.{root_of, roots, level_births}
use Rattle.chem_model.specs.Runs.{only_roots, definitions_at}
use Rattle.chem_laws.proofs.Lists.{true_both, Each-append}
use Rattle.chem_laws.proofs.Bags.{one_self, bag-append}
use Rattle.chem_laws.proofs.Within.{same_loc_is, same_loc_refl}
use Rattle.chem_laws.proofs.Places.{root_loc}
use Rattle.chem_laws.proofs.Parts.{rules_left, bodies_left, born_all, PlacesReached}
use Rattle.chem_laws.proofs.Births.{born_all-append, AreFresh, fresh_left, fresh_right}
use Rattle.chem_laws.proofs.Births.{fresh_places}
use Rattle.chem_laws.proofs.Reached.{chain_trans, state, reached_same, reached_again}
use Rattle.chem_laws.proofs.OpeningNames.{SitesAre}

-- ---- the roots

-- where a root stands
abbrev pub at_root : Standing
at_root = record { host = None; marked = false }

pub root_not : (ts : List SiteTerm) (i : ℕ) (l : Loc)
    → (l.k ≡ 0 → i ≤ l.site → l.site < i + length ts → ⊥) → standing (roots i ts) l ≡ None
root_not [] i l h = refl
root_not (t ∷ ts) i l h = go (same_loc (root_of i) l) refl
    (root_not ts (i + 1) l (λ a b c. h a (omega arith) (omega arith)))
  where
    go : (s : Bool) → same_loc (root_of i) l ≡ s → standing (roots (i + 1) ts) l ≡ None
        → cond s (Some at_root) (standing (roots (i + 1) ts) l) ≡ None
    go true e ih =
        let site : i ≡ l.site = ap (λ (q : Loc). q.site) (same_loc_is (root_of i) l e) in
        let k : 0 ≡ l.k = ap (λ (q : Loc). q.k) (same_loc_is (root_of i) l e) in
        absurd (h (sym k) (omega arith) (omega arith))
    go false e ih = ih

below_other : (i j : ℕ) → i ≤ j → (i == j) ≡ false → i + 1 ≤ j
below_other i j le e = go (eq-or-lt_of_le le)
  where
    go : (i ≡ j) ⊎ (i < j) → i + 1 ≤ j
    go (inl f) = let g = eq-eqb i j f in absurd cc
    go (inr lt) = omega arith

pub root_found : (ts : List SiteTerm) (i : ℕ) (l : Loc) → l.k ≡ 0 → i ≤ l.site
    → l.site < i + length ts → standing (roots i ts) l ≡ Some at_root
root_found [] i l a b c = absurd (omega arith)
root_found (t ∷ ts) i l a b c =
    go (same_loc (root_of i) l) refl (λ d. root_found ts (i + 1) l a d (omega arith))
  where
    other : (i == l.site) ≡ true → same_loc (root_of i) l ≡ true
    other e = ap (same_loc (root_of i)) (sym (root_loc l i a (sym (eqb-true i l.site e))))
        ∙ same_loc_refl (root_of i)

    further : (s : Bool) → (i == l.site) ≡ s → same_loc (root_of i) l ≡ false → i + 1 ≤ l.site
    further true e f = let g = other e in absurd cc
    further false e f = below_other i l.site b e

    go : (s : Bool) → same_loc (root_of i) l ≡ s
        → (i + 1 ≤ l.site → standing (roots (i + 1) ts) l ≡ Some at_root)
        → cond s (Some at_root) (standing (roots (i + 1) ts) l) ≡ Some at_root
    go true e ih = refl
    go false e ih = ih (further (i == l.site) refl e)

-- one unmarked root a site, and no other location
pub roots_alone : (ts : List SiteTerm) (l : Loc)
    → only_roots (length ts) l ≡ standing (roots 0 ts) l
roots_alone ts l = go ((l.k == 0) && nat_lt l.site (length ts)) refl
  where
    go : (s : Bool) → (l.k == 0) && nat_lt l.site (length ts) ≡ s
        → cond s (Some at_root) None ≡ standing (roots 0 ts) l
    go true e =
        let both = and_parts (l.k == 0) (nat_lt l.site (length ts)) e in
        let lt = ltb-true l.site (length ts) both.1 in
        sym (root_found ts 0 l (eqb-true l.k 0 both.0) (omega arith) (omega arith))
    go false e =
        sym (root_not ts 0 l (λ a b c. (let both = true_both (l.k == 0) (nat_lt l.site (length ts))
        (eq-eqb l.k 0 a) (lt-ltb l.site (length ts) (omega arith)) in cc)))

pub live_root : (pl : Places) (l : Loc) → pl l ≡ Some at_root → (live pl l ≡ true) × (root pl l ≡ l)
live_root pl l e =
    let itself : root pl l ≡ l = ap (λ o. or_itself (host_of o) l) e in
    let mark : is_marked (pl (root pl l)) ≡ false =
    ap (λ q. is_marked (pl q)) itself ∙ ap is_marked e in (
      ap (λ o. is_there o && not (is_marked o || is_marked (pl (root pl l)))) e ∙ ap not mark,
      itself,
    )

-- ---- locations in two lists

abbrev pub or_else : Option Standing → Option Standing → Option Standing
or_else None q = q
or_else (Some s) q = Some s

pub standing-append : (xs ys : List Placed) (l : Loc)
    → standing (xs ++ ys) l ≡ or_else (standing xs l) (standing ys l)
standing-append [] ys l = refl
standing-append (x ∷ xs) ys l = go (same_loc x.loc l) (standing-append xs ys l)
  where
    go : (s : Bool) → standing (xs ++ ys) l ≡ or_else (standing xs l) (standing ys l)
        → cond s (Some (record { host = x.host; marked = x.marked })) (standing (xs ++ ys) l)
        ≡ or_else (cond s (Some (record { host = x.host; marked = x.marked })) (standing xs l))
        (standing ys l)
    go true ih = refl
    go false ih = ih

abbrev pub at_pair : Loc → Pair
at_pair l = (l.site, l.k)

abbrev Counted : List Placed → Placed → Type 0
Counted xs x = 0 < bag coded_pair (place_pairs xs) (at_pair x.loc)

all_counted : (xs : List Placed) → Each (Counted xs) xs
all_counted [] = tt
all_counted (x ∷ xs) =
    ((let here = one_self coded_pair (at_pair x.loc) in omega arith), more xs (all_counted xs))
  where
    more : (ys : List Placed) → Each (Counted xs) ys → Each (Counted (x ∷ xs)) ys
    more [] h = tt
    more (y ∷ ys) h = ((let first = h.0 in omega arith), more ys h.1)

-- where each pair stands at most once, each entry says where its location stands
abbrev pub IsEntry : List Placed → Placed → Type 0
IsEntry xs x = standing xs x.loc ≡ Some (record { host = x.host; marked = x.marked })

pub entries : (xs : List Placed) → ((q : Pair) → bag coded_pair (place_pairs xs) q ≤ 1)
    → Each (IsEntry xs) xs
entries [] h = tt
entries (x ∷ xs) h = (
  ap (λ s. cond s (Some (record { host = x.host; marked = x.marked })) (standing xs x.loc))
      (same_loc_refl x.loc),
  later xs (all_counted xs) (entries xs (λ q. (let bound = h q in omega arith))),
)
  where
    one_later : (y : Placed) → (s : Bool) → same_loc x.loc y.loc ≡ s → Counted xs y → IsEntry xs y
        → cond s (Some (record { host = x.host; marked = x.marked })) (standing xs y.loc)
        ≡ Some (record { host = y.host; marked = y.marked })
    one_later y true e c g =
        let here : one coded_pair (at_pair x.loc) (at_pair y.loc) ≡ 1 =
        ap (λ (q : Loc). one coded_pair (at_pair x.loc) (at_pair q))
        (sym (same_loc_is x.loc y.loc e)) ∙ one_self coded_pair (at_pair x.loc) in
        let bound = h (at_pair y.loc) in
        absurd (omega arith)
    one_later y false e c g = g

    later : (ys : List Placed) → Each (Counted xs) ys → Each (IsEntry xs) ys
        → Each (IsEntry (x ∷ xs)) ys
    later [] c g = tt
    later (y ∷ ys) c g = (one_later y (same_loc x.loc y.loc) refl c.0 g.0, later ys c.1 g.1)

-- ---- locations that are born

abbrev pub IsUnmarked : Placed → Type 0
IsUnmarked b = b.marked ≡ false

-- what stands after all are born: what stood before, and else what is born
pub born_standing : (pl : Places) (bs : List Placed) → Each IsUnmarked bs → AreFresh pl bs
    → (l : Loc) → born_all pl bs l ≡ or_else (pl l) (standing bs l)
born_standing pl [] u h l = or_nothing (pl l)
  where
    or_nothing : (o : Option Standing) → o ≡ or_else o None
    or_nothing None = refl
    or_nothing (Some s) = refl
born_standing pl (b ∷ bs) u h l =
    born_standing (born pl b.loc b.host) bs u.1 h.1 l ∙ go (same_loc b.loc l) refl
  where
    go : (s : Bool) → same_loc b.loc l ≡ s
        → or_else (cond s (Some (record { host = b.host; marked = false })) (pl l)) (standing bs l)
        ≡ or_else (pl l)
        (cond s (Some (record { host = b.host; marked = b.marked })) (standing bs l))
    go true e =
        let unborn : pl l ≡ None = ap pl (sym (same_loc_is b.loc l e)) ∙ h.0 in
        (λ i. Some (record { host = b.host; marked = sym u.0 i }))
        ∙ ap (λ o. or_else o (Some (record { host = b.host; marked = b.marked }))) (sym unborn)
    go false e = refl

pub births_unmarked : (r : Loc) (m : Naming) (ds : Definitions) → Each IsUnmarked (births_of r m ds)
births_unmarked r m no_definition = tt
births_unmarked r m (and_also (Rule ps p) ds) = births_unmarked r m ds
births_unmarked r m (and_also (Place x es p) ds) = (refl, births_unmarked r m ds)

pub levels_unmarked : (i : ℕ) (m : Naming) (ts : List SiteTerm)
    → Each IsUnmarked (level_births i m ts)
levels_unmarked i m [] = tt
levels_unmarked i m (t ∷ ts) = Each-append IsUnmarked (births_of (root_of i) m (definitions t.defs))
    (level_births (i + 1) m ts) (births_unmarked (root_of i) m (definitions t.defs))
    (levels_unmarked (i + 1) m ts)

-- ---- all places of all sites become locations

abbrev pub rules_all : Naming → ℕ → List SiteTerm → Defs
rules_all m i [] = nothing
rules_all m i (t ∷ ts) = rules_left (root_of i) m (definitions t.defs) ⊕ rules_all m (i + 1) ts

abbrev pub bodies_all : Naming → ℕ → List SiteTerm → Procs
bodies_all m i [] = nothing
bodies_all m i (t ∷ ts) = bodies_left (root_of i) m (definitions t.defs) ⊕ bodies_all m (i + 1) ts

abbrev pub RootsStand : Places → ℕ → List SiteTerm → Type 0
RootsStand pl i [] = Unit {0}
RootsStand pl i (t ∷ ts) = (pl (root_of i) ≡ Some at_root) × RootsStand pl (i + 1) ts

pub roots_kept : (pl : Places) (bs : List Placed) → Each IsUnmarked bs → AreFresh pl bs
    → (i : ℕ) (ts : List SiteTerm) → RootsStand pl i ts → RootsStand (born_all pl bs) i ts
roots_kept pl bs u f i [] h = tt
roots_kept pl bs u f i (t ∷ ts) h = (
  born_standing pl bs u f (root_of i) ∙ ap (λ o. or_else o (standing bs (root_of i))) h.0,
  roots_kept pl bs u f (i + 1) ts h.1,
)

module _ (places_reached : PlacesReached) (seen : List ℕ) (m : Naming) (tr : List Out) where
  pub sites_placed : (ts : List SiteTerm) (i : ℕ) (pl : Places) (d : Defs) (q : Procs)
      → SitesAre m i ts → RootsStand pl i ts → AreFresh pl (level_births i m ts)
      → IsReached seen
      (state (born_all pl (level_births i m ts)) (rules_all m i ts ⊕ d) (bodies_all m i ts ⊕ q) tr)
      (state pl (bag coded_located_definition (definitions_at m i ts) ⊕ d) q tr)
  sites_placed [] i pl d q h stand fresh =
      reached_again seen pl _ _ _ _ tr (λ x. refl) (λ x. omega arith)
  sites_placed (t ∷ ts) i pl d q h stand fresh =
      let es = definitions t.defs in
      let r = root_of i in
      let births = births_of r m es in
      let later = level_births (i + 1) m ts in
      let own = at r (clauses (fill_definitions m es)) in
      let others = bag coded_located_definition (definitions_at m (i + 1) ts) in
      let first = fresh_left pl births later fresh in
      let live_r = live_root pl r stand.0 in
      let placed = places_reached seen es pl r r m (others ⊕ d) q tr
      live_r.0 live_r.1 (ap is_there stand.0) (fresh_places pl r r m es h.0.own.whole first) in
      let rest =
      sites_placed ts (i + 1) (born_all pl births) (rules_left r m es ⊕ d) (bodies_left r m es ⊕ q)
      h.1 (roots_kept pl births (births_unmarked r m es) first (i + 1) ts stand.1)
      (fresh_right pl births later fresh) in
      chain_trans (reached_again seen pl _ (bag coded_located_definition own ⊕ (others ⊕ d)) q q tr
      (λ x. omega (arith, bag-append coded_located_definition own (definitions_at m (i + 1) ts) x))
      (λ x. refl))
      (chain_trans placed
      (chain_trans (reached_again seen (born_all pl births) _ (others ⊕ (rules_left r m es ⊕ d)) _ _
      tr (λ x. omega arith) (λ x. refl))
      (chain_trans rest (reached_same seen _ _ _ _ _ _ tr tr (born_all-append pl births later)
      (λ x. omega arith) (λ x. omega arith) refl))))
