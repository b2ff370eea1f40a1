-- The tree of a sound numbered solution.
use Rattle.std.proofs.Common.{◌≡◌, ℕ, ◌<◌, Bool, true, false, cond, List, [], ◌∷◌, Option, Some}
use Rattle.std.proofs.Common.{None, length, refl, sym, ap, ◌∙◌, arith, ◌==◌, eq-eqb, lt-ltb, inl}
use Rattle.std.proofs.Common.{inr}
use Rattle.std.specs.Prelude.{nat_lt}
use Rattle.std.specs.Map.{lookup}
use Rattle.std.proofs.lemmas.Bool.{and_from, cases_lt}
use Rattle.chem_model.specs.declared.name.Loc.{Loc}
use Rattle.chem_model.specs.declared.numbered.Placed.{Placed}
use Rattle.chem_model.specs.declared.numbered.Numbered.{Numbered}
use Rattle.chem_model.specs.Each.{Each}
use Rattle.chem_model.specs.Solution.{Standing, is_there, host_of, or_itself, same_loc}
use Rattle.chem_model.specs.Numbered.{standing}
use Rattle.chem_model.specs.Opening.{root_of}
use Rattle.chem_model.specs.Sound.{IsSound, IsHosted}
use Rattle.loc_tree.specs.declared.tree.Spot.{Spot}
use Rattle.loc_tree.specs.Tree.{Tree, spot, number_in, is_pair_of, is_root}
use Rattle.loc_tree.specs.Places.{host_in, standing_in, places_in, IsTree, IsTreeOf}
use Rattle.loc_tree.specs.Laws.{spot_of, entries_of, tree_of, SoundHasTree, RootsAreSites}
use Rattle.loc_tree.proofs.Spots.{same_loc_is, same_loc_sym, root_is}
use Rattle.loc_tree.proofs.Alive.{root_parts}

-- what is found of a location: the same entry of the list and of the map
data IsFound (n : Numbered) (l : Loc) : Option Spot → Option Standing → Type 0 where
  nowhere : IsFound n l None None
  found : (p : Placed) → IsHosted n p p.host → p.loc ≡ l
      → IsFound n l (Some (spot_of p)) (Some (record { host = p.host; marked = p.marked }))

find : (n : Numbered) (l : Loc) (ps : List Placed) → Each (λ p. IsHosted n p p.host) ps
    → IsFound n l (lookup (is_pair_of l) (entries_of ps)) (standing ps l)
find n l [] each = nowhere
find n l (p ∷ ps) each = go (same_loc p.loc l) refl (find n l ps each.1)
  where
    go : (u : Bool) → same_loc p.loc l ≡ u
        → IsFound n l (lookup (is_pair_of l) (entries_of ps)) (standing ps l)
        → IsFound n l (cond (is_pair_of l (p.loc.site, p.loc.k)) (Some (spot_of p))
        (lookup (is_pair_of l) (entries_of ps)))
        (cond u (Some (record { host = p.host; marked = p.marked })) (standing ps l))
    go true c rest =
        let here : is_pair_of l (p.loc.site, p.loc.k) ≡ true = same_loc_sym l p.loc ∙ c in
        rw here (found p each.0 (same_loc_is p.loc l c))
    go false c rest =
        let other : is_pair_of l (p.loc.site, p.loc.k) ≡ false = same_loc_sym l p.loc ∙ c in
        rw other rest

-- a location whose host is this one
hosted : (n : Numbered) (p : Placed) → IsHosted n p p.host
    → (or_itself p.host p.loc).site < length n.counts
hosted n p is = go p.host is
  where
    go : (h : Option Loc) → IsHosted n p h → (or_itself h p.loc).site < length n.counts
    go None root = root.1
    go (Some h) root = root.1

module _ (n : Numbered) (sound : IsSound n) where
  root_there : (i : ℕ) → i < length n.counts
      → number_in (lookup (is_pair_of (root_of i)) (entries_of n.places)) ≡ Some i
  root_there i less =
      go (lookup (is_pair_of (root_of i)) (entries_of n.places)) (standing n.places (root_of i))
      (find n (root_of i) n.places sound.hosted) (sound.roots i less).0 (sound.roots i less).1
    where
      go : (o : Option Spot) (s : Option Standing) → IsFound n (root_of i) o s → is_there s ≡ true
          → host_of s ≡ None → number_in o ≡ Some i
      go _ _ nowhere there none = cc
      go _ _ (found p is at) there none =
          ap (λ h. Some (or_itself h p.loc).site) none ∙ ap (λ (l : Loc). Some l.site) at

  host_is : (spare : ℕ) (p : Placed) (l : Loc) → IsHosted n p p.host → p.loc ≡ l
      → (is_root (tree_of n spare) l ≡ true → p.host ≡ None)
      → p.host ≡ host_in (is_root (tree_of n spare) l) (or_itself p.host p.loc).site
  host_is spare p l is at unhosted = go p.host is unhosted (is_root (tree_of n spare) l) refl
    where
      go : (h : Option Loc) → IsHosted n p h → (is_root (tree_of n spare) l ≡ true → h ≡ None)
          → (r : Bool) → is_root (tree_of n spare) l ≡ r → h ≡ host_in r (or_itself h p.loc).site
      go None root un true c = refl
      go None root un false c =
          let zeroed : (l.k == 0) ≡ true = eq-eqb l.k 0 (sym (ap (λ (q : Loc). q.k) at) ∙ root.0) in
          let site : l.site ≡ p.loc.site = sym (ap (λ (q : Loc). q.site) at) in
          let below = root.1 in
          let rooted : is_root (tree_of n spare) l ≡ true =
          and_from (l.k == 0) (nat_lt l.site (length n.counts)) zeroed
          (lt-ltb l.site (length n.counts) (omega arith)) in
          cc
      go (Some h) root un true c = un c
      go (Some h) root un false c = ap (λ (q : Loc). Some q) (sym (root_is h h.site root.0 refl))

  pub sound_is : (spare : ℕ) → IsTree (tree_of n spare)
  sound_is spare = record {
    rooted = root_there;
    below = λ l i e. go l i (lookup (is_pair_of l) (entries_of n.places)) (standing n.places l)
        (find n l n.places sound.hosted) e;
  }
    where
      go : (l : Loc) (i : ℕ) (o : Option Spot) (s : Option Standing) → IsFound n l o s
          → number_in o ≡ Some i → i < length n.counts
      go l i _ _ nowhere e = cc
      go l i _ _ (found p is at) e =
          let number : (or_itself p.host p.loc).site ≡ i = cc in
          let less = hosted n p is in
          omega arith

  pub sound_same : (spare : ℕ) (l : Loc) → standing n.places l ≡ places_in (tree_of n spare) l
  sound_same spare l = go (lookup (is_pair_of l) (entries_of n.places)) (standing n.places l)
      (find n l n.places sound.hosted) unhosted
    where
      unhosted : is_root (tree_of n spare) l ≡ true → host_of (standing n.places l) ≡ None
      unhosted e =
          let parts = root_parts (tree_of n spare) l e in
          ap (λ q. host_of (standing n.places q)) (sym (root_is l l.site parts.0 refl))
          ∙ (sound.roots l.site parts.1).1

      go : (o : Option Spot) (s : Option Standing) → IsFound n l o s
          → (is_root (tree_of n spare) l ≡ true → host_of s ≡ None)
          → s ≡ standing_in (is_root (tree_of n spare) l) o
      go _ _ nowhere un = refl
      go _ _ (found p is at) un =
          ap (λ h. Some (record { host = h; marked = p.marked })) (host_is spare p l is at un)

pub sound_has_tree : SoundHasTree
sound_has_tree n spare sound =
    record { is = sound_is n sound spare; same = sound_same n sound spare }

-- ---- the roots of a tree are those of its solution

there_is : (r : Bool) (o : Option Spot) (i : ℕ) → number_in o ≡ Some i
    → is_there (standing_in r o) ≡ true
there_is r None i e = cc
there_is r (Some s) i e = refl

rootless : (r : Bool) (o : Option Spot) → host_of (standing_in r o) ≡ None
    → is_there (standing_in r o) ≡ true → r ≡ true
rootless true o none there = refl
rootless false None none there = cc
rootless false (Some s) none there = cc

unhosted_root : (o : Option Spot) → host_of (standing_in true o) ≡ None
unhosted_root None = refl
unhosted_root (Some s) = refl

module _ (t : Tree) (n : Numbered) (sound : IsSound n) (of : IsTreeOf t n.places) where
  -- a root of the tree is a root of the solution
  root_below : (i : ℕ) → i < t.roots → i < length n.counts
  root_below i less =
      let root : is_root t (root_of i) ≡ true = lt-ltb i t.roots less in
      let there : is_there (standing n.places (root_of i)) ≡ true =
      ap is_there (of.same (root_of i))
      ∙ there_is (is_root t (root_of i)) (spot t (root_of i)) i (of.is.rooted i less) in
      let unhosted : host_of (standing n.places (root_of i)) ≡ None =
      ap host_of (of.same (root_of i)) ∙ ap (λ r. host_of (standing_in r (spot t (root_of i)))) root
      ∙ unhosted_root (spot t (root_of i)) in
      go (lookup (is_pair_of (root_of i)) (entries_of n.places)) (standing n.places (root_of i))
      (find n (root_of i) n.places sound.hosted) there unhosted
    where
      at_none : (p : Placed) (h : Option Loc) → IsHosted n p h → h ≡ None → p.loc ≡ root_of i
          → i < length n.counts
      at_none p None root none at =
          let site : p.loc.site ≡ i = ap (λ (q : Loc). q.site) at in
          let below = root.1 in
          omega arith
      at_none p (Some h) root none at = cc

      go : (o : Option Spot) (s : Option Standing) → IsFound n (root_of i) o s → is_there s ≡ true
          → host_of s ≡ None → i < length n.counts
      go _ _ nowhere there none = cc
      go _ _ (found p is at) there none = at_none p p.host is none at

  -- and a root of the solution is one of the tree
  below_root : (i : ℕ) → i < length n.counts → i < t.roots
  below_root i less =
      let r = sound.roots i less in
      (root_parts t (root_of i) (rootless (is_root t (root_of i)) (spot t (root_of i))
      (ap host_of (sym (of.same (root_of i))) ∙ r.1)
      (ap is_there (sym (of.same (root_of i))) ∙ r.0))).1

  pub same_count : t.roots ≡ length n.counts
  same_count = elim (cases_lt t.roots (length n.counts)) [
    | inl less ↦ absurd (let more = below_root t.roots less in omega arith)
    | inr most ↦ elim (cases_lt (length n.counts) t.roots) [
      | inl less ↦ absurd (let more = root_below (length n.counts) less in omega arith)
      | inr least ↦ omega arith
    ]
  ]

pub roots_are_sites : RootsAreSites
roots_are_sites t n sound of = same_count t n sound of
