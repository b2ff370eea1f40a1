-- The tree of a network after births, a move and a mark.
use Rattle.std.proofs.Common.{◌≡◌, ℕ, ◌<◌, List, [], ◌∷◌, ◌++◌, Option, Some, None, Bool, true}
use Rattle.std.proofs.Common.{false, cond, refl, sym, ap, ◌∙◌, subst, arith, ◌==◌, ◌&&◌, ◌||◌}
use Rattle.std.specs.Prelude.{nat_lt, option_map}
use Rattle.std.specs.Map.{lookup}
use Rattle.chem_model.specs.declared.name.Loc.{Loc}
use Rattle.chem_model.specs.declared.numbered.Placed.{Placed}
use Rattle.chem_model.specs.Each.{Each}
use Rattle.chem_model.specs.Solution.{Standing, same_loc, is_there}
use Rattle.chem_model.specs.Numbered.{standing}
use Rattle.chem_model.specs.Opening.{root_of}
use Rattle.chem_laws.proofs.Within.{same_loc_is}
use Rattle.chem_laws.proofs.Places.{standing_left, standing_right}
use Rattle.loc_tree.specs.declared.tree.Spot.{Spot}
use Rattle.loc_tree.specs.Tree.{Tree, Entries, spot, number_in, is_pair_of, is_root, unmarked}
use Rattle.loc_tree.specs.Tree.{renumbered, marked, with_birth, with_number, with_mark}
use Rattle.loc_tree.specs.Places.{host_in, standing_in, places_in, IsTree, IsTreeOf}
use Rattle.loc_tree.proofs.Spots.{same_loc_sym, same_loc_refl, lookup-change}
use Rattle.loc_tree.proofs.Alive.{own_number}
use Rattle.net_laws.specs.Net.{among, with_births, address, or_first}
use Rattle.net_laws.specs.Changes.{births_at}

-- ---- births

pub born_standing : (r : Loc) (bs : List Loc) (l : Loc)
    → standing (births_at r bs) l
    ≡ cond (among bs l) (Some (record { host = Some r; marked = false })) None
born_standing r [] l = refl
born_standing r (b ∷ bs) l = go (same_loc b l) (born_standing r bs l)
  where
    go : (u : Bool)
        → standing (births_at r bs) l
        ≡ cond (among bs l) (Some (record { host = Some r; marked = false })) None
        → ◌≡◌ {A = Option Standing}
        (cond u (Some (record { host = Some r; marked = false })) (standing (births_at r bs) l))
        (cond (u || among bs l) (Some (record { host = Some r; marked = false })) None)
    go true ih = refl
    go false ih = ih

-- what holds of each member of a list holds of one that is among them
pub among_each : (P : Loc → Type 0) (bs : List Loc) (l : Loc) → among bs l ≡ true → Each P bs → P l
among_each P [] l e h = cc
among_each P (b ∷ bs) l e h = go (same_loc b l) refl (λ e'. among_each P bs l e' h.1) e
  where
    go : (u : Bool) → same_loc b l ≡ u → (among bs l ≡ true → P l) → u || among bs l ≡ true → P l
    go true c ih e' = subst P (same_loc_is b l c) h.0
    go false c ih e' = ih e'

-- a location that isn't in the tree
abbrev pub IsFresh : Tree → Loc → Type 0
IsFresh t l = spot t l ≡ None

-- the spot of a location that was born under this number
abbrev pub born : ℕ → Spot
born i = record { number = i; marked = false }

abbrev pub or_else : Option Spot → Option Spot → Option Spot
or_else None o = o
or_else (Some s) o = Some s

pub lookup_behind : (q : Loc) (es fs : Entries)
    → lookup (is_pair_of q) (es ++ fs)
    ≡ or_else (lookup (is_pair_of q) es) (lookup (is_pair_of q) fs)
lookup_behind q [] fs = refl
lookup_behind q (e ∷ es) fs = go (is_pair_of q e.0) (lookup_behind q es fs)
  where
    go : (u : Bool)
        → lookup (is_pair_of q) (es ++ fs)
        ≡ or_else (lookup (is_pair_of q) es) (lookup (is_pair_of q) fs)
        → cond u (Some e.1) (lookup (is_pair_of q) (es ++ fs))
        ≡ or_else (cond u (Some e.1) (lookup (is_pair_of q) es)) (lookup (is_pair_of q) fs)
    go true ih = refl
    go false ih = ih

pub none_behind : (o : Option Spot) → or_else o None ≡ o
none_behind None = refl
none_behind (Some s) = refl

births_behind : (bs : List Loc) (t : Tree) (i : ℕ) (q : Loc)
    → spot (with_births t i bs) q ≡ or_else (spot t q) (cond (among bs q) (Some (born i)) None)
births_behind [] t i q = sym (none_behind (spot t q))
births_behind (b ∷ bs) t i q =
    births_behind bs (with_birth t b i) i q
    ∙ ap (λ o. or_else o (cond (among bs q) (Some (born i)) None))
    (lookup_behind q t.entries (unmarked b i ∷ [])
    ∙ ap (λ u. or_else (spot t q) (cond u (Some (born i)) None)) (same_loc_sym q b))
    ∙ go (spot t q) (same_loc b q) (among bs q)
  where
    go : (o : Option Spot) (u w : Bool)
        → or_else (or_else o (cond u (Some (born i)) None)) (cond w (Some (born i)) None)
        ≡ or_else o (cond (u || w) (Some (born i)) None)
    go (Some s) u w = refl
    go None true w = refl
    go None false w = refl

-- the births of new locations
pub births_spot : (t : Tree) (i : ℕ) (bs : List Loc) → Each (IsFresh t) bs → (l : Loc)
    → spot (with_births t i bs) l ≡ cond (among bs l) (Some (born i)) (spot t l)
births_spot t i bs fresh l = births_behind bs t i l ∙ go (among bs l) refl
  where
    go : (u : Bool) → among bs l ≡ u
        → or_else (spot t l) (cond u (Some (born i)) None) ≡ cond u (Some (born i)) (spot t l)
    go true c = ap (λ o. or_else o (Some (born i))) (among_each (IsFresh t) bs l c fresh)
    go false c = none_behind (spot t l)

pub births_roots : (bs : List Loc) (t : Tree) (i : ℕ) → (with_births t i bs).roots ≡ t.roots
births_roots [] t i = refl
births_roots (b ∷ bs) t i = births_roots bs (with_birth t b i) i

-- a root is in the tree
fresh_no_root : (t : Tree) → IsTree t → (l : Loc) → IsFresh t l → (u : Bool) → is_root t l ≡ u
    → u ≡ false
fresh_no_root t tree l fresh true c =
    let own = own_number t tree l c in
    let none : number_in (spot t l) ≡ None = ap number_in fresh in
    cc
fresh_no_root t tree l fresh false c = refl

-- new locations at the end of the list are the births of the tree
module _ (t : Tree) (placed : List Placed) (i : ℕ) (bs : List Loc) (of : IsTreeOf t placed)
    (less : i < t.roots) (fresh : Each (IsFresh t) bs) where
  births_tree : IsTree (with_births t i bs)
  births_tree = record {
    rooted = λ j h. ap number_in (births_spot t i bs fresh (root_of j))
        ∙ at_root j (omega (arith, h, births_roots bs t i)) (among bs (root_of j)) refl;
    below = λ l j e.
        let low = at l j (among bs l) (sym (ap number_in (births_spot t i bs fresh l)) ∙ e) in
        omega (arith, low, births_roots bs t i);
  }
    where
      at_root : (j : ℕ) → j < t.roots → (u : Bool) → among bs (root_of j) ≡ u
          → number_in (cond u (Some (born i)) (spot t (root_of j))) ≡ Some j
      at_root j h true c =
          let none : number_in (spot t (root_of j)) ≡ None =
          ap number_in (among_each (IsFresh t) bs (root_of j) c fresh) in
          let own = of.is.rooted j h in
          cc
      at_root j h false c = of.is.rooted j h

      at : (l : Loc) (j : ℕ) (u : Bool) → number_in (cond u (Some (born i)) (spot t l)) ≡ Some j
          → j < t.roots
      at l j true e = let same : i ≡ j = cc in omega (arith, less)
      at l j false e = of.is.below l j e

  births_stand : (l : Loc)
      → standing (placed ++ births_at (root_of i) bs) l ≡ places_in (with_births t i bs) l
  births_stand l = go (among bs l) refl
      ∙ sym (ap (λ o. standing_in (is_root (with_births t i bs) l) o) (births_spot t i bs fresh l)
      ∙ ap (λ r.
      standing_in ((l.k == 0) && nat_lt l.site r) (cond (among bs l) (Some (born i)) (spot t l)))
      (births_roots bs t i))
    where
      is_none : (o : Option Standing) → is_there o ≡ false → o ≡ None
      is_none None e = refl
      is_none (Some s) e = cc

      old : (w : Bool) → is_there (standing placed l) ≡ w
          → standing (births_at (root_of i) bs) l ≡ None
          → standing (placed ++ births_at (root_of i) bs) l ≡ places_in t l
      old true c e = standing_left placed (births_at (root_of i) bs) l c ∙ of.same l
      old false c e = standing_right placed (births_at (root_of i) bs) l c ∙ e
          ∙ sym (is_none (standing placed l) c) ∙ of.same l

      go : (u : Bool) → among bs l ≡ u
          → standing (placed ++ births_at (root_of i) bs) l
          ≡ standing_in (is_root t l) (cond (among bs l) (Some (born i)) (spot t l))
      go true c =
          let f = among_each (IsFresh t) bs l c fresh in
          let none : standing placed l ≡ None = of.same l ∙ ap (standing_in (is_root t l)) f in
          standing_right placed (births_at (root_of i) bs) l (ap is_there none)
          ∙ born_standing (root_of i) bs l
          ∙ ap (λ u. cond u (Some (record { host = Some (root_of i); marked = false })) None) c
          ∙ sym (ap (λ u. Some (record { host = host_in u i; marked = false }))
          (fresh_no_root t of.is l f (is_root t l) refl))
          ∙ sym (ap (λ u. standing_in (is_root t l) (cond u (Some (born i)) (spot t l))) c)
      go false c =
          old (is_there (standing placed l)) refl (born_standing (root_of i) bs l
          ∙ ap (λ u. cond u (Some (record { host = Some (root_of i); marked = false })) None) c)
          ∙ sym (ap (λ u. standing_in (is_root t l) (cond u (Some (born i)) (spot t l))) c)

  pub births_follow : IsTreeOf (with_births t i bs) (placed ++ births_at (root_of i) bs)
  births_follow = record { is = births_tree; same = births_stand }

-- ---- a move and a mark

pub number_spot : (t : Tree) (l : Loc) (i : ℕ) (x : Loc)
    → spot (with_number t l i) x
    ≡ cond (same_loc l x) (option_map (renumbered i) (spot t x)) (spot t x)
number_spot t l i x = lookup-change l x (renumbered i) t.entries

pub number_renumbered : (t : Tree) (l : Loc) (i j : ℕ) → number_in (spot t l) ≡ Some i
    → number_in (spot (with_number t l j) l) ≡ Some j
number_renumbered t l i j e =
    ap number_in (number_spot t l j l)
    ∙ ap (λ u. number_in (cond u (option_map (renumbered j) (spot t l)) (spot t l)))
    (same_loc_refl l)
    ∙ go (spot t l) e
  where
    go : (o : Option Spot) → number_in o ≡ Some i → number_in (option_map (renumbered j) o) ≡ Some j
    go None e' = cc
    go (Some p) e' = refl

-- a location that stays at its site keeps its number
pub number_kept : (t : Tree) (l : Loc) (i : ℕ) → number_in (spot t l) ≡ Some i → (x : Loc)
    → number_in (spot (with_number t l i) x) ≡ number_in (spot t x)
number_kept t l i e x = ap number_in (number_spot t l i x) ∙ go (same_loc l x) refl
  where
    at_spot : (o : Option Spot) → number_in o ≡ Some i
        → number_in (option_map (renumbered i) o) ≡ number_in o
    at_spot None e' = cc
    at_spot (Some p) e' = sym e'

    go : (u : Bool) → same_loc l x ≡ u
        → number_in (cond u (option_map (renumbered i) (spot t x)) (spot t x))
        ≡ number_in (spot t x)
    go true c = at_spot (spot t x) (ap (λ q. number_in (spot t q)) (sym (same_loc_is l x c)) ∙ e)
    go false c = refl

pub mark_number : (t : Tree) (l x : Loc) → number_in (spot (with_mark t l) x) ≡ number_in (spot t x)
mark_number t l x = ap number_in (lookup-change l x marked t.entries) ∙ go (same_loc l x) (spot t x)
  where
    go : (u : Bool) (o : Option Spot) → number_in (cond u (option_map marked o) o) ≡ number_in o
    go true None = refl
    go true (Some p) = refl
    go false o = refl

-- ---- addresses

-- a location that is there has the number of a root
pub address_low : (t : Tree) (placed : List Placed) → IsTreeOf t placed → (l : Loc)
    → is_there (standing placed l) ≡ true → address t l < t.roots
address_low t placed of l there = go (spot t l) refl (sym (ap is_there (of.same l)) ∙ there)
  where
    go : (o : Option Spot) → spot t l ≡ o → is_there (standing_in (is_root t l) o) ≡ true
        → or_first (number_in o) < t.roots
    go None c e = cc
    go (Some s) c e = of.is.below l s.number (ap number_in c)
