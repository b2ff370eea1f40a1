-- The births of a reaction, where only the tests of the site are known.
use Rattle.std.proofs.Common.{◌≡◌, ℕ, ◌+◌, ◌<◌, ◌≤◌, Bool, true, false, cond, List, [], ◌∷◌, ◌++◌}
use Rattle.std.proofs.Common.{Option, Some, None, refl, sym, ap, ◌∙◌, subst, arith}
use Rattle.std.specs.Prelude.{nat_eq, ◌&&◌}
use Rattle.std.specs.Map.{lookup}
use Rattle.std.proofs.lemmas.Bool.{and_parts}
use Rattle.std.proofs.lemmas.Bool.Decides.{nat_tests}
use Rattle.chem_model.specs.declared.name.Loc.{Loc}
use Rattle.chem_model.specs.Opening.{root_of}
use Rattle.loc_tree.specs.declared.tree.Spot.{Spot}
use Rattle.loc_tree.specs.Tree.{Tree, spot, is_pair_of, unmarked, with_birth, with_room, IsFresh}
use Rattle.loc_tree.specs.Places.{IsTree}
use Rattle.code_run.specs.RunFacts.{AreBorn}
use Rattle.code_run.proofs.Numbers.{code_numbers}
use Rattle.env_store.specs.CodeParts.{CodeParts}
use Rattle.net_laws.specs.Site.{Site}
use Rattle.net_laws.specs.Net.{among, with_births}
use Rattle.net_laws.specs.Opened.{AreNew}
use Rattle.net_laws.specs.ByCode.{args_of}
use Rattle.net_laws.proofs.Trees.{or_else, lookup_behind}
use Rattle.site_solution.specs.InTree.{is_in_tree}
use Rattle.site_solution.specs.Draws.{CanDraw}
use Rattle.reducer.specs.Picks.{Picked}
use Rattle.reducer.specs.Fronts.{taken_by}
use Rattle.reducer.specs.Reacting.{ran_by}
use Rattle.reducer.proofs.Levels.{hosted_number, locs_there}
use Rattle.site_turn.specs.After.{IsSameTree}

-- ---- locations with numbers from a fresh one on are new

not_pair : (i k m : ℕ) → k < m → is_pair_of (record { site = i; k = m }) (i, k) ≡ false
not_pair i k m less = pairs i m k less
  where
    pairs : (i m k : ℕ) → k < m → nat_eq i i && nat_eq m k ≡ false
    pairs i m k less = grind (arith, nat_tests)

fresh_behind : (t : Tree) (i k n : ℕ) → k ≤ n → IsFresh t i k
    → IsFresh (with_birth t (record { site = i; k = n }) i) i (n + 1)
fresh_behind t i k n low fresh m high =
    let q : Loc = record { site = i; k = m } in
    let l : Loc = record { site = i; k = n } in
    lookup_behind q t.entries (unmarked l i ∷ [])
    ∙ ap (λ (o : Option Spot). or_else o (lookup (is_pair_of q) (unmarked l i ∷ [])))
    (fresh m (omega arith))
    ∙ ap (λ (b : Bool). cond b (Some (record { number = i; marked = false })) None)
    (not_pair i n m (omega arith))

pub born_new : (t : Tree) (i k n : ℕ) (ls : List Loc) → AreBorn i k n ls → IsFresh t i k
    → AreNew t i ls
born_new t i k n [] h fresh = tt
born_new t i k n (l ∷ ls) h fresh =
    let own : l ≡ record { site = i; k = l.k } = λ j. record { site = h.0.0 j; k = l.k } in
    let here = ap (spot t) own ∙ fresh l.k h.0.1 in
    let after : IsFresh (with_birth t l i) i (l.k + 1) =
    subst (λ (q : Loc). IsFresh (with_birth t q i) i (l.k + 1)) (sym own)
    (fresh_behind t i k l.k h.0.1 fresh) in
    (here, born_new (with_birth t l i) i (l.k + 1) n ls h.1 after)

pub births_new : (c : CodeParts) (t : Tree) (s : Site) (x : Picked) → CanDraw t s
    → AreNew t s.number (ran_by c s x).births
births_new c t s x draws =
    let inst = x.group.told.inst in
    let numbers =
    code_numbers c s.number x.guard.body (inst.env ++ args_of (taken_by x)) inst.loc s.made in
    born_new t s.number s.made (ran_by c s x).next (ran_by c s x).births numbers.births draws.fresh

-- ---- the number of a site is that of a root

root_here : (t : Tree) (s : Site) → is_in_tree t s ≡ true → among s.locs (root_of s.number) ≡ true
root_here t s h = go _ (among s.locs (root_of s.number)) _ h
  where
    go : (a b c : Bool) → (a && b) && c ≡ true → b ≡ true
    go true b c e = (and_parts b c e).0
    go false b c e = cc

pub number_below : (t : Tree) (s : Site) → IsTree t → is_in_tree t s ≡ true → s.number < t.roots
number_below t s kept h = kept.below (root_of s.number) s.number
    (hosted_number t s.number s.locs (root_of s.number) (locs_there t s h) (root_here t s h))

-- ---- a tree's room

pub births_same : (t u : Tree) (i : ℕ) (ls : List Loc) → IsSameTree t u
    → IsSameTree (with_births t i ls) (with_births u i ls)
births_same t u i [] h = h
births_same t u i (l ∷ ls) h = births_same (with_birth t l i) (with_birth u l i) i ls
    (record { roots = h.roots; entries = ap (λ es. es ++ unmarked l i ∷ []) h.entries })

pub roomy : (t : Tree) (n : ℕ) → IsSameTree t (with_room t n)
roomy t n = record { roots = refl; entries = refl }

pub births_room : (t u v : Tree) (n i : ℕ) (ls : List Loc) → u ≡ with_room t n
    → v ≡ with_births u i ls → IsSameTree (with_births t i ls) v
births_room t u v n i ls room born =
    subst (IsSameTree (with_births t i ls))
    (sym (born ∙ ap (λ (w : Tree). with_births w i ls) room))
    (births_same t (with_room t n) i ls (roomy t n))
