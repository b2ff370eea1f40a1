-- Locations as pairs of a set.
use Rattle.std.proofs.Common.{◌≡◌, ℕ, zero, suc, List, [], ◌∷◌, ◌++◌, length, Bool, true, false}
use Rattle.std.proofs.Common.{Option, None, Some, Result, Ok, Err, cond, refl, ap, ◌∙◌, arith}
use Rattle.std.proofs.Common.{if◌then◌else◌}
use Rattle.std.specs.Prelude.{IsOk, IfOk, ◌&&◌, ◌||◌, not, filter, nat_eq, slice_get}
use Rattle.std.proofs.lemmas.Bool.{or_left, or_right}
use Rattle.std.proofs.lemmas.Bool.Decides.{nat_tests}
use Rattle.std.specs.List.{list_all, list_any}
use Rattle.loc_tree.specs.declared.tree.Spot.{Spot}
use Rattle.loc_tree.specs.Tree.{Tree, spot, number_in, loc_of, is_spot_of, holds_all, hosts_all}
use Rattle.loc_tree.proofs.Spots.{same_loc_sym}
use Rattle.chem_model.specs.declared.name.Loc.{Loc}
use Rattle.chem_model.specs.Solution.{same_loc}
use Rattle.net_laws.specs.Net.{among}
use Rattle.net_laws.specs.Parcels.{locs_but}
use Rattle.site_shelves.specs.Named.{in_tree}
use Rattle.site_shelves.specs.InTree.{is_number, has_number}
use Rattle.site_limits.specs.Hosted.{locs_of}
use Rattle.site_limits.proofs.SamePair.{same_pair_as}

same-there : (p : ℕ × ℕ) (l : Loc)
    → same_pair_as (l.site, l.k) p ≡ same_loc (record { site = p.0; k = p.1 }) l
same-there p l = same_loc_sym l (record { site = p.0; k = p.1 })

pub pairs-among : (ps : List (ℕ × ℕ)) (l : Loc)
    → list_any (same_pair_as (l.site, l.k)) ps ≡ among (locs_of ps) l
pairs-among [] l = refl
pairs-among (p ∷ ps) l =
    ap (λ (b : Bool). b || list_any (same_pair_as (l.site, l.k)) ps) (same-there p l)
    ∙ ap (λ (b : Bool). same_loc (record { site = p.0; k = p.1 }) l || b) (pairs-among ps l)

-- what stands at a place is among them
pub place-among : (ps : List (ℕ × ℕ)) (l : Loc) (i : ℕ) (p : ℕ × ℕ) → slice_get ps i ≡ Some p
    → same_pair_as (l.site, l.k) p ≡ true → list_any (same_pair_as (l.site, l.k)) ps ≡ true
place-among [] l i p at same = absurd (cc)
place-among (q ∷ ps) l zero p at same =
    let is : q ≡ p = cc in
    or_left (same_pair_as (l.site, l.k) q) (list_any (same_pair_as (l.site, l.k)) ps)
    (ap (same_pair_as (l.site, l.k)) is ∙ same)
place-among (q ∷ ps) l (suc i) p at same =
    or_right (same_pair_as (l.site, l.k) q) (list_any (same_pair_as (l.site, l.k)) ps)
    (place-among ps l i p at same)

pub locs-more : (ps : List (ℕ × ℕ)) (p : ℕ × ℕ)
    → locs_of (ps ++ p ∷ []) ≡ locs_of ps ++ record { site = p.0; k = p.1 } ∷ []
locs-more [] p = refl
locs-more (q ∷ ps) p = ap (λ (ls : List Loc). record { site = q.0; k = q.1 } ∷ ls) (locs-more ps p)

pub length-locs_of : (ps : List (ℕ × ℕ)) → length (locs_of ps) ≡ length ps
length-locs_of [] = refl
length-locs_of (p ∷ ps) = ap suc (length-locs_of ps)

pub if-ok : {A E : Type 0} (r : Result A E) (P : A → Type 0) (Q : Type 0) → IsOk r → IfOk r P
    → ((a : A) → P a → Q) → Q
if-ok (Ok a) P Q ok p f = f a p
if-ok (Err e) P Q ok p f = absurd (cc)

pub inserted : (ps : List (ℕ × ℕ)) (l : Loc) (new : List (ℕ × ℕ)) → among (locs_of ps) l ≡ false
    → new ≡ (if list_any (same_pair_as (l.site, l.k)) ps then ps else ps ++ (l.site, l.k) ∷ [])
    → locs_of new ≡ locs_of ps ++ l ∷ []
inserted ps l new absent is =
    let none : list_any (same_pair_as (l.site, l.k)) ps ≡ false = pairs-among ps l ∙ absent in
    ap locs_of (is ∙ ap (λ (b : Bool). if b then ps else ps ++ (l.site, l.k) ∷ []) none)
    ∙ locs-more ps (l.site, l.k)

-- ---- those that stay where one goes

-- the pair is another one than that of the location
abbrev pub is_other : Loc → ℕ × ℕ → Bool
is_other l p = not (nat_eq p.0 l.site) || not (nat_eq p.1 l.k)

other-is : (l : Loc) (p : ℕ × ℕ) → is_other l p ≡ not (same_loc l (record { site = p.0; k = p.1 }))
other-is l p = grind (arith, nat_tests)

pub locs-kept : (l : Loc) (ps : List (ℕ × ℕ))
    → locs_of (filter (is_other l) ps) ≡ locs_but l (locs_of ps)
locs-kept l [] = refl
locs-kept l (p ∷ ps) =
    ap (λ b. locs_of (cond b (p ∷ filter (is_other l) ps) (filter (is_other l) ps))) (other-is l p)
    ∙ by_test (same_loc l (record { site = p.0; k = p.1 })) (locs-kept l ps)
  where
    by_test : (b : Bool) → locs_of (filter (is_other l) ps) ≡ locs_but l (locs_of ps)
        → locs_of (cond (not b) (p ∷ filter (is_other l) ps) (filter (is_other l) ps))
        ≡ cond b (locs_but l (locs_of ps))
        (record { site = p.0; k = p.1 } ∷ locs_but l (locs_of ps))
    by_test true rest = rest
    by_test false rest = ap (λ xs. record { site = p.0; k = p.1 } ∷ xs) rest

-- ---- in a tree

-- the locations of these pairs are in the tree
pub held-there : (t : Tree) (ps : List (ℕ × ℕ))
    → holds_all t ps ≡ list_all (in_tree t) (locs_of ps)
held-there t [] = refl
held-there t (p ∷ ps) = ap (λ (b : Bool). in_tree t (loc_of p) && b) (held-there t ps)

number-there : (i : ℕ) (o : Option Spot) → is_spot_of i o ≡ is_number (number_in o) i
number-there i None = refl
number-there i (Some s) = refl

-- and the same with this number
pub hosted-there : (t : Tree) (i : ℕ) (ps : List (ℕ × ℕ))
    → hosts_all t i ps ≡ list_all (has_number t i) (locs_of ps)
hosted-there t i [] = refl
hosted-there t i (p ∷ ps) =
    ap (λ (b : Bool). b && hosts_all t i ps) (number-there i (spot t (loc_of p)))
    ∙ ap (λ (b : Bool). has_number t i (loc_of p) && b) (hosted-there t i ps)
