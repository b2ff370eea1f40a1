-- Where the locations of a list differ, a change of one location's entry is the change of each
-- entry that is its own.
use Rattle.std.proofs.Common.{◌≡◌, ℕ, zero, suc, ◌<◌, length, get_or, set, map, take, drop, List}
use Rattle.std.proofs.Common.{[], ◌∷◌, ◌++◌, Bool, true, false, cond, refl, ap, sym, ◌∙◌, subst}
use Rattle.std.proofs.Common.{arith}
use Rattle.std.proofs.lemmas.List.{take-append-drop, take_all, drop_all}
use Rattle.std.proofs.Math.Seq.{take-append_seam}
use Rattle.std.specs.Prelude.{Some}
use Rattle.chem_model.specs.declared.name.Loc.{Loc}
use Rattle.chem_model.specs.declared.numbered.Placed.{Placed}
use Rattle.chem_model.specs.declared.numbered.Numbered.{Numbered}
use Rattle.chem_model.specs.Bag.{one, bag}
use Rattle.chem_model.specs.NewNames.{coded_pair}
use Rattle.chem_model.specs.Solution.{same_loc}
use Rattle.chem_model.specs.Numbered.{place_pairs}
use Rattle.chem_model.specs.Apply.{with_hosts, with_marks}
use Rattle.chem_model.specs.Sound.{IsSound}
use Rattle.chem_laws.proofs.Bags.{one_self}
use Rattle.chem_laws.proofs.Lists.{append_nil}
use Rattle.chem_laws.proofs.Within.{same_loc_is}
use Rattle.chem_commit.specs.inside.Differ.{PlacesDiffer}
use Rattle.chem_commit.specs.inside.Parts.{hosted, marked, IsEntry}
use Rattle.chem_commit.proofs.Firsts.{with_hosts_map, with_marks_map}
use Rattle.chem_commit.proofs.Founds.{places_differ}

-- an entry of the location counts once
counts_one : (p : Placed) (a : Loc) → same_loc p.loc a ≡ true
    → one coded_pair (p.loc.site, p.loc.k) (a.site, a.k) ≡ 1
counts_one p a s =
    ap (λ (j : Loc). one coded_pair (j.site, j.k) (a.site, a.k)) (same_loc_is p.loc a s)
    ∙ one_self coded_pair (a.site, a.k)

module _ (a : Loc) (g : Placed → Placed) where
  abbrev changed : Placed → Placed
  changed p = cond (same_loc p.loc a) (g p) p

  -- where no entry is the location's, none changes
  none_changes : (ps : List Placed) → bag coded_pair (place_pairs ps) (a.site, a.k) ≡ 0
      → map changed ps ≡ ps
  none_changes [] none = refl
  none_changes (p ∷ ps) none = go (same_loc p.loc a) refl (none_changes ps (omega (arith, none)))
    where
      go : (t : Bool) → same_loc p.loc a ≡ t → map changed ps ≡ ps
          → cond t (g p) p ∷ map changed ps ≡ p ∷ ps
      go true s rest = let here = counts_one p a s in absurd (omega (arith, none, here))
      go false s rest = ap (λ (l : List Placed). p ∷ l) rest

  -- an entry among the first n counts
  counted : (ps : List Placed) (n i : ℕ) (p : Placed) → i < n → i < length ps → p ≡ get_or ps i p
      → same_loc p.loc a ≡ true → 0 < bag coded_pair (place_pairs (take n ps)) (a.site, a.k)
  counted [] n i p low h e s = absurd (omega arith)
  counted (q ∷ ps) zero i p low h e s = absurd (omega arith)
  counted (q ∷ ps) (suc n) zero p low h e s =
      let here = counts_one q a (ap (λ (x : Placed). same_loc x.loc a) (sym e) ∙ s) in
      omega (arith, here)
  counted (q ∷ ps) (suc n) (suc i) p low h e s =
      let later = counted ps n i p (omega arith) (omega arith) e s in
      omega (arith, later)

  pub one_changed : (ps : List Placed) (n i : ℕ) (p : Placed) → PlacesDiffer (take n ps) → i < n
      → i < length ps → p ≡ get_or ps i p → same_loc p.loc a ≡ true
      → set ps i (changed p) ≡ map changed (take n ps) ++ drop n ps
  one_changed [] n i p d low h e s = absurd (omega arith)
  one_changed (q ∷ ps) zero i p d low h e s = absurd (omega arith)
  one_changed (q ∷ ps) (suc n) zero p d low h e s =
      let here = counts_one q a (ap (λ (x : Placed). same_loc x.loc a) (sym e) ∙ s) in
      let others : map changed (take n ps) ≡ take n ps =
      none_changes (take n ps) (omega (arith, d (a.site, a.k), here)) in
      ap (λ (x : Placed). changed x ∷ ps) e
      ∙ ap (λ (l : List Placed). changed q ∷ l)
      (sym (take-append-drop n ps) ∙ ap (λ (l : List Placed). l ++ drop n ps) (sym others))
  one_changed (q ∷ ps) (suc n) (suc i) p d low h e s = go (same_loc q.loc a) refl
      (one_changed ps n i p (λ x. omega (arith, d x)) (omega arith) (omega arith) e s)
    where
      go : (t : Bool) → same_loc q.loc a ≡ t
          → set ps i (changed p) ≡ map changed (take n ps) ++ drop n ps
          → q ∷ set ps i (changed p) ≡ cond t (g q) q ∷ map changed (take n ps) ++ drop n ps
      go true c rest =
          let here = counts_one q a c in
          let later = counted ps n i p (omega arith) (omega arith) e s in
          absurd (omega (arith, d (a.site, a.k), here, later))
      go false c rest = ap (λ (l : List Placed). q ∷ l) rest

pub host_changed : (a h : Loc) (ps : List Placed) (n i : ℕ) (p q : Placed)
    → PlacesDiffer (take n ps) → i < n → IsEntry ps i a p → q ≡ hosted a h p
    → set ps i q ≡ with_hosts a h (take n ps) ++ drop n ps
host_changed a h ps n i p q d low is e =
    ap (set ps i) e ∙ one_changed a (λ x. record x { host = Some h }) ps n i p d low is.0 is.1 is.2
    ∙ ap (λ (l : List Placed). l ++ drop n ps) (with_hosts_map a h (take n ps))

pub mark_changed : (a : Loc) (ps : List Placed) (i : ℕ) (p q : Placed) → PlacesDiffer ps
    → IsEntry ps i a p → q ≡ marked a p → set ps i q ≡ with_marks a ps
mark_changed a ps i p q d is e =
    let all : take (length ps) ps ≡ ps = take_all (length ps) ps (omega arith) in
    let none : drop (length ps) ps ≡ [] = drop_all (length ps) ps (omega arith) in
    ap (set ps i) e
    ∙ one_changed a (λ x. record x { marked = true }) ps (length ps) i p
    (subst PlacesDiffer (sym all) d) is.0 is.0 is.1 is.2
    ∙ ap (λ (l : List Placed). map (marked a) (take (length ps) ps) ++ l) none
    ∙ append_nil (map (marked a) (take (length ps) ps))
    ∙ ap (map (marked a)) all
    ∙ with_marks_map a ps

-- the locations that stood before what was appended
pub first_differ : (n : Numbered) (ps more : List Placed) (k : ℕ) → IsSound n
    → ps ≡ n.places ++ more → k ≡ length n.places → PlacesDiffer (take k ps)
first_differ n ps more k sound is low =
    let front : take k ps ≡ n.places =
    ap (take k) is ∙ ap (λ (j : ℕ). take j (n.places ++ more)) low
    ∙ take-append_seam n.places more in
    subst PlacesDiffer (sym front) (places_differ n sound)
