-- A solution stays sound where each number finds the same, and with fewer messages and requests.
use Rattle.std.proofs.Common.{◌≡◌, ◌<◌, ◌≤◌, List, [], ◌∷◌, ◌++◌, Option, Some, None, Bool, true}
use Rattle.std.proofs.Common.{false, cond, refl, ap, ◌∙◌, arith, is_some, ◌==◌, ◌&&◌, ◌⊎◌, inl, inr}
use Rattle.chem_model.specs.declared.event.AtomId.{AtomId}
use Rattle.chem_model.specs.declared.numbered.NumberedAtom.{NumberedAtom}
use Rattle.chem_model.specs.declared.numbered.Numbered.{Numbered}
use Rattle.chem_model.specs.Each.{Each, IsIn}
use Rattle.chem_model.specs.Bag.{one, bag}
use Rattle.chem_model.specs.NewNames.{Pair, coded_pair}
use Rattle.chem_model.specs.Numbered.{atom_pairs}
use Rattle.chem_model.specs.Apply.{same_atom, atom_at}
use Rattle.chem_model.specs.Sound.{IsSound, IsAtom, IsRule}
use Rattle.chem_laws.proofs.Bags.{one_is}
use Rattle.chem_laws.proofs.Lists.{above, zero_or_above, Each-weaker}
use Rattle.chem_laws.proofs.Taking.{atom_found, atom_pair_found, same_atom_refl}
use Rattle.chem_commit.specs.inside.Differ.{AtomsDiffer}
use Rattle.book_store.specs.Alike.{AreAlike}
use Rattle.book_store.specs.Older.{whole}
use Rattle.book_store.proofs.ByNumber.{member_found}
use Rattle.book_store.proofs.Apart.{pairs_both}

-- ---- the pairs of the atoms

-- a pair is counted where its number finds one
pub counted : (xs : List NumberedAtom) (i : AtomId)
    → 0 < bag coded_pair (atom_pairs xs) (i.site, i.k)
    → is_some (atom_at xs i) ≡ true
counted [] i h = absurd (omega arith)
counted (a ∷ xs) i h = go (same_atom a.id i) refl (counted xs i)
    (above (one coded_pair (a.id.site, a.id.k) (i.site, i.k))
    (bag coded_pair (atom_pairs xs) (i.site, i.k)) h)
  where
    go : (t : Bool) → same_atom a.id i ≡ t
        → (0 < bag coded_pair (atom_pairs xs) (i.site, i.k) → is_some (atom_at xs i) ≡ true)
        → (0 < one coded_pair (a.id.site, a.id.k) (i.site, i.k))
        ⊎ (0 < bag coded_pair (atom_pairs xs) (i.site, i.k))
        → is_some (cond t (Some a) (atom_at xs i)) ≡ true
    go true c ih f = refl
    go false c ih (inr f) = ih f
    go false c ih (inl f) =
        let pair : (a.id.site, a.id.k) ≡ (i.site, i.k) =
        one_is coded_pair (a.id.site, a.id.k) (i.site, i.k) f in
        let same : same_atom a.id i ≡ true =
        ap (λ (q : Pair). (q.0 == i.site) && (q.1 == i.k)) pair ∙ same_atom_refl i in
        cc

pairs_alike : (xs ys : List NumberedAtom) → AtomsDiffer ys → AreAlike xs ys → (p : Pair)
    → bag coded_pair (atom_pairs ys) p ≤ bag coded_pair (atom_pairs xs) p
pairs_alike xs ys e h p = go (zero_or_above (bag coded_pair (atom_pairs ys) p))
  where
    found : (o : Option NumberedAtom) → atom_at xs (record { site = p.0; k = p.1 }) ≡ o
        → is_some o ≡ true → 0 < bag coded_pair (atom_pairs xs) p
    found None c f = cc
    found (Some a) c f = atom_pair_found xs (record { site = p.0; k = p.1 }) a c

    go : (bag coded_pair (atom_pairs ys) p ≡ 0) ⊎ (0 < bag coded_pair (atom_pairs ys) p)
        → bag coded_pair (atom_pairs ys) p ≤ bag coded_pair (atom_pairs xs) p
    go (inl z) = omega arith
    go (inr f) =
        let some = counted ys (record { site = p.0; k = p.1 }) f in
        let most = e p in
        let there = found (atom_at xs (record { site = p.0; k = p.1 })) refl
        (ap is_some (h (record { site = p.0; k = p.1 })) ∙ some) in
        omega arith

each_in : {X : Type 0} (P : X → Type 0) (xs : List X) → ((x : X) → IsIn x xs → P x) → Each P xs
each_in P [] h = tt
each_in P (x ∷ xs) h = (h x (inl refl), each_in P xs (λ y at. h y (inr at)))

-- a solution in which each number finds the same is sound, too
pub sound_alike : (n : Numbered) (ys : List NumberedAtom) → AtomsDiffer ys → AreAlike n.atoms ys
    → IsSound n → IsSound (record n { atoms = ys })
sound_alike n ys e h sound = record {
  roots = sound.roots;
  hosted = sound.hosted;
  below = λ p f. sound.below p (let fewer = pairs_alike n.atoms ys e h p in omega arith);
  different = λ p.
      let fewer = pairs_alike n.atoms ys e h p in
      let most = sound.different p in
      omega arith;
  named = sound.named;
  atoms = each_in (IsAtom (record n { atoms = ys })) ys
      (λ a at. atom_found (IsAtom n) n.atoms a.id a (h a.id ∙ member_found ys e a at) sound.atoms);
  rules = Each-weaker (IsRule n) (IsRule (record n { atoms = ys }))
      (λ r is. record { channels = is.channels; is = is.is; bound_once = is.bound_once })
      n.rules sound.rules;
  trace = sound.trace;
}

-- ---- fewer messages and requests

each_last : {X : Type 0} (P : X → Type 0) (xs ys : List X) → Each P (xs ++ ys) → Each P ys
each_last P [] ys h = h
each_last P (x ∷ xs) ys h = each_last P xs ys h.1

pub sound_rest : (old : List NumberedAtom) (n : Numbered) → IsSound (whole old n) → IsSound n
sound_rest old n sound = record {
  roots = sound.roots;
  hosted = sound.hosted;
  below = λ p f. sound.below p (let both = pairs_both old n.atoms p in omega arith);
  different = λ p.
      let both = pairs_both old n.atoms p in
      let most = sound.different p in
      omega arith;
  named = sound.named;
  atoms = each_last (IsAtom n) old n.atoms sound.atoms;
  rules = Each-weaker (IsRule (whole old n)) (IsRule n)
      (λ r is. record { channels = is.channels; is = is.is; bound_once = is.bound_once })
      n.rules sound.rules;
  trace = sound.trace;
}

pub differ_of : (n : Numbered) → IsSound n → AtomsDiffer n.atoms
differ_of n sound p = omega (arith, sound.different p)
