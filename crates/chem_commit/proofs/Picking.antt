-- Messages and requests by their numbers: where all are different, the one that has a number is the
-- one that is found; and a few that were picked out.
use Rattle.std.proofs.Common.{◌≡◌, ℕ, zero, suc, ◌+◌, ◌<◌, List, [], ◌∷◌, ◌++◌, length, get_or}
use Rattle.std.proofs.Common.{take, Option, Some, None, Bool, true, false, cond, refl, ap, sym, ◌∙◌}
use Rattle.std.proofs.Common.{subst, arith}
use Rattle.chem_model.specs.declared.name.Loc.{Loc}
use Rattle.chem_model.specs.declared.name.Pat.{Pat}
use Rattle.chem_model.specs.declared.event.AtomId.{AtomId}
use Rattle.chem_model.specs.declared.numbered.NumberedAtom.{NumberedAtom}
use Rattle.chem_model.specs.declared.numbered.Numbered.{Numbered}
use Rattle.chem_model.specs.declared.numbered.Made.{Made}
use Rattle.chem_model.specs.Each.{Each}
use Rattle.chem_model.specs.Bag.{one}
use Rattle.chem_model.specs.NewNames.{coded_pair}
use Rattle.chem_model.specs.Pour.{add_made}
use Rattle.chem_model.specs.Apply.{same_atom, atom_at, without, received_at, both_received}
use Rattle.chem_model.specs.Apply.{received_all}
use Rattle.chem_model.specs.Sound.{IsSound}
use Rattle.chem_laws.proofs.Bags.{one_self}
use Rattle.chem_laws.proofs.Taking.{same_atom_is, same_atom_refl, atom_pair_found, pairs-without}
use Rattle.std.proofs.lemmas.List.{get_or_default}
use Rattle.std.proofs.Math.Seq.{take-append_seam}
use Rattle.chem_commit.specs.inside.Parts.{place_from}
use Rattle.chem_commit.specs.inside.Differ.{AtomsDiffer, IsAtomAt, IsPicked, ArePicked}

pub atoms_differ : (n : Numbered) → IsSound n → AtomsDiffer n.atoms
atoms_differ n sound p = omega (arith, sound.different p)

-- what was made behind them doesn't matter
pub first_differ : (n m : Numbered) (s : ℕ) (made : Made) (count : ℕ) → IsSound n
    → m ≡ add_made n s made → count ≡ length n.atoms → AtomsDiffer (take count m.atoms)
first_differ n m s made count sound is many =
    let all : take count m.atoms ≡ n.atoms =
    ap (λ (x : Numbered). take count x.atoms) is
    ∙ ap (λ (k : ℕ). take k (n.atoms ++ made.atoms)) many ∙ take-append_seam n.atoms made.atoms in
    subst AtomsDiffer (sym all) (atoms_differ n sound)

pub differ-without : (i : AtomId) (atoms : List NumberedAtom) → AtomsDiffer atoms
    → AtomsDiffer (without i atoms)
differ-without i atoms d p =
    let less = pairs-without i atoms p in
    let all = d p in
    omega (arith, less, all)

-- where the first of a list has the number, none of those behind it has
not_twice : (x : NumberedAtom) (xs : List NumberedAtom) (a : NumberedAtom) (i : AtomId)
    → AtomsDiffer (x ∷ xs) → atom_at xs i ≡ Some a → (t : Bool) → same_atom x.id i ≡ t → t ≡ false
not_twice x xs a i d found false c = refl
not_twice x xs a i d found true c =
    let there = atom_pair_found xs i a found in
    let here : one coded_pair (x.id.site, x.id.k) (i.site, i.k) ≡ 1 =
    ap (λ (q : AtomId). one coded_pair (q.site, q.k) (i.site, i.k)) (same_atom_is x.id i c)
    ∙ one_self coded_pair (i.site, i.k) in
    absurd (omega (arith, d (i.site, i.k)))

pub found_atom : (xs : List NumberedAtom) → AtomsDiffer xs → (j : ℕ) (a : NumberedAtom) (i : AtomId)
    → j < length xs → a ≡ get_or xs j a → same_atom a.id i ≡ true → atom_at xs i ≡ Some a
found_atom [] d j a i h e s = absurd (omega arith)
found_atom (x ∷ xs) d zero a i h e s =
    ap (λ (q : NumberedAtom). cond (same_atom q.id i) (Some q) (atom_at xs i)) (sym e)
    ∙ ap (λ t. cond t (Some a) (atom_at xs i)) s
found_atom (x ∷ xs) d (suc j) a i h e s =
    let later = found_atom xs (λ q. omega (arith, d q)) j a i (omega arith) e s in
    ap (λ t. cond t (Some x) (atom_at xs i)) (not_twice x xs a i d later (same_atom x.id i) refl)
    ∙ later

-- and it is the one whose place is found
placed : (xs : List NumberedAtom) (count : ℕ) → AtomsDiffer (take count xs)
    → (k j : ℕ) (a : NumberedAtom) (i : AtomId) → j < count → j < length xs → a ≡ get_or xs j a
    → same_atom a.id i ≡ true
    → (atom_at (take count xs) i ≡ Some a) × (place_from i k xs ≡ Some (k + j))
placed [] count d k j a i low h e s = absurd (omega arith)
placed (x ∷ xs) zero d k j a i low h e s = absurd (omega arith)
placed (x ∷ xs) (suc count) d k zero a i low h e s =
    let same : same_atom x.id i ≡ true = ap (λ (q : NumberedAtom). same_atom q.id i) (sym e) ∙ s in
    let sum : k ≡ k + 0 = omega arith in (
      ap (λ (q : NumberedAtom). cond (same_atom q.id i) (Some q) (atom_at (take count xs) i))
          (sym e) ∙ ap (λ t. cond t (Some a) (atom_at (take count xs) i)) s,
      ap (λ t. cond t (Some k) (place_from i (k + 1) xs)) same ∙ ap Some sum,
    )
placed (x ∷ xs) (suc count) d k (suc j) a i low h e s =
    let later =
    placed xs count (λ q. omega (arith, d q)) (k + 1) j a i (omega arith) (omega arith) e s in
    let no = not_twice x (take count xs) a i d later.0 (same_atom x.id i) refl in
    let sum : k + 1 + j ≡ k + suc j = omega arith in (
      ap (λ t. cond t (Some x) (atom_at (take count xs) i)) no ∙ later.0,
      ap (λ t. cond t (Some k) (place_from i (k + 1) xs)) no ∙ later.1 ∙ ap Some sum,
    )

pub placed_at : (xs : List NumberedAtom) (count : ℕ) (i : AtomId) (j : ℕ)
    → AtomsDiffer (take count xs) → IsAtomAt xs count i j → Some j ≡ place_from i 0 xs
placed_at xs count i j d at =
    let sum : 0 + j ≡ j = omega arith in
    sym ((placed xs count d 0 j at.0 i at.1 at.2 at.3 at.4).1 ∙ ap Some sum)

-- ---- a few that are picked

kept_found : (few : List NumberedAtom) (a b : NumberedAtom) (i : AtomId) → atom_at few i ≡ Some b
    → atom_at (few ++ a ∷ []) i ≡ Some b
kept_found [] a b i e = cc
kept_found (x ∷ few) a b i e = go (same_atom x.id i) (kept_found few a b i) e
  where
    go : (t : Bool) → (atom_at few i ≡ Some b → atom_at (few ++ a ∷ []) i ≡ Some b)
        → cond t (Some x) (atom_at few i) ≡ Some b
        → cond t (Some x) (atom_at (few ++ a ∷ []) i) ≡ Some b
    go true ih c = c
    go false ih c = ih c

next_found : (few : List NumberedAtom) (a : NumberedAtom) (i : AtomId) → atom_at few i ≡ None
    → atom_at (few ++ a ∷ []) i ≡ cond (same_atom a.id i) (Some a) None
next_found [] a i e = refl
next_found (x ∷ few) a i e = go (same_atom x.id i) (next_found few a i) e
  where
    go : (t : Bool)
        → (atom_at few i ≡ None → atom_at (few ++ a ∷ []) i ≡ cond (same_atom a.id i) (Some a) None)
        → cond t (Some x) (atom_at few i) ≡ None
        → cond t (Some x) (atom_at (few ++ a ∷ []) i) ≡ cond (same_atom a.id i) (Some a) None
    go true ih c = cc
    go false ih c = ih c

atom_has : (atoms : List NumberedAtom) (i : AtomId) (a : NumberedAtom) → atom_at atoms i ≡ Some a
    → a.id ≡ i
atom_has [] i a e = cc
atom_has (b ∷ atoms) i a e = go (same_atom b.id i) refl (atom_has atoms i a) e
  where
    go : (t : Bool) → same_atom b.id i ≡ t → (atom_at atoms i ≡ Some a → a.id ≡ i)
        → cond t (Some b) (atom_at atoms i) ≡ Some a → a.id ≡ i
    go true c ih e' =
        let same : b ≡ a = cc in
        ap (λ (x : NumberedAtom). x.id) (sym same) ∙ same_atom_is b.id i c
    go false c ih e' = ih e'

each_more : {X : Type 0} (Q : X → Type 0) (xs : List X) (k : ℕ) (x : X) → k < length xs
    → x ≡ get_or xs k x → Q x → Each Q (take k xs) → Each Q (take (suc k) xs)
each_more Q [] k x h e q so_far = absurd (omega arith)
each_more Q (y ∷ ys) zero x h e q so_far = (subst Q e q, tt)
each_more Q (y ∷ ys) (suc k) x h e q so_far =
    (so_far.0, each_more Q ys k x (omega arith) e q so_far.1)

each_to : {X : Type 0} (P Q : X → Type 0) → ((x : X) → P x → Q x) → (xs : List X) → Each P xs
    → Each Q xs
each_to P Q f [] h = tt
each_to P Q f (x ∷ xs) h = (f x h.0, each_to P Q f xs h.1)

module _ (atoms : List NumberedAtom) (took : List AtomId) where
  pub picked_next : (few more : List NumberedAtom) (k : ℕ) (i : AtomId) (a : NumberedAtom)
      → k < length took → i ≡ get_or took k i → atom_at atoms i ≡ Some a → more ≡ few ++ a ∷ []
      → ArePicked atoms (take k took) few → ArePicked atoms (take (k + 1) took) more
  picked_next few more k i a low e found is h =
      subst (ArePicked atoms (take (k + 1) took)) (sym is) (record {
        right = λ j b f. right j b (atom_at few j) refl f;
        all =
            let next : suc k ≡ k + 1 = omega arith in
            subst (λ (m : ℕ). Each (IsPicked atoms (few ++ a ∷ [])) (take m took)) next
            (each_more (IsPicked atoms (few ++ a ∷ [])) took k i low e this
            (each_to (IsPicked atoms few) (IsPicked atoms (few ++ a ∷ []))
            (λ j p b f. kept_found few a b j (p b f)) (take k took) h.all));
      })
    where
      right : (j : AtomId) (b : NumberedAtom) (o : Option NumberedAtom) → atom_at few j ≡ o
          → atom_at (few ++ a ∷ []) j ≡ Some b → atom_at atoms j ≡ Some b
      right j b (Some x) c f =
          let same : Some x ≡ Some b = sym (kept_found few a x j c) ∙ f in
          h.right j b (c ∙ same)
      right j b None c f = go (same_atom a.id j) refl (sym (next_found few a j c) ∙ f)
        where
          go : (t : Bool) → same_atom a.id j ≡ t → cond t (Some a) None ≡ Some b
              → atom_at atoms j ≡ Some b
          go false d g = cc
          go true d g =
              let this : i ≡ j = sym (atom_has atoms i a found) ∙ same_atom_is a.id j d in
              subst (λ (q : AtomId). atom_at atoms q ≡ Some b) this (found ∙ g)

      this : IsPicked atoms (few ++ a ∷ []) i
      this b f = there (atom_at few i) refl (sym found ∙ f)
        where
          there : (o : Option NumberedAtom) → atom_at few i ≡ o → Some a ≡ Some b
              → atom_at (few ++ a ∷ []) i ≡ Some b
          there (Some x) c same =
              let right_one = h.right i x c in
              kept_found few a b i (c ∙ sym right_one ∙ f)
          there None c same = next_found few a i c
              ∙ ap (λ t. cond t (Some a) None)
              (ap (λ (q : AtomId). same_atom q i) (atom_has atoms i a found) ∙ same_atom_refl i)
              ∙ same

  pub none_next : (few : List NumberedAtom) (k : ℕ) (i : AtomId) → k < length took
      → i ≡ get_or took k i → atom_at atoms i ≡ None → ArePicked atoms (take k took) few
      → ArePicked atoms (take (k + 1) took) few
  none_next few k i low e none h = record {
    right = h.right;
    all =
        let next : suc k ≡ k + 1 = omega arith in
        subst (λ (m : ℕ). Each (IsPicked atoms few) (take m took)) next
        (each_more (IsPicked atoms few) took k i low e
        (λ b f. let wrong : None ≡ Some b = sym none ∙ f in cc) h.all);
  }

same_found : (atoms few : List NumberedAtom) (i : AtomId)
    → ((a : NumberedAtom) → atom_at few i ≡ Some a → atom_at atoms i ≡ Some a)
    → IsPicked atoms few i → atom_at few i ≡ atom_at atoms i
same_found atoms few i right all = go (atom_at few i) refl (atom_at atoms i) refl
  where
    go : (o : Option NumberedAtom) → atom_at few i ≡ o → (q : Option NumberedAtom)
        → atom_at atoms i ≡ q → atom_at few i ≡ atom_at atoms i
    go (Some a) c q d = c ∙ sym (right a c)
    go None c (Some a) d = all a d ∙ sym d
    go None c None d = c ∙ sym d

pub received_picked : (atoms few : List NumberedAtom) (l : Loc) (ps : List Pat) (took : List AtomId)
    → ((i : AtomId) (a : NumberedAtom) → atom_at few i ≡ Some a → atom_at atoms i ≡ Some a)
    → Each (IsPicked atoms few) took → received_all few l ps took ≡ received_all atoms l ps took
received_picked atoms few l [] [] right all = refl
received_picked atoms few l [] (i ∷ took) right all = refl
received_picked atoms few l (p ∷ ps) [] right all = refl
received_picked atoms few l (p ∷ ps) (i ∷ took) right all =
    ap (λ o. both_received (received_at l p o) (received_all few l ps took))
    (same_found atoms few i (right i) all.0)
    ∙ ap (both_received (received_at l p (atom_at atoms i)))
    (received_picked atoms few l ps took right all.1)

pub at_place : (atoms slice : List NumberedAtom) (count : ℕ) (i : AtomId) (j : ℕ) (a : NumberedAtom)
    → slice ≡ atoms → j < count → j < length slice → a ≡ get_or slice j a → same_atom a.id i ≡ true
    → IsAtomAt atoms count i j
at_place atoms slice count i j a is low h e s = (
  a,
  low,
  subst (λ (l : List NumberedAtom). j < length l) is h,
  subst (λ (l : List NumberedAtom). a ≡ get_or l j a) is e,
  s,
)

-- what is read at a place that has the number is what is found
pub found_at_place : (n : Numbered) → IsSound n
    → (count : ℕ) (i : AtomId) (j : ℕ) (slice : List NumberedAtom) (a : NumberedAtom)
    → IsAtomAt n.atoms count i j → slice ≡ n.atoms → j < length slice → a ≡ get_or slice j a
    → Some a ≡ atom_at n.atoms i
found_at_place n sound count i j slice a at is h e =
    let there : a ≡ get_or n.atoms j a = subst (λ (l : List NumberedAtom). a ≡ get_or l j a) is e in
    let same : at.0 ≡ a = at.3 ∙ get_or_default n.atoms j at.0 a at.2 ∙ sym there in
    sym (found_atom n.atoms (atoms_differ n sound) j a i at.2 there
    (ap (λ (q : NumberedAtom). same_atom q.id i) (sym same) ∙ at.4))

pub apart_left : (left behind all : List NumberedAtom) (k : ℕ) → all ≡ left ++ behind
    → k ≡ length left → AtomsDiffer left → AtomsDiffer (take k all)
apart_left left behind all k is many d =
    let same : take k all ≡ left =
    ap (take k) is ∙ ap (λ (m : ℕ). take m (left ++ behind)) many ∙ take-append_seam left behind in
    subst AtomsDiffer (sym same) d
