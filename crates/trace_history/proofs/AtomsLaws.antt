-- The numbers of what is left are those of the atoms.
use Rattle.std.proofs.Common.{◌≡◌, List, [], ◌∷◌, Option, Some, None, Bool, true, false, cond, refl}
use Rattle.std.proofs.Common.{ap, sym, ◌∙◌, subst, ◌⊎◌, inl, inr, is_some, map}
use Rattle.std.specs.Prelude.{Result, IfOk}
use Rattle.std.proofs.lemmas.Bool.{false≢true}
use Rattle.std.proofs.lemmas.Result.{IfOk-weaker}
use Rattle.chem_model.specs.declared.memory.Memory.{Memory}
use Rattle.chem_model.specs.declared.event.AtomId.{AtomId}
use Rattle.chem_model.specs.declared.numbered.Numbered.{Numbered}
use Rattle.chem_model.specs.Each.{Each, IsIn}
use Rattle.chem_model.specs.Apply.{same_atom, atom_at}
use Rattle.chem_laws.proofs.Taking.{same_atom_is, same_atom_refl}
use Rattle.chem_causes.specs.declared.cause.Left.{Left}
use Rattle.chem_causes.specs.Lefts.{left_at, is_before, IsRising}
use Rattle.trace_history.specs.Kept.{BookKept}
use Rattle.trace_history.specs.Book.{OnItsSolution}
use Rattle.trace_history.specs.Left.{IsLeftAt, AreLeft, AreRising, AreAtomsOf}

abbrev pub ids : List Left → List AtomId
ids lefts = map (λ (l : Left). l.atom) lefts

told_in : (lefts : List Left) (i : AtomId) → is_some (left_at lefts i) ≡ true → IsIn i (ids lefts)
told_in [] i h = absurd (false≢true h)
told_in (l ∷ lefts) i h = go (same_atom l.atom i) refl (told_in lefts i) h
  where
    go : (t : Bool) → same_atom l.atom i ≡ t
        → (is_some (left_at lefts i) ≡ true → IsIn i (ids lefts))
        → is_some (cond t (Some l) (left_at lefts i)) ≡ true → (i ≡ l.atom) ⊎ IsIn i (ids lefts)
    go true c later h = inl (sym (same_atom_is l.atom i c))
    go false c later h = inr (later h)

in_told : (lefts : List Left) (i : AtomId) → IsIn i (ids lefts) → is_some (left_at lefts i) ≡ true
in_told [] i at = absurd at
in_told (l ∷ lefts) i at = go (same_atom l.atom i) refl (in_told lefts i) at
  where
    go : (t : Bool) → same_atom l.atom i ≡ t
        → (IsIn i (ids lefts) → is_some (left_at lefts i) ≡ true)
        → (i ≡ l.atom) ⊎ IsIn i (ids lefts) → is_some (cond t (Some l) (left_at lefts i)) ≡ true
    go true c later at = refl
    go false c later (inl e) =
        absurd (false≢true (sym c ∙ ap (same_atom l.atom) e ∙ same_atom_refl l.atom))
    go false c later (inr at) = later at

each_id : (i : AtomId) (lefts : List Left) → Each (λ (m : Left). is_before i m.atom ≡ true) lefts
    → Each (λ (j : AtomId). is_before i j ≡ true) (ids lefts)
each_id i [] h = tt
each_id i (l ∷ lefts) h = (h.0, each_id i lefts h.1)

rising_ids : (lefts : List Left) → IsRising lefts → AreRising (ids lefts)
rising_ids [] h = tt
rising_ids (l ∷ lefts) h = (each_id l.atom lefts h.0, rising_ids lefts h.1)

atoms_are : (n : Numbered) (lefts : List Left) → AreLeft n lefts → AreAtomsOf n (ids lefts)
atoms_are n lefts h = record {
  rising = rising_ids lefts h.rising;
  only = λ i at. there i (left_at lefts i) (h.all i) (in_told lefts i at);
  every = λ i is. told_in lefts i (left i (left_at lefts i) (h.all i) is);
}
  where
    there : (i : AtomId) (o : Option Left) → IsLeftAt n i o → is_some o ≡ true
        → is_some (atom_at n.atoms i) ≡ true
    there i None h e = absurd (false≢true e)
    there i (Some l) h e = ap is_some h.1

    left : (i : AtomId) (o : Option Left) → IsLeftAt n i o → is_some (atom_at n.atoms i) ≡ true
        → is_some o ≡ true
    left i None h e = sym (ap is_some h) ∙ e
    left i (Some l) h e = refl

pub atoms_of_book : (b : BookKept) (lefts slice : List Left) → slice ≡ lefts
    → OnItsSolution b (λ n. AreLeft n lefts) → (r : Result (List AtomId) Memory)
    → IfOk r (λ is. is ≡ ids slice) → IfOk r (λ is. OnItsSolution b (λ n. AreAtomsOf n is))
atoms_of_book b lefts slice same all r is =
    IfOk-weaker r (λ xs. xs ≡ ids slice) (λ xs. OnItsSolution b (λ n. AreAtomsOf n xs))
    (λ xs e m leads. subst (λ (ys : List AtomId). AreAtomsOf m ys) (sym (e ∙ ap ids same))
    (atoms_are m lefts (all m leads))) is
