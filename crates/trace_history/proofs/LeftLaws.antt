-- What is left: the causes over the border of a book.
use Rattle.std.proofs.Common.{◌≡◌, List, ◌++◌, Option, Some, None, ap, sym, ◌∙◌, subst, is_some}
use Rattle.chem_model.specs.declared.event.AtomId.{AtomId}
use Rattle.chem_model.specs.declared.event.Event.{Event}
use Rattle.chem_model.specs.declared.numbered.NumberedAtom.{NumberedAtom}
use Rattle.chem_model.specs.declared.numbered.Numbered.{Numbered}
use Rattle.chem_model.specs.Apply.{atom_at, apply}
use Rattle.chem_causes.specs.declared.cause.Cause.{Cause}
use Rattle.chem_causes.specs.declared.cause.Cause.TheVariants as cause
use Rattle.chem_causes.specs.declared.cause.Left.{Left}
use Rattle.chem_causes.specs.Cause.{IsTrueOf}
use Rattle.book_store.specs.Older.{whole}
use Rattle.trace_history.specs.inside.Holds.{Holds}
use Rattle.trace_history.specs.Kept.{BookKept, solution}
use Rattle.trace_history.specs.Book.{OnItsSolution}
use Rattle.trace_history.specs.Left.{IsLeft, IsLeftAt, AreLeft}
use Rattle.chem_causes.specs.Lefts.{left_at}
use Rattle.trace_history.proofs.Replays.{same_some}

-- where an event is possible in the one exactly where it is in the other, the same causes are true
module _ (n : Numbered) (ys : List NumberedAtom) (possible : (e : Event)
    → is_some (apply n e) ≡ is_some (apply (record n { atoms = ys }) e)) where
  true_here : (a : NumberedAtom) (c : Cause) → IsTrueOf (record n { atoms = ys }) a c
      → IsTrueOf n a c
  true_here a cause.Dead h = h
  true_here a cause.Ready h = (h.0, possible h.0 ∙ h.1, h.2)
  true_here a cause.Place h = h
  true_here a cause.Number h = h
  true_here a cause.Operation h = h
  true_here a cause.Count h = h
  true_here a cause.Partner h = h
  true_here a cause.Target h = h
  true_here a cause.Root h = h
  true_here a cause.NoSite h = h
  true_here a cause.Gone h = h
  true_here a cause.Alive h = h

  true_there : (a : NumberedAtom) (c : Cause) → IsTrueOf n a c
      → IsTrueOf (record n { atoms = ys }) a c
  true_there a cause.Dead h = h
  true_there a cause.Ready h = (h.0, sym (possible h.0) ∙ h.1, h.2)
  true_there a cause.Place h = h
  true_there a cause.Number h = h
  true_there a cause.Operation h = h
  true_there a cause.Count h = h
  true_there a cause.Partner h = h
  true_there a cause.Target h = h
  true_there a cause.Root h = h
  true_there a cause.NoSite h = h
  true_there a cause.Gone h = h
  true_there a cause.Alive h = h

  pub left_here : (a : NumberedAtom) (left : Left) → IsLeft (record n { atoms = ys }) a left
      → IsLeft n a left
  left_here a left h = record {
    atom = h.atom;
    loc = h.loc;
    cause = record {
      holds = true_here a left.cause h.cause.holds;
      first = λ d lt t. h.cause.first d lt (true_there a d t);
    };
  }

  pub left_at_here : (i : AtomId) → atom_at n.atoms i ≡ atom_at ys i → (o : Option Left)
      → IsLeftAt (record n { atoms = ys }) i o → IsLeftAt n i o
  left_at_here i same None h = same ∙ h
  left_at_here i same (Some left) h = (h.0, same ∙ h.1, left_here h.0 left h.2)

module _ (o : Option Numbered) (old : List NumberedAtom) (n : Numbered) (h : Holds o old n) where
  pub left_in : ((e : Event) → is_some (apply h.left e) ≡ is_some (apply (whole old n) e))
      → (i : AtomId) (r : Option Left) → IsLeftAt (whole old n) i r → IsLeftAt h.left i r
  left_in possible i r is =
      let back : (e : Event)
      → is_some (apply h.left e) ≡ is_some (apply (record h.left { atoms = old ++ n.atoms }) e) =
      λ e. possible e ∙ ap (λ (m : Numbered). is_some (apply m e)) (sym h.rest) in
      left_at_here h.left (old ++ n.atoms) back i (h.alike i) r
      (subst (λ (m : Numbered). IsLeftAt m i r) (sym h.rest) is)

pub left_book : (b : BookKept) (n : Numbered) → solution b ≡ Some n → (i : AtomId) (r : Option Left)
    → IsLeftAt n i r → OnItsSolution b (λ m. IsLeftAt m i r)
left_book b n leads i r is m e =
    subst (λ (x : Numbered). IsLeftAt x i r) (same_some n m (sym leads ∙ e)) is

pub all_left_in : (o : Option Numbered) (old : List NumberedAtom) (n : Numbered) (h : Holds o old n)
    → ((e : Event) → is_some (apply h.left e) ≡ is_some (apply (whole old n) e))
    → (lefts : List Left) → AreLeft (whole old n) lefts → AreLeft h.left lefts
all_left_in o old n h possible lefts is = record {
  rising = is.rising;
  all = λ i. left_in o old n h possible i (left_at lefts i) (is.all i);
}

pub all_left_book : (b : BookKept) (n : Numbered) → solution b ≡ Some n → (lefts : List Left)
    → AreLeft n lefts → OnItsSolution b (λ m. AreLeft m lefts)
all_left_book b n leads lefts is m e =
    subst (λ (x : Numbered). AreLeft x lefts) (same_some n m (sym leads ∙ e)) is
