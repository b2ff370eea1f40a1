-- What a journal leads to, and what the book has in its place: the same but for the order of
-- messages and requests, of which some stand in front.
use Rattle.std.proofs.Common.{◌≡◌, ℕ, List, [], ◌∷◌, ◌++◌, Option, Some, None, Bool, true, false}
use Rattle.std.proofs.Common.{refl, ap, sym, ◌∙◌, subst, length, is_some}
use Rattle.chem_model.specs.declared.event.AtomId.{AtomId}
use Rattle.chem_model.specs.declared.event.Event.{Event}
use Rattle.chem_model.specs.declared.numbered.NumberedAtom.{NumberedAtom}
use Rattle.chem_model.specs.declared.numbered.Numbered.{Numbered}
use Rattle.chem_model.specs.Each.{Each}
use Rattle.chem_model.specs.Sound.{IsSound}
use Rattle.chem_model.specs.Laws.{EventIsAReduction}
use Rattle.chem_model.specs.Apply.{apply, apply_if, atom_at}
use Rattle.trace_history.specs.declared.book.Found.{Found}
use Rattle.trace_history.specs.First.{IsFirst}
use Rattle.trace_history.specs.inside.Search.{IsFound}
use Rattle.trace_history.proofs.Alike.{AreAlikeIf}
use Rattle.book_store.specs.Older.{whole, Keeps, takes}
use Rattle.trace_history.specs.inside.Holds.{Holds}
use Rattle.trace_history.specs.Kept.{BookKept, solution, is_enabled}
use Rattle.trace_history.specs.declared.book.Commit.TheVariants.{Place, NotEnabled}
use Rattle.trace_history.specs.Book.{Finds, Commits}
use Rattle.chem_model.specs.ProgramFacts.{ProgramTerms}
use Rattle.chem_commit.specs.Replaces.{Replaces}
use Rattle.chem_commit.specs.inside.Differ.{AtomsDiffer}
use Rattle.trace_history.proofs.Replays.{same_some}
use Rattle.trace_history.proofs.ApplyAlike.{apply_alike}
use Rattle.book_store.proofs.SoundLaws.{sound_alike, sound_rest, differ_of}
use Rattle.trace_history.proofs.BorderLaws.{possible_alike, first_alike, stuck_alike}
use Rattle.trace_history.proofs.Front.{front, apply_front}

-- ---- at the beginning, and where messages only moved

pub holds_on : (o : Option Numbered) (old now ys : List NumberedAtom) (n : Numbered) → Holds o old n
    → Keeps old n.atoms now ys → Holds o now (record n { atoms = ys })
holds_on o old now ys n h k = record {
  left = h.left;
  replays = h.replays;
  rest = ap (λ (m : Numbered). record m { atoms = now ++ ys }) h.rest;
  alike = λ i. h.alike i ∙ k.alike i;
  differ = k.differ;
}

-- ---- what is known of the one is known of the other

module _ (o : Option Numbered) (old : List NumberedAtom) (n : Numbered) (h : Holds o old n)
    (sound : (m : Numbered) → o ≡ Some m → IsSound m) where
  pub left_sound : IsSound h.left
  left_sound = sound h.left h.replays

  pub whole_sound : IsSound (whole old n)
  whole_sound =
      subst IsSound h.rest (sound_alike h.left (old ++ n.atoms) h.differ h.alike left_sound)

  pub base_sound : IsSound n
  base_sound = sound_rest old n whole_sound

  pub possible_whole : (e : Event) → is_some (apply h.left e) ≡ is_some (apply (whole old n) e)
  possible_whole e =
      possible_alike h.left (old ++ n.atoms) (differ_of h.left left_sound) h.differ h.alike e
      ∙ ap (λ (m : Numbered). is_some (apply m e)) h.rest

  pub found_left : (from : ℕ) (f : Option Found) → IsFound (whole old n) from f
      → IsFound h.left from f
  found_left from f found = go f (subst (λ (m : Numbered). IsFound m from f) (sym h.rest) found)
    where
      go : (g : Option Found) → IsFound (record h.left { atoms = old ++ n.atoms }) from g
          → IsFound h.left from g
      go None is =
          stuck_alike h.left (old ++ n.atoms) (differ_of h.left left_sound) h.differ h.alike is
      go (Some g) is = (
        first_alike h.left (old ++ n.atoms) (differ_of h.left left_sound) h.differ h.alike from
            g.site g.event is.0,
        is.1,
      )

  pub stuck_whole : (from : ℕ) → IsFound h.left from None → IsFound (whole old n) from None
  stuck_whole from none e = sym (possible_whole e) ∙ none e

  -- ---- an event

  -- where the event is made, it is made in what the journal leads to
  pub record Made (e : Event) (m : Numbered) : Type 0 where
    pub after : Numbered
    pub applied : apply h.left e ≡ Some after
    pub holds : (q : Option Numbered) → q ≡ Some after → Holds q old m

  alike_after : (e : Event) → Each (λ (i : AtomId). atom_at old i ≡ None) (takes e)
      → AreAlikeIf (apply h.left e) (front old (apply n e))
  alike_after e none =
      let one =
      apply_alike h.left (old ++ n.atoms) (differ_of h.left left_sound) h.differ h.alike e in
      let two = subst (λ (m : Numbered). AreAlikeIf (apply h.left e) (apply m e)) h.rest one in
      subst (λ (q : Option Numbered). AreAlikeIf (apply h.left e) q) (apply_front old n e none) two

  -- what the book has after the event is sound
  pub sound_made : EventIsAReduction → (e : Event) (m : Numbered)
      → Each (λ (i : AtomId). atom_at old i ≡ None) (takes e) → apply n e ≡ Some m
      → IsSound (whole old m)
  sound_made law e m none made =
      let in_all : apply (whole old n) e ≡ Some (whole old m) =
      apply_front old n e none ∙ ap (front old) made in
      (law (whole old n) (whole old m) e whole_sound in_all).sound

  pub event_made : EventIsAReduction → (e : Event) (m : Numbered)
      → Each (λ (i : AtomId). atom_at old i ≡ None) (takes e) → apply n e ≡ Some m → Made e m
  event_made law e m none made = go (apply h.left e) refl
      (subst (λ (q : Option Numbered). AreAlikeIf (apply h.left e) (front old q)) made
      (alike_after e none))
    where
      differ : AtomsDiffer (old ++ m.atoms)
      differ = differ_of (whole old m) (sound_made law e m none made)

      go : (q : Option Numbered) → apply h.left e ≡ q → AreAlikeIf q (Some (whole old m)) → Made e m
      go None c a = absurd a
      go (Some q) c a =
          let same : old ++ m.atoms ≡ a.0 = ap (λ (x : Numbered). x.atoms) a.1 in
          record {
            after = q;
            applied = c;
            holds = λ r is. record {
              left = q;
              replays = is;
              rest = ap (λ (l : List NumberedAtom). record q { atoms = l }) same ∙ sym a.1;
              alike = λ i. a.2 i ∙ sym (ap (λ (l : List NumberedAtom). atom_at l i) same);
              differ = differ;
            };
          }

  pub event_not_made : (e : Event) → Each (λ (i : AtomId). atom_at old i ≡ None) (takes e)
      → apply n e ≡ None → is_some (apply h.left e) ≡ false
  event_not_made e none not = go (apply h.left e)
      (subst (λ (q : Option Numbered). AreAlikeIf (apply h.left e) (front old q)) not
      (alike_after e none))
    where
      go : (q : Option Numbered) → AreAlikeIf q None → is_some q ≡ false
      go None a = refl
      go (Some q) a = absurd a

-- ---- the answers of a book

pub finds_of : (b : BookKept) (n : Numbered) → solution b ≡ Some n → (from : ℕ) (f : Option Found)
    → IsFound n from f → Finds b from f
finds_of b n leads from None is = λ e. ap (λ o. is_some (apply_if o e)) leads ∙ is e
finds_of b n leads from (Some f) is = λ m e.
    subst (λ (x : Numbered). IsFirst x from f.site f.event) (same_some n m (sym leads ∙ e)) is.0

abbrev kept_of : ProgramTerms → List Event → BookKept
kept_of p journal = record { program = p; journal = journal }

-- what is said of the parts of a book is said of the book
pub commits_place :
    (b : BookKept) (p : ProgramTerms) (journal new : List Event) (e : Event) (k : ℕ)
    → record { program = p; journal = journal } ≡ b → is_enabled b e ≡ true
    → new ≡ journal ++ e ∷ [] → k ≡ length journal
    → Commits b e (Place k) (record { program = p; journal = new })
commits_place b p journal new e k view enabled pushed count =
    subst (λ (x : BookKept). is_enabled x e ≡ true → Commits x e (Place k) (kept_of p new)) view
    (λ is. (is, count, ap (kept_of p) pushed)) enabled

pub commits_none : (b : BookKept) (p : ProgramTerms) (journal new : List Event) (e : Event)
    → record { program = p; journal = journal } ≡ b → is_enabled b e ≡ false → new ≡ journal
    → Commits b e NotEnabled (record { program = p; journal = new })
commits_none b p journal new e view not same = (not, ap (kept_of p) same ∙ view)

pub not_replaced : (o : Option Numbered) (n m : Numbered) (made : Bool) → Replaces o n made m
    → made ≡ false → o ≡ None
not_replaced None n m made h is = refl
not_replaced (Some after) n m made h is = let wrong : false ≡ true = sym is ∙ h.0 in cc

pub enabled_in : (b : BookKept) (n : Numbered) (e : Event) → solution b ≡ Some n
    → is_enabled b e ≡ is_some (apply n e)
enabled_in b n e leads = ap (λ o. is_some (apply_if o e)) leads
