-- What is found among the older messages and among the newest is found among all.
use Rattle.std.proofs.Common.{◌≡◌, List, [], ◌∷◌, ◌++◌, Option, Some, None, Bool, true, false, refl}
use Rattle.std.proofs.Common.{ap, sym, ◌∙◌, ◌||◌, inl, inr}
use Rattle.chem_model.specs.declared.name.Loc.{Loc}
use Rattle.chem_model.specs.declared.name.Pat.{Pat}
use Rattle.chem_model.specs.declared.event.AtomId.{AtomId}
use Rattle.chem_model.specs.declared.numbered.NumberedAtom.{NumberedAtom}
use Rattle.chem_model.specs.Each.{Each, IsIn}
use Rattle.chem_model.specs.Apply.{atom_at}
use Rattle.chem_causes.specs.Ready.{receives, is_met}
use Rattle.book_store.specs.Walk.{or_else, IsFirstOf}
use Rattle.book_store.proofs.ByNumber.{atom_at-append}

-- ---- messages

met_both : (old xs : List NumberedAtom) (l : Loc) (p : Pat)
    → is_met (old ++ xs) l p ≡ is_met old l p || is_met xs l p
met_both [] xs l p = refl
met_both (a ∷ old) xs l p = go (receives l p a) (met_both old xs l p)
  where
    go : (t : Bool) → is_met (old ++ xs) l p ≡ is_met old l p || is_met xs l p
        → t || is_met (old ++ xs) l p ≡ (t || is_met old l p) || is_met xs l p
    go true h = refl
    go false h = h

or_true : (t : Bool) → true ≡ t || true
or_true true = refl
or_true false = refl

met_by : (old : List NumberedAtom) (l : Loc) (p : Pat) (a : NumberedAtom) → IsIn a old
    → receives l p a ≡ true → is_met old l p ≡ true
met_by [] l p a at h = absurd at
met_by (b ∷ old) l p a (inl e) h = ap (λ t. t || is_met old l p) (ap (receives l p) (sym e) ∙ h)
met_by (b ∷ old) l p a (inr at) h =
    ap (λ t. receives l p b || t) (met_by old l p a at h) ∙ sym (or_true (receives l p b))

unmet : (old : List NumberedAtom) (l : Loc) (p : Pat) → Each (λ a. receives l p a ≡ false) old
    → is_met old l p ≡ false
unmet [] l p h = refl
unmet (a ∷ old) l p h = ap (λ t. t || is_met old l p) h.0 ∙ unmet old l p h.1

module _ (before : NumberedAtom → NumberedAtom → Bool) where
  pub met_older : (old xs : List NumberedAtom) (l : Loc) (p : Pat) (a : NumberedAtom)
      → IsFirstOf (receives l p) before old (Some a) → true ≡ is_met (old ++ xs) l p
  met_older old xs l p a f =
      sym (met_both old xs l p ∙ ap (λ t. t || is_met xs l p) (met_by old l p a f.0 f.1))

  pub met_none : (old xs : List NumberedAtom) (l : Loc) (p : Pat)
      → IsFirstOf (receives l p) before old None → is_met xs l p ≡ false
      → false ≡ is_met (old ++ xs) l p
  met_none old xs l p f h =
      sym (met_both old xs l p ∙ ap (λ t. t || is_met xs l p) (unmet old l p f) ∙ h)

-- ---- by number

pub found_first : (old xs : List NumberedAtom) (i : AtomId) (a : NumberedAtom)
    → Some a ≡ atom_at old i → Some a ≡ atom_at (old ++ xs) i
found_first old xs i a e =
    sym (atom_at-append old xs i ∙ ap (λ o. or_else o (atom_at xs i)) (sym e))

pub found_second : (old xs : List NumberedAtom) (i : AtomId) (o : Option NumberedAtom)
    → None ≡ atom_at old i → o ≡ atom_at xs i → o ≡ atom_at (old ++ xs) i
found_second old xs i o e f =
    f ∙ sym (atom_at-append old xs i ∙ ap (λ q. or_else q (atom_at xs i)) (sym e))
