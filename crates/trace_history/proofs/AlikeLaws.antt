-- The effect of an event is alike where each number finds the same.
use Rattle.std.proofs.Common.{◌≡◌, List, [], ◌∷◌, ◌++◌, None, cond, refl, ap, sym, ◌∙◌}
use Rattle.chem_model.specs.declared.name.Loc.{Loc}
use Rattle.chem_model.specs.declared.name.Pat.{Pat}
use Rattle.chem_model.specs.declared.event.AtomId.{AtomId}
use Rattle.chem_model.specs.declared.numbered.NumberedAtom.{NumberedAtom}
use Rattle.chem_model.specs.Apply.{same_atom, atom_at, without, without_all, received_at}
use Rattle.chem_model.specs.Apply.{both_received, received_all}
use Rattle.chem_commit.specs.inside.Differ.{AtomsDiffer}
use Rattle.book_store.specs.Alike.{AreAlike}
use Rattle.book_store.specs.Walk.{or_else}
use Rattle.book_store.proofs.ByNumber.{atom_at-append, atom_at-without, differ-without}

-- ---- one behind the other

pub alike-append : (xs ys zs : List NumberedAtom) → AreAlike xs ys → AreAlike (xs ++ zs) (ys ++ zs)
alike-append xs ys zs h i =
    atom_at-append xs zs i ∙ ap (λ o. or_else o (atom_at zs i)) (h i) ∙ sym (atom_at-append ys zs i)

-- ---- one taken out

pub alike-without : (i : AtomId) (xs ys : List NumberedAtom) → AtomsDiffer xs → AtomsDiffer ys
    → AreAlike xs ys → AreAlike (without i xs) (without i ys)
alike-without i xs ys d e h j = atom_at-without i j xs d
    ∙ ap (λ o. cond (same_atom i j) None o) (h j) ∙ sym (atom_at-without i j ys e)

pub alike-without_all : (took : List AtomId) (xs ys : List NumberedAtom) → AtomsDiffer xs
    → AtomsDiffer ys → AreAlike xs ys → AreAlike (without_all took xs) (without_all took ys)
alike-without_all [] xs ys d e h = h
alike-without_all (i ∷ took) xs ys d e h = alike-without_all took (without i xs) (without i ys)
    (differ-without i xs d) (differ-without i ys e) (alike-without i xs ys d e h)

-- ---- what is received is what the numbers find

pub received_alike : (xs ys : List NumberedAtom) → AreAlike xs ys
    → (l : Loc) (ps : List Pat) (took : List AtomId)
    → received_all xs l ps took ≡ received_all ys l ps took
received_alike xs ys h l [] [] = refl
received_alike xs ys h l (p ∷ ps) (i ∷ took) =
    ap (λ o. both_received (received_at l p o) (received_all xs l ps took)) (h i)
    ∙ ap (both_received (received_at l p (atom_at ys i))) (received_alike xs ys h l ps took)
received_alike xs ys h l [] (i ∷ took) = refl
received_alike xs ys h l (p ∷ ps) [] = refl
