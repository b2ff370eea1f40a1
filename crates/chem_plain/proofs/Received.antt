-- Whether messages are received past the last pattern.
use Rattle.std.proofs.Common.{◌≡◌, ◌≤◌, ℕ, zero, suc, List, [], ◌∷◌, length, drop, refl, ◌∙◌, arith}
use Rattle.std.proofs.Common.{false, ◌==◌}
use Rattle.std.specs.Prelude.{is_some}
use Rattle.std.proofs.lemmas.Bool.Decides.{nat_tests}
use Rattle.chem_model.specs.declared.name.Loc.{Loc}
use Rattle.chem_model.specs.declared.name.Pat.{Pat}
use Rattle.chem_model.specs.declared.event.AtomId.{AtomId}
use Rattle.chem_model.specs.declared.numbered.NumberedAtom.{NumberedAtom}
use Rattle.chem_model.specs.Apply.{received_all}
use Rattle.std.proofs.lemmas.List.{drop_all}

one_more : (a b : ℕ) → (a == b) ≡ (suc a == suc b)
one_more a b = grind (arith, nat_tests)

longer : (n : ℕ) → false ≡ (suc n == 0)
longer n = grind (arith, nat_tests)

received_rest : (atoms : List NumberedAtom) (l : Loc) (took : List AtomId) (n : ℕ) → n ≤ length took
    → is_some (received_all atoms l [] (drop n took)) ≡ (length took == n)
received_rest atoms l [] zero h = refl
received_rest atoms l [] (suc n) h = absurd (omega arith)
received_rest atoms l (i ∷ took) zero h = longer (length took)
received_rest atoms l (i ∷ took) (suc n) h =
    received_rest atoms l took n (omega arith) ∙ one_more (length took) n

pub received_end :
    (atoms : List NumberedAtom) (l : Loc) (pats : List Pat) (took : List AtomId) (n : ℕ)
    → n ≡ length pats → n ≤ length took
    → is_some (received_all atoms l (drop n pats) (drop n took)) ≡ (length took == n)
received_end atoms l pats took n e h =
    rw (drop_all n pats (omega arith)) (received_rest atoms l took n h)
