-- The first of two lists of faults.
use Rattle.std.proofs.Common.{◌≡◌, List, [], ◌∷◌, ◌++◌, Option, refl, sym, ap, ◌∙◌}
use Rattle.scope_check.specs.declared.fault.Fault.{Fault}
use Rattle.scope_check.specs.inside.Order.{sooner, first_of}

pub first-append : (o : Option Fault) (xs ys : List Fault)
    → first_of o (xs ++ ys) ≡ first_of (first_of o xs) ys
first-append o [] ys = refl
first-append o (x ∷ xs) ys = first-append (sooner o x) xs ys

-- one after the other
pub chained : (a b c : Option Fault) (xs ys zs : List Fault) → b ≡ first_of a xs → c ≡ first_of b ys
    → xs ++ ys ≡ zs → c ≡ first_of a zs
chained a b c xs ys zs e f g =
    f ∙ ap (λ o. first_of o ys) e ∙ sym (first-append a xs ys) ∙ ap (first_of a) g
