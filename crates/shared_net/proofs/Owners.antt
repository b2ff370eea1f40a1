-- Lists of passes whose members agree one by one have the same owners.
use Rattle.std.proofs.Common.{◌≡◌, ℕ, suc, ◌<◌, List, [], ◌∷◌, length, get_or, map, refl, ap, ◌∙◌}
use Rattle.std.proofs.Common.{arith}
use Rattle.shared_net.specs.Passes.{PassKept}
use Rattle.shared_net.specs.Turning.{owner, HaveSameOwners}

pub same_owners : (xs ys : List PassKept) → length ys ≡ length xs
    → ((i : ℕ) (d : PassKept) → i < length xs → owner (get_or ys i d) ≡ owner (get_or xs i d))
    → HaveSameOwners xs ys
same_owners [] [] l each = refl
same_owners [] (y ∷ ys) l each = absurd (omega arith)
same_owners (x ∷ xs) [] l each = absurd (omega arith)
same_owners (x ∷ xs) (y ∷ ys) l each =
    let first : owner y ≡ owner x = each 0 y (omega arith) in
    let rest = same_owners xs ys (omega arith) (λ i d h. each (suc i) d (omega arith)) in
    ap (λ (o : ℕ × ℕ). o ∷ map owner ys) first ∙ ap (λ (os : List (ℕ × ℕ)). owner x ∷ os) rest
