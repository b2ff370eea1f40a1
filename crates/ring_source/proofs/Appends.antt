-- Pieces that are appended to a text, one behind the other.
use Rattle.std.proofs.Common.{◌≡◌, List, ℕ, ◌++◌, ap, ◌∙◌, append_assoc, refl, Result, OnOk}
use Rattle.std.proofs.lemmas.Result.{on_ok_weaker}

-- the first two pieces
pub two : (start a b : List ℕ) {end : List ℕ} → end ≡ start ++ a ++ b → end ≡ start ++ (a ++ b)
two start a b is = is ∙ append_assoc start a b

-- one piece more
pub more : (start pieces a : List ℕ) {mid end : List ℕ} → mid ≡ start ++ pieces → end ≡ mid ++ a
    → end ≡ start ++ (pieces ++ a)
more start pieces a before is =
    is ∙ (ap (λ (text : List ℕ). text ++ a) before ∙ append_assoc start pieces a)

-- two pieces more
pub two_more : (start pieces a b : List ℕ) {mid end : List ℕ} → mid ≡ start ++ pieces
    → end ≡ mid ++ a ++ b → end ≡ start ++ (pieces ++ a ++ b)
two_more start pieces a b before is = is
    ∙ (ap (λ (text : List ℕ). text ++ b) (more start pieces a before refl)
    ∙ append_assoc start (pieces ++ a) b)

-- the last piece, where there was memory for it
pub last : {T E : Type 0} (r : Result T E) (start pieces a mid end : List ℕ) → mid ≡ start ++ pieces
    → OnOk r (end ≡ mid ++ a) → OnOk r (end ≡ start ++ (pieces ++ a))
last r start pieces a mid end before is = on_ok_weaker r (more start pieces a before) is
