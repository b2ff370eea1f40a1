-- One slot a place, filled receipt after receipt.
use Rattle.std.proofs.Common.{◌≡◌, ℕ, zero, suc, ◌+◌, ◌<◌, List, [], ◌∷◌, length, drop, get_or}
use Rattle.std.proofs.Common.{Bool, true, false, cond, ◌||◌, ◌==◌, refl, ap, ◌∙◌, arith, Option}
use Rattle.std.proofs.Common.{Some, None, slice_set}
use Rattle.std.specs.Prelude.{replicate}
use Rattle.std.proofs.lemmas.Bool.Decides.{nat_tests}
use Rattle.shared_net.specs.declared.receipt.Receipt.{Receipt}
use Rattle.shared_net.specs.inside.Walk.{slot_at, has_place}
use Rattle.shared_net.proofs.Members.{drop-at}

slot-set : (slots : List (Option ℕ)) (i number k : ℕ) → i < length slots
    → slot_at (slice_set slots i (Some number)) k ≡ cond (i == k) (Some number) (slot_at slots k)
slot-set [] i number k l = absurd (omega arith)
slot-set (s ∷ ss) zero number zero l = refl
slot-set (s ∷ ss) zero number (suc k) l =
    let e : (0 == suc k) ≡ false = grind (arith, nat_tests) in
    rw e refl
slot-set (s ∷ ss) (suc i) number zero l =
    let e : (suc i == 0) ≡ false = grind (arith, nat_tests) in
    rw e refl
slot-set (s ∷ ss) (suc i) number (suc k) l =
    let e : (suc i == suc k) ≡ (i == k) = grind (arith, nat_tests) in
    rw e (slot-set ss i number k (omega arith))

pub slot-free : (n k : ℕ) → slot_at (replicate n None) k ≡ None
slot-free zero k = refl
slot-free (suc n) zero = refl
slot-free (suc n) (suc k) = slot-free n k

both : (e h : Bool) (mine old : Option ℕ) → cond h mine (cond e mine old) ≡ cond (e || h) mine old
both true true mine old = refl
both true false mine old = refl
both false true mine old = refl
both false false mine old = refl

-- one slot more is filled
pub mark-next : (slots : List (Option ℕ)) (number : ℕ) (rs : List Receipt) (i : ℕ) (r : Receipt)
    → i < length rs → r ≡ get_or rs i r → r.place < length slots → (k : ℕ)
    → cond (has_place k (drop (i + 1) rs)) (Some number)
    (slot_at (slice_set slots r.place (Some number)) k)
    ≡ cond (has_place k (drop i rs)) (Some number) (slot_at slots k)
mark-next slots number rs i r l is within k =
    rw (drop-at rs i r l is)
    (ap (λ (o : Option ℕ). cond (has_place k (drop (i + 1) rs)) (Some number) o)
    (slot-set slots r.place number k within)
    ∙ both (r.place == k) (has_place k (drop (i + 1) rs)) (Some number) (slot_at slots k))
