-- Members of lists of pieces: where they stand, and taking one out.
use Rattle.std.proofs.Common.{◌≡◌, ℕ, zero, suc, ◌+◌, ◌<◌, ◌≤◌, List, [], ◌∷◌, ◌++◌, take, drop}
use Rattle.std.proofs.Common.{length, Some, Result, Ok, Err, refl, sym, ap, ◌∙◌, arith}
use Rattle.std.proofs.Common.{length-append, append_assoc}
use Rattle.std.specs.Prelude.{slice_get, slice_set, slice_index_or, is_ok, IsOk, if◌then◌else◌}
use Rattle.std.specs.Prelude.{Option, None, true, false, IsSome, OnSome}
use Rattle.chem_laws.proofs.Lists.{append_nil}
use Rattle.net_core.specs.Parts.{joined, without}
use Rattle.net_core.specs.inside.Pieces.{IsPlace}

pub joined_append : {X : Type 0} (ps qs : List (List X))
    → joined (ps ++ qs) ≡ joined ps ++ joined qs
joined_append [] qs = refl
joined_append (p ∷ ps) qs =
    ap (λ r. p ++ r) (joined_append ps qs) ∙ sym (append_assoc p (joined ps) (joined qs))

-- one piece more at the end
pub joined_more : {X : Type 0} (ps : List (List X)) (p : List X)
    → joined (ps ++ p ∷ []) ≡ joined ps ++ p
joined_more ps p = joined_append ps (p ∷ []) ∙ ap (λ r. joined ps ++ r) (append_nil p)

without_front : {X : Type 0} (q rest : List X) (j : ℕ) → j < length q
    → without j (q ++ rest) ≡ without j q ++ rest
without_front [] rest j h = absurd (omega arith)
without_front (x ∷ q) rest zero h = refl
without_front (x ∷ q) rest (suc j) h = ap (λ r. x ∷ r) (without_front q rest j (omega arith))

without_behind : {X : Type 0} (q rest : List X) (k : ℕ)
    → without (length q + k) (q ++ rest) ≡ q ++ without k rest
without_behind [] rest k = let e : 0 + k ≡ k = omega arith in ap (λ n. without n rest) e
without_behind (x ∷ q) rest k =
    let e : suc (length q) + k ≡ suc (length q + k) = omega arith in
    ap (λ n. without n (x ∷ (q ++ rest))) e ∙ ap (λ r. x ∷ r) (without_behind q rest k)

-- taken out of its piece, it is taken out of all
pub without_joined : {X : Type 0} (ps : List (List X)) (i : ℕ) (p : List X) (j : ℕ)
    → slice_get ps i ≡ Some p → j < length p
    → joined (slice_set ps i (without j p)) ≡ without (length (joined (take i ps)) + j) (joined ps)
without_joined [] i p j e h = cc
without_joined (q ∷ ps) zero p j e h =
    let same : q ≡ p = cc in
    let low : j < length q = omega (arith, ap length same) in
    let at : 0 + j ≡ j = omega arith in
    ap (λ r. without j r ++ joined ps) (sym same) ∙ sym (without_front q (joined ps) j low)
    ∙ ap (λ n. without n (q ++ joined ps)) (sym at)
without_joined (q ∷ ps) (suc i) p j e h =
    let front = joined (take i ps) in
    let at : length (q ++ front) + j ≡ length q + (length front + j) =
    omega (arith, length-append q front) in
    ap (λ r. q ++ r) (without_joined ps i p j e h)
    ∙ sym (without_behind q (joined ps) (length front + j))
    ∙ ap (λ n. without n (q ++ joined ps)) (sym at)

cut_out : {X : Type 0} (p : List X) (j : ℕ) → j < length p
    → take j p ++ drop (j + 1) p ≡ without j p
cut_out [] j h = absurd (omega arith)
cut_out (x ∷ p) zero h = refl
cut_out (x ∷ p) (suc j) h =
    let e : suc j + 1 ≡ suc (j + 1) = omega arith in
    ap (λ n. x ∷ (take j p ++ drop n (x ∷ p))) e ∙ ap (λ r. x ∷ r) (cut_out p j (omega arith))

-- an empty piece may go
pub joined_without : {X : Type 0} (ps : List (List X)) (i : ℕ) → slice_get ps i ≡ Some []
    → joined (without i ps) ≡ joined ps
joined_without [] i e = cc
joined_without (q ∷ ps) zero e = let same : q ≡ [] = cc in ap (λ r. r ++ joined ps) (sym same)
joined_without (q ∷ ps) (suc i) e = ap (λ r. q ++ r) (joined_without ps i e)

pub without_length : {X : Type 0} (xs : List X) (j : ℕ) → j < length xs
    → length (without j xs) + 1 ≡ length xs
without_length [] j h = absurd (omega arith)
without_length (x ∷ xs) zero h = omega arith
without_length (x ∷ xs) (suc j) h = omega (arith, without_length xs j (omega arith))

-- ---- for the code

pub get_is : {X : Type 0} (xs : List X) (i : ℕ) (d : X) → i < length xs
    → slice_get xs i ≡ Some (slice_index_or xs i d)
get_is [] i d h = absurd (omega arith)
get_is (x ∷ xs) zero d h = refl
get_is (x ∷ xs) (suc i) d h = get_is xs i d (omega arith)

-- one piece further
pub joined_further : {X : Type 0} (ps : List (List X)) (i : ℕ) (p : List X)
    → slice_get ps i ≡ Some p
    → length (joined (take (i + 1) ps)) ≡ length (joined (take i ps)) + length p
joined_further [] i p e = cc
joined_further (q ∷ ps) zero p e =
    let same : q ≡ p = cc in
    omega (arith, ap length same, length-append q [])
joined_further (q ∷ ps) (suc i) p e =
    let n : suc i + 1 ≡ suc (i + 1) = omega arith in
    let more : length (joined (take (suc i + 1) (q ∷ ps)))
    ≡ length (q ++ joined (take (i + 1) ps)) = ap (λ k. length (joined (take k (q ∷ ps)))) n in
    omega (
      arith,
      more,
      joined_further ps i p e,
      length-append q (joined (take (i + 1) ps)),
      length-append q (joined (take i ps)),
    )

pub take_whole : {X : Type 0} (xs : List X) (n : ℕ) → length xs ≤ n → take n xs ≡ xs
take_whole [] zero h = refl
take_whole [] (suc n) h = refl
take_whole (x ∷ xs) zero h = absurd (omega arith)
take_whole (x ∷ xs) (suc n) h = ap (λ r. x ∷ r) (take_whole xs n (omega arith))

pub on_some : {X P : Type 0} (o : Option X) → IsSome o → OnSome o P → P
on_some None some h = absurd (let e : false ≡ true = some in cc)
on_some (Some x) some h = h

-- one member is taken out
pub removed : {X : Type 0} (xs : List X) (i : ℕ) (new : List X) → i < length xs
    → new ≡ take i xs ++ drop (suc i) xs → new ≡ without i xs
removed xs i new low is =
    let e : suc i ≡ i + 1 = omega arith in
    is ∙ ap (λ n. take i xs ++ drop n xs) e ∙ cut_out xs i low

pub pushed : {A E X : Type 0} (r : Result A E) (new more old : List X)
    → new ≡ (if is_ok r then more else old) → IsOk r → new ≡ more
pushed (Ok x) new more old e h = e
pushed (Err x) new more old e h = absurd (cc)

pub kept_out : {X : Type 0} (ps : List (List X)) (place i j : ℕ) (at : IsPlace ps place i j)
    (n : List X) → n ≡ without j at.members
    → joined (slice_set ps i n) ≡ without place (joined ps)
kept_out ps place i j at n e =
    ap (λ r. joined (slice_set ps i r)) e
    ∙ without_joined ps i at.members j at.is at.below
    ∙ ap (λ k. without k (joined ps)) (sym at.place_is)

pub get_set : {X : Type 0} (xs : List X) (i : ℕ) (x : X) → i < length xs
    → slice_get (slice_set xs i x) i ≡ Some x
get_set [] i x h = absurd (omega arith)
get_set (y ∷ xs) zero x h = refl
get_set (y ∷ xs) (suc i) x h = get_set xs i x (omega arith)

pub low_some : {X : Type 0} (xs : List X) (i : ℕ) (x : X) → slice_get xs i ≡ Some x → i < length xs
low_some [] i x e = cc
low_some (y ∷ xs) zero x e = omega arith
low_some (y ∷ xs) (suc i) x e = omega (arith, low_some xs i x e)

-- ---- the search for a place

pub place_none : {X : Type 0} (ps : List (List X)) (place rest i : ℕ)
    → rest + length (joined (take i ps)) ≡ place → length ps ≤ i → place < length (joined ps) → ⊥
place_none ps place rest i sum high low =
    let all : length (joined (take i ps)) ≡ length (joined ps) =
    ap (λ qs. length (joined qs)) (take_whole ps i high) in
    absurd (omega arith)
