-- Runs of packets of one site: one run more, the run of a packet, and one packet less.
use Rattle.std.proofs.Common.{◌≡◌, ℕ, zero, suc, ◌+◌, ◌-◌, ◌<◌, ◌≤◌, List, [], ◌∷◌, ◌++◌, length}
use Rattle.std.proofs.Common.{take, replicate, Some, slice_get, get_or, refl, sym, ap, ◌∙◌}
use Rattle.std.proofs.Common.{arith}
use Rattle.std.specs.Prelude.{slice_set}
use Rattle.std.proofs.lemmas.List.{length-replicate}
use Rattle.net_core.specs.declared.choice.Choice.{Choice}
use Rattle.net_core.specs.declared.choice.Choice.TheVariants as choice
use Rattle.net_core.specs.declared.senders.Run.{Run}
use Rattle.net_core.specs.Parts.{joined, without}
use Rattle.net_core.specs.Senders.{kept}
use Rattle.net_core.specs.inside.Pieces.{IsPlace}
use Rattle.net_core.specs.inside.Runs.{in_runs, spread}
use Rattle.net_core.proofs.Members.{joined_more, joined_without, joined_further, without_length}
use Rattle.net_core.proofs.Members.{kept_out, get_is, get_set, low_some, place_none}

-- ---- runs as pieces

runs_append : (xs ys : List Run) → in_runs (xs ++ ys) ≡ in_runs xs ++ in_runs ys
runs_append [] ys = refl
runs_append (x ∷ xs) ys = ap (λ ps. replicate x.count x.from ∷ ps) (runs_append xs ys)

pub runs_length : (runs : List Run) → length (in_runs runs) ≡ length runs
runs_length [] = refl
runs_length (r ∷ runs) = ap suc (runs_length runs)

pub runs_get : (runs : List Run) (i : ℕ) (r : Run) → slice_get runs i ≡ Some r
    → slice_get (in_runs runs) i ≡ Some (replicate r.count r.from)
runs_get [] i r e = cc
runs_get (x ∷ runs) zero r e =
    let same : x ≡ r = cc in
    ap (λ (y : Run). Some (replicate y.count y.from)) same
runs_get (x ∷ runs) (suc i) r e = runs_get runs i r e

pub runs_set : (runs : List Run) (i : ℕ) (r : Run)
    → in_runs (slice_set runs i r) ≡ slice_set (in_runs runs) i (replicate r.count r.from)
runs_set [] i r = refl
runs_set (x ∷ runs) zero r = refl
runs_set (x ∷ runs) (suc i) r = ap (λ ps. replicate x.count x.from ∷ ps) (runs_set runs i r)

runs_without : (runs : List Run) (i : ℕ) → in_runs (without i runs) ≡ without i (in_runs runs)
runs_without [] i = refl
runs_without (x ∷ runs) zero = refl
runs_without (x ∷ runs) (suc i) = ap (λ ps. replicate x.count x.from ∷ ps) (runs_without runs i)

-- one run more
pub spread_more : (runs : List Run) (r : Run)
    → spread (runs ++ r ∷ []) ≡ spread runs ++ replicate r.count r.from
spread_more runs r =
    ap joined (runs_append runs (r ∷ [])) ∙ joined_more (in_runs runs) (replicate r.count r.from)

-- ---- the run of a packet

run_at : (runs : List Run) (i : ℕ) (d : Run) → i < length runs
    → slice_get (in_runs runs) i ≡ Some (replicate (get_or runs i d).count (get_or runs i d).from)
run_at runs i d low = runs_get runs i (get_or runs i d) (get_is runs i d low)

pub run_step : (runs : List Run) (place rest i : ℕ) (d : Run)
    → rest + length (joined (take i (in_runs runs))) ≡ place → i < length runs
    → (get_or runs i d).count ≤ rest
    → (rest - (get_or runs i d).count) + length (joined (take (i + 1) (in_runs runs))) ≡ place
run_step runs place rest i d sum low le =
    let r = get_or runs i d in
    omega (
      arith,
      joined_further (in_runs runs) i (replicate r.count r.from) (run_at runs i d low),
      length-replicate r.count r.from,
    )

pub run_found : (runs : List Run) (place rest i : ℕ) (d : Run)
    → rest + length (joined (take i (in_runs runs))) ≡ place → i < length runs
    → rest < (get_or runs i d).count → IsPlace (in_runs runs) place i rest
run_found runs place rest i d sum low lt =
    let r = get_or runs i d in
    record {
      members = replicate r.count r.from;
      is = run_at runs i d low;
      below = omega (arith, lt, length-replicate r.count r.from);
      place_is = omega arith;
    }

pub run_none : (runs : List Run) (place rest i : ℕ)
    → rest + length (joined (take i (in_runs runs))) ≡ place → length runs ≤ i
    → place < length (spread runs) → ⊥
run_none runs place rest i sum high low =
    place_none (in_runs runs) place rest i sum (omega (arith, high, runs_length runs)) low

-- ---- one packet less

one_less : (n j x : ℕ) → j < n → replicate (n - 1) x ≡ without j (replicate n x)
one_less zero j x h = absurd (omega arith)
one_less (suc n) zero x h = ap (λ (k : ℕ). replicate k x) (let e : suc n - 1 ≡ n = omega arith in e)
one_less (suc n) (suc j) x h =
    ap (λ (k : ℕ). replicate k x) (let e : suc n - 1 ≡ suc (n - 1) = omega arith in e)
    ∙ ap (λ xs. x ∷ xs) (one_less n j x (omega arith))

pub run_low : (runs : List Run) (place i j : ℕ) → IsPlace (in_runs runs) place i j → i < length runs
run_low runs place i j at =
    omega (arith, low_some (in_runs runs) i at.members at.is, runs_length runs)

module _ (runs : List Run) (place i j : ℕ) (at : IsPlace (in_runs runs) place i j) (r : Run)
    (is : r ≡ get_or runs i r) where
  low : i < length runs
  low = run_low runs place i j at

  members_are : at.members ≡ replicate r.count r.from
  members_are =
      let here : slice_get (in_runs runs) i ≡ Some (replicate r.count r.from) =
      runs_get runs i r (get_is runs i r low ∙ ap (λ (x : Run). Some x) (sym is)) in
      let both : Some at.members ≡ Some (replicate r.count r.from) = sym at.is ∙ here in
      cc

  pub below_count : j < r.count
  below_count = omega (arith, at.below, ap length members_are, length-replicate r.count r.from)

  left : replicate (r.count - 1) r.from ≡ without j at.members
  left = one_less r.count j r.from below_count ∙ ap (without j) (sym members_are)

  pub lowered :
      spread (slice_set runs i (record { from = r.from; count = r.count - 1 }))
      ≡ without place (spread runs)
  lowered = ap joined (runs_set runs i (record { from = r.from; count = r.count - 1 }))
      ∙ kept_out (in_runs runs) place i j at (replicate (r.count - 1) r.from) left

  -- the run goes where it had one packet alone
  pub emptied : r.count ≡ 1 → (new : List Run) → new ≡ without i runs
      → spread new ≡ without place (spread runs)
  emptied one new cut =
      let none : replicate (r.count - 1) r.from ≡ [] =
      ap (λ (n : ℕ). replicate (n - 1) r.from) one in
      let empty : slice_get (slice_set (in_runs runs) i []) i ≡ Some [] =
      get_set (in_runs runs) i [] (low_some (in_runs runs) i at.members at.is) in
      ap spread cut
      ∙ ap joined (runs_without runs i ∙ sym (without_set (in_runs runs) i))
      ∙ joined_without (slice_set (in_runs runs) i []) i empty
      ∙ kept_out (in_runs runs) place i j at [] (sym none ∙ left)
    where
      without_set : (ps : List (List ℕ)) (k : ℕ) → without k (slice_set ps k []) ≡ without k ps
      without_set [] k = refl
      without_set (p ∷ ps) zero = refl
      without_set (p ∷ ps) (suc k) = ap (λ qs. p ∷ qs) (without_set ps k)

-- ---- what a choice keeps

pub kept_all : {X : Type 0} (x : Choice) (xs : List X) → ((f : ℕ) → x ≡ choice.Deliver f → ⊥)
    → kept x xs ≡ xs
kept_all (choice.React i p) xs other = refl
kept_all (choice.Deliver f) xs other = absurd (other f refl)
kept_all (choice.Move a) xs other = refl
kept_all (choice.Halt a) xs other = refl
kept_all (choice.Detect a) xs other = refl

pub kept_delivered : {X : Type 0} (x : Choice) (f : ℕ) (xs : List X) → x ≡ choice.Deliver f
    → kept x xs ≡ without f xs
kept_delivered x f xs is = ap (λ (y : Choice). kept y xs) is

pub kept_counted : {X : Type 0} (x : Choice) (f : ℕ) (xs : List X) → x ≡ choice.Deliver f
    → f < length xs → length (kept x xs) + 1 ≡ length xs
kept_counted x f xs is low =
    ap (λ (ys : List _). length ys + 1) (kept_delivered x f xs is) ∙ without_length xs f low

-- beside lists of as many members
pub kept_alike : {X Y : Type 0} (x : Choice) (xs : List X) (ys : List Y) → length xs ≡ length ys
    → length (kept x xs) ≡ length (kept x ys)
kept_alike (choice.React i p) xs ys e = e
kept_alike (choice.Deliver f) xs ys e = go f xs ys e
  where
    go : {X Y : Type 0} (f : ℕ) (xs : List X) (ys : List Y) → length xs ≡ length ys
        → length (without f xs) ≡ length (without f ys)
    go f [] [] e = refl
    go f [] (y ∷ ys) e = absurd (omega arith)
    go f (x ∷ xs) [] e = absurd (omega arith)
    go zero (x ∷ xs) (y ∷ ys) e = omega arith
    go (suc f) (x ∷ xs) (y ∷ ys) e = ap suc (go f xs ys (omega arith))
kept_alike (choice.Move a) xs ys e = e
kept_alike (choice.Halt a) xs ys e = e
kept_alike (choice.Detect a) xs ys e = e
