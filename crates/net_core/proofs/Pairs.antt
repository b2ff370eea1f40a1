-- Packets that are handed out, each with the site that sent it.
use Rattle.std.proofs.Common.{◌≡◌, ℕ, suc, ◌+◌, ◌-◌, ◌<◌, ◌≤◌, List, [], ◌∷◌, ◌++◌, map, length}
use Rattle.std.proofs.Common.{drop, replicate, refl, sym, ap, ◌∙◌, arith}
use Rattle.std.specs.Prelude.{slice_set, slice_index_or}
use Rattle.chem_model.specs.Each.{Each}
use Rattle.wire_packet.specs.declared.packet.Flight.{Flight}
use Rattle.net_core.specs.declared.drained.FlightFrom.{FlightFrom}
use Rattle.net_core.specs.declared.senders.Run.{Run}
use Rattle.net_core.specs.Parts.{carried, all_carried, IsMessageFlight}
use Rattle.net_core.specs.inside.Pairing.{paired}
use Rattle.net_core.specs.inside.Runs.{spread}

-- ---- packets and their sites

pub paired_carried : (fs : List Flight) (ns : List ℕ) → length fs ≡ length ns
    → map (λ (x : FlightFrom). carried x.flight) (paired fs ns) ≡ all_carried fs
paired_carried [] ns e = refl
paired_carried (f ∷ fs) [] e = absurd (omega arith)
paired_carried (f ∷ fs) (n ∷ ns) e = ap (λ ps. carried f ∷ ps) (paired_carried fs ns (omega arith))

pub paired_froms : (fs : List Flight) (ns : List ℕ) → length fs ≡ length ns
    → map (λ (x : FlightFrom). x.from) (paired fs ns) ≡ ns
paired_froms [] [] e = refl
paired_froms [] (n ∷ ns) e = absurd (omega arith)
paired_froms (f ∷ fs) [] e = absurd (omega arith)
paired_froms (f ∷ fs) (n ∷ ns) e = ap (λ xs. n ∷ xs) (paired_froms fs ns (omega arith))

pub paired_spelled : (fs : List Flight) (ns : List ℕ) → Each IsMessageFlight fs
    → Each (λ (x : FlightFrom). IsMessageFlight x.flight) (paired fs ns)
paired_spelled [] ns h = tt
paired_spelled (f ∷ fs) [] h = tt
paired_spelled (f ∷ fs) (n ∷ ns) h = (h.0, paired_spelled fs ns h.1)

pub next_of : (fs gs : List Flight) (ns ms : List ℕ) (f : Flight) (n : ℕ) → fs ≡ f ∷ gs
    → ns ≡ n ∷ ms → paired fs ns ≡ record { from = n; flight = f } ∷ paired gs ms
next_of fs gs ns ms f n a b = λ i. paired (a i) (b i)

-- ---- the first run

-- it has one packet less
pub run_taken : (runs : List Run) (r m : Run) → 0 < length runs → r ≡ slice_index_or runs 0 r
    → m ≡ slice_index_or runs 0 m → 0 < r.count
    → spread runs
    ≡ r.from ∷ spread (slice_set runs 0 (record { from = m.from; count = m.count - 1 }))
run_taken [] r m low is also some = absurd (omega arith)
run_taken (x ∷ runs) r m low is also some =
    let one : x.count ≡ suc (x.count - 1) = omega (arith, some, ap (λ (y : Run). y.count) is) in
    ap (λ (n : ℕ). replicate n x.from ++ spread runs) one
    ∙ (λ i. (sym is i).from
    ∷ (replicate ((sym also i).count - 1) (sym also i).from ++ spread runs))

-- and goes where it has none
pub run_dropped : (runs : List Run) (r : Run) → 0 < length runs → r ≡ slice_index_or runs 0 r
    → r.count ≤ 0 → spread (drop 1 runs) ≡ spread runs
run_dropped [] r low is none = absurd (omega arith)
run_dropped (x ∷ runs) r low is none =
    let zero_left : 0 ≡ x.count = omega (arith, none, ap (λ (y : Run). y.count) is) in
    ap (λ (n : ℕ). replicate n x.from ++ spread runs) zero_left

pub one_left : {X : Type 0} (xs ys : List X) (n count : ℕ) → 0 < length xs → ys ≡ drop 1 xs
    → length xs + count ≡ n → length ys + (count + 1) ≡ n
one_left [] ys n count low is left = absurd (omega arith)
one_left (x ∷ xs) ys n count low is left = omega (arith, ap length is, left)

pub none_left : {X : Type 0} (xs : List X) → length xs ≡ 0 → xs ≡ []
none_left [] e = refl
none_left (x ∷ xs) e = absurd (omega arith)
