-- Where a group stands, by its serial.
use Rattle.std.proofs.Common.{◌≡◌, ℕ, zero, suc, ◌+◌, ◌-◌, ◌<◌, ◌≤◌, Bool, true, false, cond, List}
use Rattle.std.proofs.Common.{[], ◌∷◌, ◌++◌, length, get_or, Option, Some, None, refl, sym, ap, ◌∙◌}
use Rattle.std.proofs.Common.{arith}
use Rattle.std.specs.Prelude.{nat_lt}
use Rattle.std.proofs.lemmas.Bool.Decides.{nat_tests}
use Rattle.chem_model.specs.declared.name.Loc.{Loc}
use Rattle.net_laws.specs.Site.{Told}
use Rattle.site_shelves.specs.declared.told.Spot.{Spot}
use Rattle.site_shelves.specs.declared.told.Mark.{Mark}
use Rattle.site_shelves.specs.inside.Index.{has_channel, locate_from, locate, mark_in, Rise}
use Rattle.site_shelves.specs.inside.Index.{place_of}

lt-same : (n : ℕ) → nat_lt n n ≡ false
lt-same n = grind (arith, nat_tests)

lt-true : (m n : ℕ) → m < n → nat_lt m n ≡ true
lt-true m n less = grind (arith, nat_tests)

lt-false : (m n : ℕ) → n ≤ m → nat_lt m n ≡ false
lt-false m n more = grind (arith, nat_tests)

-- ---- binary search

Rise-at : (least : ℕ) (ss : List ℕ) (next i d : ℕ) → Rise least ss next → i < length ss
    → least ≤ get_or ss i d
Rise-at least [] next i d rise within = absurd (omega arith)
Rise-at least (s ∷ ss) next zero d rise within = rise.0
Rise-at least (s ∷ ss) next (suc i) d rise within =
    omega (arith, Rise-at (suc s) ss next i d rise.1 (omega arith), rise.0)

pub place-above : (n least : ℕ) (ss : List ℕ) (next i d : ℕ) → Rise least ss next → i < length ss
    → get_or ss i d < n → i < place_of n ss
place-above n least [] next i d rise within less = absurd (omega arith)
place-above n least (s ∷ ss) next zero d rise within less = rw (lt-true s n less) (omega arith)
place-above n least (s ∷ ss) next (suc i) d rise within less =
    let first : s < n = omega (arith, Rise-at (suc s) ss next i d rise.1 (omega arith)) in
    let rest = place-above n (suc s) ss next i d rise.1 (omega arith) less in
    rw (lt-true s n first) (omega arith)

pub place-below : (n : ℕ) (ss : List ℕ) (i d : ℕ) → i < length ss → n ≤ get_or ss i d
    → place_of n ss ≤ i
place-below n [] i d within more = absurd (omega arith)
place-below n (s ∷ ss) zero d within more = rw (lt-false s n more) (omega arith)
place-below n (s ∷ ss) (suc i) d within more =
    by_test (nat_lt s n) (place-below n ss i d (omega arith) more)
  where
    by_test : (b : Bool) → place_of n ss ≤ i → cond b (suc (place_of n ss)) 0 ≤ suc i
    by_test true rest = omega arith
    by_test false rest = omega arith

pub place-within : (n : ℕ) (ss : List ℕ) → place_of n ss ≤ length ss
place-within n [] = omega arith
place-within n (s ∷ ss) = by_test (nat_lt s n) (place-within n ss)
  where
    by_test : (b : Bool) → place_of n ss ≤ length ss
        → cond b (suc (place_of n ss)) 0 ≤ suc (length ss)
    by_test true rest = omega arith
    by_test false rest = omega arith

-- ---- a mark leads to the group

mark-above :
    (least : ℕ) (ss : List ℕ) (next : ℕ) (ds : List Told) (site k : ℕ) (home : Loc) (m : Mark)
    → Rise least ss next → mark_in ss ds site k home ≡ Some m → least ≤ m.serial
mark-above least [] next ds site k home m rise is = absurd (cc)
mark-above least (s ∷ ss) next [] site k home m rise is = absurd (cc)
mark-above least (s ∷ ss) next (d ∷ ds) site k home m rise is =
    by_test (has_channel d site k home) is (mark-above (suc s) ss next ds site k home m rise.1)
  where
    by_test : (b : Bool)
        → cond b (Some (record { serial = s; chan = k - d.inst.chans.k }))
        (mark_in ss ds site k home) ≡ Some m
        → (mark_in ss ds site k home ≡ Some m → suc s ≤ m.serial) → least ≤ m.serial
    by_test true e later =
        let same : record { serial = s; chan = k - d.inst.chans.k } ≡ m = cc in
        omega (arith, rise.0, ap (λ (u : Mark). u.serial) same)
    by_test false e later = omega (arith, rise.0, later e)

-- where the mark leads, the serials being those from group number n on
abbrev pub spot_from : ℕ → List ℕ → Option Mark → Option Spot
spot_from n ss None = None
spot_from n ss (Some m) = Some (record { group = n + place_of m.serial ss; chan = m.chan })

spot-later : (n s : ℕ) (ss : List ℕ) (o : Option Mark)
    → ((m : Mark) → o ≡ Some m → suc s ≤ m.serial) → spot_from n (s ∷ ss) o ≡ spot_from (n + 1) ss o
spot-later n s ss None above = refl
spot-later n s ss (Some m) above =
    let test = lt-true s m.serial (above m refl) in
    let place : n + place_of m.serial (s ∷ ss) ≡ n + 1 + place_of m.serial ss =
    rw test (omega arith) in
    ap (λ g. Some (record { group = g; chan = m.chan })) place

spot-located : (n least : ℕ) (ss : List ℕ) (next : ℕ) (ds : List Told) (site k : ℕ) (home : Loc)
    → Rise least ss next → length ss ≡ length ds
    → spot_from n ss (mark_in ss ds site k home) ≡ locate_from n ds site k home
spot-located n least [] next [] site k home rise many = refl
spot-located n least [] next (d ∷ ds) site k home rise many = absurd (omega arith)
spot-located n least (s ∷ ss) next [] site k home rise many = absurd (omega arith)
spot-located n least (s ∷ ss) next (d ∷ ds) site k home rise many =
    by_test (has_channel d site k home)
    (spot-located (n + 1) (suc s) ss next ds site k home rise.1 (omega arith))
  where
    first :
        spot_from n (s ∷ ss) (Some (record { serial = s; chan = k - d.inst.chans.k }))
        ≡ Some (record { group = n; chan = k - d.inst.chans.k })
    first =
        let place : n + place_of s (s ∷ ss) ≡ n = rw (lt-same s) (omega arith) in
        ap (λ g. Some (record { group = g; chan = k - d.inst.chans.k })) place

    by_test : (b : Bool)
        → spot_from (n + 1) ss (mark_in ss ds site k home) ≡ locate_from (n + 1) ds site k home
        → spot_from n (s ∷ ss) (cond b (Some (record { serial = s; chan = k - d.inst.chans.k }))
        (mark_in ss ds site k home))
        ≡ cond b (Some (record { group = n; chan = k - d.inst.chans.k }))
        (locate_from (n + 1) ds site k home)
    by_test true later = first
    by_test false later = spot-later n s ss (mark_in ss ds site k home)
        (λ m is. mark-above (suc s) ss next ds site k home m rise.1 is) ∙ later

-- a mark, and where it leads
pub located-at : (ss : List ℕ) (next : ℕ) (ds : List Told) (site k : ℕ) (home : Loc) (m : Mark)
    → Rise 0 ss next → length ss ≡ length ds → mark_in ss ds site k home ≡ Some m
    → locate ds site k home ≡ Some (record { group = place_of m.serial ss; chan = m.chan })
located-at ss next ds site k home m rise many is =
    let zero_more : 0 + place_of m.serial ss ≡ place_of m.serial ss = omega arith in
    sym (spot-located 0 0 ss next ds site k home rise many) ∙ ap (spot_from 0 ss) is
    ∙ ap (λ g. Some (record { group = g; chan = m.chan })) zero_more

pub located-none : (ss : List ℕ) (next : ℕ) (ds : List Told) (site k : ℕ) (home : Loc)
    → Rise 0 ss next → length ss ≡ length ds → mark_in ss ds site k home ≡ None
    → locate ds site k home ≡ None
located-none ss next ds site k home rise many is =
    sym (spot-located 0 0 ss next ds site k home rise many) ∙ ap (spot_from 0 ss) is

pub mark-none : (ss : List ℕ) (next : ℕ) (ds : List Told) (site k : ℕ) (home : Loc) → Rise 0 ss next
    → length ss ≡ length ds → locate ds site k home ≡ None → mark_in ss ds site k home ≡ None
mark-none ss next ds site k home rise many none = go (mark_in ss ds site k home) refl
  where
    go : (o : Option Mark) → mark_in ss ds site k home ≡ o → o ≡ None
    go None is = refl
    go (Some m) is = absurd (let some = located-at ss next ds site k home m rise many is in cc)

-- ---- a group more

pub mark-push : (ss : List ℕ) (ds : List Told) (s : ℕ) (d : Told) (site k : ℕ) (home : Loc)
    → length ss ≡ length ds → (has_channel d site k home ≡ true → mark_in ss ds site k home ≡ None)
    → mark_in (ss ++ s ∷ []) (ds ++ d ∷ []) site k home
    ≡ cond (has_channel d site k home) (Some (record { serial = s; chan = k - d.inst.chans.k }))
    (mark_in ss ds site k home)
mark-push [] [] s d site k home many absent = refl
mark-push [] (x ∷ ds) s d site k home many absent = absurd (omega arith)
mark-push (r ∷ ss) [] s d site k home many absent = absurd (omega arith)
mark-push (r ∷ ss) (x ∷ ds) s d site k home many absent = by_test (has_channel x site k home)
    (has_channel d site k home) refl absent (mark-push ss ds s d site k home (omega arith))
  where
    by_test : (b t : Bool) → has_channel d site k home ≡ t
        → (t ≡ true
        → cond b (Some (record { serial = r; chan = k - x.inst.chans.k }))
        (mark_in ss ds site k home) ≡ None)
        → ((t ≡ true → mark_in ss ds site k home ≡ None)
        → mark_in (ss ++ s ∷ []) (ds ++ d ∷ []) site k home
        ≡ cond t (Some (record { serial = s; chan = k - d.inst.chans.k }))
        (mark_in ss ds site k home))
        → cond b (Some (record { serial = r; chan = k - x.inst.chans.k }))
        (mark_in (ss ++ s ∷ []) (ds ++ d ∷ []) site k home)
        ≡ cond t (Some (record { serial = s; chan = k - d.inst.chans.k })) (cond b
        (Some (record { serial = r; chan = k - x.inst.chans.k })) (mark_in ss ds site k home))
    by_test true true has none rest = absurd (let f = none refl in cc)
    by_test true false has none rest = refl
    by_test false true has none rest = rest none
    by_test false false has none rest = rest none

pub Rise-push : (least : ℕ) (ss : List ℕ) (next : ℕ) → Rise least ss next
    → Rise least (ss ++ next ∷ []) (next + 1)
Rise-push least [] next rise = (rise, omega arith)
Rise-push least (s ∷ ss) next rise = (rise.0, Rise-push (suc s) ss next rise.1)
