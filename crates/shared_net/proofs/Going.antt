-- What the walk over the passes has come to: what is said of the passes that are left makes it hold
-- of all.
use Rattle.std.proofs.Common.{◌≡◌, ◌≢◌, ℕ, ◌+◌, ◌<◌, ◌≤◌, List, [], ◌∷◌, ◌++◌, length, get_or, ◌⊎◌}
use Rattle.std.proofs.Common.{inl, inr, Bool, true, false, cond, ◌||◌, ◌==◌, refl, sym, ap, ◌∙◌}
use Rattle.std.proofs.Common.{subst, arith, Option, Some, None, slice_get}
use Rattle.std.specs.Prelude.{replicate}
use Rattle.std.proofs.lemmas.Bool.Decides.{nat_tests}
use Rattle.chem_model.specs.Each.{Each}
use Rattle.chem_model.specs.declared.event.Event.{Event}
use Rattle.chem_laws.proofs.Lists.{Each-append, Each-weaker}
use Rattle.shared_net.specs.declared.receipt.Receipt.{Receipt}
use Rattle.shared_net.specs.declared.report.Worked.{Worked}
use Rattle.shared_net.specs.declared.differs.Differs.{Differs}
use Rattle.shared_net.specs.declared.differs.Differs.TheVariants as cause
use Rattle.shared_net.specs.Passes.{Rise}
use Rattle.shared_net.specs.Agrees.{all_receipts, times_at, Stands, Agrees}
use Rattle.shared_net.specs.Causes.{OneOf, HasPlace, HasReceipt, IsHolder, DifferInNumber, IsCause}
use Rattle.shared_net.specs.Causes.{IsShownBy}
use Rattle.shared_net.specs.inside.Walk.{slot_at, has_place, IsFresh, IsStale, Marks}
use Rattle.shared_net.proofs.Members.{OneOf-at, OneOf-weaker, OneOf-gives}
use Rattle.shared_net.proofs.Slots.{slot-free}

-- 1 for a slot that is filled
abbrev pub filled : Option ℕ → ℕ
filled None = 0
filled (Some number) = 1

-- a filled slot is that of a worker whose pass had its turn and has the place
pub record IsGoing (journal : List Event) (whole rest : List Worked)
    (slots : List (Option ℕ)) : Type 0 where
  pub long : length slots ≡ length journal
  pub stands : Each (Stands journal) (all_receipts rest)
      → Each (Stands journal) (all_receipts whole)
  pub once : ((k : ℕ) → filled (slot_at slots k) + times_at k (all_receipts rest) ≤ 1) → (k : ℕ)
      → times_at k (all_receipts whole) ≤ 1
  pub owners : (k f : ℕ) → slot_at slots k ≡ Some f
      → IsHolder f k whole × Each (λ w. w.number ≢ f) rest
  pub apart : DifferInNumber rest

pub times-append : (k : ℕ) (rs ss : List Receipt)
    → times_at k (rs ++ ss) ≡ times_at k rs + times_at k ss
times-append k [] ss = omega arith
times-append k (r ∷ rs) ss = omega (arith, times-append k rs ss)

-- no place of receipts that rise from `least` is below it
times-below : (k least budget : ℕ) (rs : List Receipt) → Rise least budget rs → k < least
    → times_at k rs ≡ 0
times-below k least budget [] rises l = refl
times-below k least budget (r ∷ rs) rises l =
    let rest = times-below k (r.place + 1) budget rs rises.2 (omega arith) in
    let h = rises.0 in
    grind (arith, nat_tests, rest)

counts : (e : Bool) (r k rest : ℕ) (h : Bool) → (r == k) ≡ e → (e ≡ true → rest ≡ 0)
    → rest ≡ cond h 1 0 → cond e 1 0 + rest ≡ cond (e || h) 1 0
counts true r k rest h is none one = omega (arith, none refl)
counts false r k rest h is none one = omega (arith, one)

-- places that rise occur once
times-rise : (k least budget : ℕ) (rs : List Receipt) → Rise least budget rs
    → times_at k rs ≡ cond (has_place k rs) 1 0
times-rise k least budget [] rises = refl
times-rise k least budget (r ∷ rs) rises =
    let none : (r.place == k) ≡ true → times_at k rs ≡ 0 =
    λ is. times-below k (r.place + 1) budget rs
    rises.2 (let same : r.place ≡ k = grind (arith, nat_tests) in omega arith) in
    counts (r.place == k) r.place k (times_at k rs) (has_place k rs) refl none
    (times-rise k (r.place + 1) budget rs rises.2)

-- the slot of a fresh receipt is free
free : (journal : List Event) (slots : List (Option ℕ)) (k : ℕ) (rs : List Receipt)
    → Each (IsFresh journal slots) rs → has_place k rs ≡ true → slot_at slots k ≡ None
free journal slots k [] fresh has = cc
free journal slots k (r ∷ rs) fresh has =
    split (r.place == k) refl has (free journal slots k rs fresh.1)
  where
    split : (e : Bool) → (r.place == k) ≡ e → (e || has_place k rs) ≡ true
        → (has_place k rs ≡ true → slot_at slots k ≡ None) → slot_at slots k ≡ None
    split true is h later =
        let same : r.place ≡ k = grind (arith, nat_tests) in
        subst (λ (p : ℕ). slot_at slots p ≡ None) same fresh.0.1
    split false is h later = later h

has_is : (k : ℕ) (rs : List Receipt) → has_place k rs ≡ true → OneOf (λ r. r.place ≡ k) rs
has_is k [] has = cc
has_is k (r ∷ rs) has = split (r.place == k) refl has (has_is k rs)
  where
    split : (e : Bool) → (r.place == k) ≡ e → (e || has_place k rs) ≡ true
        → (has_place k rs ≡ true → OneOf (λ r. r.place ≡ k) rs)
        → (r.place ≡ k) ⊎ OneOf (λ r. r.place ≡ k) rs
    split true is h later = let same : r.place ≡ k = grind (arith, nat_tests) in inl same
    split false is h later = inr (later h)

pub starts : (journal : List Event) (whole : List Worked) (slots : List (Option ℕ))
    → slots ≡ replicate (length journal) None → length slots ≡ length journal → DifferInNumber whole
    → IsGoing journal whole whole slots
starts journal whole slots is long apart = record {
  long = long;
  stands = λ s. s;
  once = λ h k. (let none : slot_at slots k ≡ None =
      ap (λ (s : List (Option ℕ)). slot_at s k) is ∙ slot-free (length journal) k in
      omega (arith, h k, ap filled none));
  owners = λ k f some. (let none : slot_at slots k ≡ None =
      ap (λ (s : List (Option ℕ)). slot_at s k) is ∙ slot-free (length journal) k in absurd cc);
  apart = apart;
}

-- what one pass adds to the count of a place
adds : (old : Option ℕ) (has : Bool) (number : ℕ) → (has ≡ true → old ≡ None)
    → filled old + cond has 1 0 ≡ filled (cond has (Some number) old)
adds old true number free = omega (arith, ap filled (free refl))
adds old false number free = omega arith

-- all receipts of a worker were fresh, and their slots are filled
pub goes :
    (journal : List Event) (whole : List Worked) (w : Worked) (rest : List Worked)
    (slots new : List (Option ℕ)) (budget : ℕ)
    → IsGoing journal whole (w ∷ rest) slots → Each (IsFresh journal slots) w.receipts
    → Rise 0 budget w.receipts → Marks slots w.number w.receipts new → length new ≡ length slots
    → ((k : ℕ) → HasPlace k w → IsHolder w.number k whole) → IsGoing journal whole rest new
goes journal whole w rest slots new budget g fresh rises marks same here = record {
  long = same ∙ g.long;
  stands = λ s. g.stands (Each-append (Stands journal) w.receipts (all_receipts rest)
      (Each-weaker (IsFresh journal slots) (Stands journal) (λ r f. f.0) w.receipts fresh) s);
  once = λ h. g.once (λ k. omega (
    arith,
    h k,
    ap filled (marks k),
    times-append k w.receipts (all_receipts rest),
    times-rise k 0 budget w.receipts rises,
    adds (slot_at slots k) (has_place k w.receipts)
        w.number (free journal slots k w.receipts fresh),
  ));
  owners = λ k f some. owner k f (has_place k w.receipts) refl (sym (marks k) ∙ some);
  apart = g.apart.1;
}
  where
    owner : (k f : ℕ) (has : Bool) → has_place k w.receipts ≡ has
        → cond has (Some w.number) (slot_at slots k) ≡ Some f
        → IsHolder f k whole × Each (λ v. v.number ≢ f) rest
    owner k f true is some =
        let mine : w.number ≡ f = cc in
        subst (λ (n : ℕ). IsHolder n k whole × Each (λ v. v.number ≢ n) rest) mine
        (here k (has_is k w.receipts is), g.apart.0)
    owner k f false is some = let o = g.owners k f some in (o.0, o.1.1)

pub ends : (journal : List Event) (whole : List Worked) (slots : List (Option ℕ))
    → IsGoing journal whole [] slots → Agrees journal (all_receipts whole)
ends journal whole slots g = record {
  stands = g.stands tt;
  once = g.once (λ k. at_most (slot_at slots k));
}
  where
    at_most : (s : Option ℕ) → filled s + 0 ≤ 1
    at_most None = omega arith
    at_most (Some w) = omega arith

-- a receipt of that worker isn't fresh: that is a cause
pub stops :
    (journal : List Event) (whole : List Worked) (w : Worked) (rest : List Worked)
    (slots : List (Option ℕ)) (d : Differs) (i : ℕ)
    → IsGoing journal whole (w ∷ rest) slots → i < length whole → w ≡ get_or whole i w
    → OneOf (λ r. IsStale journal slots w.number r d) w.receipts
    → IsCause whole d × IsShownBy journal d
stops journal whole w rest slots (cause.Event place receipt kept) i g l at stale =
    let P : Receipt → Type 0 =
    λ r. IsStale journal slots w.number r (cause.Event place receipt kept) in
    let mine : HasReceipt (record { place = place; event = receipt }) w = OneOf-weaker P
    (λ r. r ≡ record { place = place; event = receipt }) w.receipts (λ r s. s.0) stale in (
      (
        OneOf-at (HasReceipt (record { place = place; event = receipt })) whole i w l at mine,
        OneOf-gives P w.receipts (kept ≢ receipt) (λ r s. s.2) stale,
      ),
      OneOf-gives P w.receipts (slice_get journal place ≡ Some kept) (λ r s. s.1) stale,
    )
stops journal whole w rest slots (cause.Twice place first second) i g l at stale =
    let P : Receipt → Type 0 =
    λ r. IsStale journal slots w.number r (cause.Twice place first second) in
    let is : second ≡ w.number = OneOf-gives P w.receipts (second ≡ w.number) (λ r s. s.2) stale in
    let some : slot_at slots place ≡ Some first =
    OneOf-gives P w.receipts (slot_at slots place ≡ Some first) (λ r s. s.1) stale in
    let mine : HasPlace place w =
    OneOf-weaker P (λ r. r.place ≡ place) w.receipts (λ r s. s.0) stale in
    let other = g.owners place first some in (
      (
        λ same. other.1.0 (sym is ∙ sym same),
        other.0,
        OneOf-at (λ v. (v.number ≡ second) × HasPlace place v) whole i w l at (sym is, mine),
      ),
      tt,
    )
stops journal whole w rest slots (cause.Past place end) i g l at stale =
    let P : Receipt → Type 0 = λ r. IsStale journal slots w.number r (cause.Past place end) in
    let mine : HasPlace place w =
    OneOf-weaker P (λ r. r.place ≡ place) w.receipts (λ r s. s.0) stale in (
      (
        OneOf-gives P w.receipts (end ≤ place) (λ r s. s.2) stale,
        OneOf-at (HasPlace place) whole i w l at mine,
      ),
      OneOf-gives P w.receipts (end ≡ length journal) (λ r s. s.1) stale,
    )
stops journal whole w rest slots (cause.Program started kept) i g l at stale =
    absurd (OneOf-gives (λ r. IsStale journal slots w.number r (cause.Program started kept))
    w.receipts ⊥ (λ r s. s) stale)
