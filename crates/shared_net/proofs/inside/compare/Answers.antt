-- The walk is going on; it stops at a receipt that isn't fresh, or ends.
use Rattle.std.proofs.Common.{◌≡◌, ℕ, ◌+◌, ◌<◌, List, [], ◌∷◌, length, map, drop, refl, sym, ◌∙◌}
use Rattle.std.proofs.Common.{subst, Some, None, arith, rules}
use Rattle.std.proofs.lemmas.List.{drop_all}
use Rattle.std.proofs.lemmas.Option.{slice_get_within}
use Rattle.chem_model.specs.Each.{Each}
use Rattle.chem_model.specs.declared.event.Event.{Event}
use Rattle.chem_laws.proofs.Lists.{Each-weaker}
use Rattle.shared_net.specs.declared.receipt.Receipt.{Receipt}
use Rattle.shared_net.specs.declared.report.Worked.{Worked}
use Rattle.shared_net.specs.Passes.{PassKept, Rise}
use Rattle.shared_net.specs.Agrees.{row_of, all_receipts, Agrees}
use Rattle.shared_net.specs.Causes.{IsCause, HasPlace, DifferInNumber}
use Rattle.shared_net.specs.Causes.{IsShownBy}
use Rattle.shared_net.specs.inside.Walk.{IsFresh, LooksAll, Marks}
use Rattle.shared_net.proofs.Members.{drop-at, map-at, map-within, OneOf-at}
use Rattle.shared_net.proofs.Going.{IsGoing, starts, goes, ends, stops}
use Rattle.shared_net.proofs.Excludes.{excludes}
use Rattle.shared_net.proofs.inside.compare.Goals as goal

pub returns-in-Some-clause-cause : goal.returns-in-Some-clause-cause
returns-in-Some-clause-cause g c =
    let ps = c.as_slice-pass-items.result.now in
    let i = c.loop-pass.pass-index in
    let p : PassKept = c.pass-item.result in
    let d = c.in-Some.differs in
    let l : i < length ps = c.loop-pass-test.true in
    let journal = c.as_slice-journal.result.now in
    let slots = c.loop-pass.slots.items in
    let rest = map row_of (drop (i + 1) ps) in
    let going : IsGoing journal (map row_of ps) (row_of p ∷ rest) slots =
    rw (drop-at ps i p l c.pass-item.is) at c.loop-pass.invariant in
    let found : LooksAll journal slots p.number p.receipts (Some d) = rw (
      ← c.as_slice.ensures.value,
      ← c.number-number.ensures,
      ← c.receipts.ensures.receipts,
      ← c.as_slice-receipts.ensures.members,
    ) (rw c.in-Some.is at c.in_ok-differs.ensures) in
    let all = stops journal (map row_of ps) (row_of p) rest slots d i going
    (map-within row_of ps i l) (map-at row_of ps i p l c.pass-item.is) found in
    let same : ps ≡ c.args.passes.now = c.as_slice-pass-items.ensures in
    let book : journal ≡ c.args.locked.now.book.journal = search rules in
    subst
    (λ (xs : List PassKept). IsCause (map row_of xs) d × IsShownBy c.args.locked.now.book.journal d)
    same (subst (λ (j : List Event). IsCause (map row_of ps) d × IsShownBy j d) book all)

pub returns-in-Some-clause-exact : goal.returns-in-Some-clause-exact
returns-in-Some-clause-exact g c =
    let cause = returns-in-Some-clause-cause g c in
    λ all. absurd (excludes c.args.locked.now.book.journal (map row_of c.args.passes.now)
    c.in-Some.differs cause.0 cause.1 all)

pub mark-requires : goal.mark-requires
mark-requires g c =
    let journal = c.as_slice-journal.result.now in
    let slots = c.loop-pass.slots.items in
    let free : LooksAll journal slots c.number-number.result c.as_slice-receipts.result.now None =
    rw (← c.as_slice.ensures.value) (rw c.in_default.is at c.in_ok-differs.ensures) in
    Each-weaker (IsFresh journal slots) (λ (r : Receipt). r.place < length slots)
    (λ (r : Receipt) (f : IsFresh journal slots r).
    (let here = slice_get_within journal r.place r.event f.0 in
    omega (arith, c.loop-pass.invariant.long))) c.as_slice-receipts.result.now free

pub loop-pass-preserved : goal.loop-pass-preserved
loop-pass-preserved g c =
    let ps = c.as_slice-pass-items.result.now in
    let i = c.loop-pass.pass-index in
    let p : PassKept = c.pass-item.result in
    let l : i < length ps = c.loop-pass-test.true in
    let journal = c.as_slice-journal.result.now in
    let slots = c.loop-pass.slots.items in
    let new = c.mark.new.slots.items in
    let rest = map row_of (drop (i + 1) ps) in
    let going : IsGoing journal (map row_of ps) (row_of p ∷ rest) slots =
    rw (drop-at ps i p l c.pass-item.is) at c.loop-pass.invariant in
    let free : LooksAll journal slots c.number-number.result c.as_slice-receipts.result.now None =
    rw (← c.as_slice.ensures.value) (rw c.in_default.is at c.in_ok-differs.ensures) in
    let held : c.as_slice-receipts.result.now ≡ p.receipts =
    c.as_slice-receipts.ensures.members ∙ c.receipts.ensures.receipts in
    let mine : c.number-number.result ≡ p.number = c.number-number.ensures in
    let all_free : Each (IsFresh journal slots) p.receipts =
    subst (λ (rs : List Receipt). Each (IsFresh journal slots) rs) held free in
    let rises : Rise 0 p.budget p.receipts = subst (λ (rs : List Receipt). Rise 0 p.budget rs)
    c.receipts.ensures.receipts c.receipts.ensures.rise in
    let marked : Marks slots p.number p.receipts new =
    subst (λ (n : ℕ). Marks slots n p.receipts new) mine
    (subst (λ (rs : List Receipt). Marks slots c.number-number.result rs new) held
    c.mark.ensures.marks) in
    goes journal (map row_of ps) (row_of p) rest slots new p.budget going all_free rises marked
    c.mark.ensures.length (λ (k : ℕ) (has : HasPlace k (row_of p)).
    OneOf-at (λ (w : Worked). (w.number ≡ p.number) × HasPlace k w) (map row_of ps) i (row_of p)
    (map-within row_of ps i l) (map-at row_of ps i p l c.pass-item.is) (refl, has))

pub loop-pass-init : goal.loop-pass-init
loop-pass-init g c =
    let ps = c.as_slice-pass-items.result.now in
    let journal = c.as_slice-journal.result.now in
    let slots = c.in_ok-slots.slots.items in
    let apart : DifferInNumber (map row_of ps) =
    subst (λ (xs : List PassKept). DifferInNumber (map row_of xs))
    (sym c.as_slice-pass-items.ensures) c.requires in
    starts journal (map row_of ps) slots (search rules) (search rules) apart

pub returns-clause-cause : goal.returns-clause-cause
returns-clause-cause g c =
    let ps = c.as_slice-pass-items.result.now in
    let journal = c.as_slice-journal.result.now in
    let slots = c.loop-pass.slots.items in
    let none : drop c.loop-pass.pass-index ps ≡ [] =
    drop_all c.loop-pass.pass-index ps c.loop-pass-test.false in
    let going : IsGoing journal (map row_of ps) [] slots =
    subst (λ (xs : List PassKept). IsGoing journal (map row_of ps) (map row_of xs) slots) none
    c.loop-pass.invariant in
    let all = ends journal (map row_of ps) slots going in
    let same : ps ≡ c.args.passes.now = c.as_slice-pass-items.ensures in
    let book : journal ≡ c.args.locked.now.book.journal = search rules in
    subst
    (λ (xs : List PassKept). Agrees c.args.locked.now.book.journal (all_receipts (map row_of xs)))
    same (subst (λ (j : List Event). Agrees j (all_receipts (map row_of ps))) book all)

pub returns-clause-exact : goal.returns-clause-exact
returns-clause-exact g c = λ agrees. refl
