-- Where the receipts agree with the journal, no cause is true.
use Rattle.std.proofs.Common.{◌≡◌, ◌≢◌, ℕ, ◌<◌, ◌≤◌, List, [], ◌∷◌, length, inl, inr, sym, ◌∙◌}
use Rattle.std.proofs.Common.{subst, arith, Some, slice_get}
use Rattle.std.proofs.lemmas.Bool.Decides.{nat_tests}
use Rattle.std.proofs.lemmas.Option.{slice_get_within}
use Rattle.chem_model.specs.declared.event.Event.{Event}
use Rattle.shared_net.specs.declared.receipt.Receipt.{Receipt}
use Rattle.shared_net.specs.declared.report.Worked.{Worked}
use Rattle.shared_net.specs.declared.differs.Differs.{Differs}
use Rattle.shared_net.specs.declared.differs.Differs.TheVariants as cause
use Rattle.shared_net.specs.Agrees.{all_receipts, times_at, Stands, Agrees}
use Rattle.shared_net.specs.Causes.{OneOf, IsHolder, IsCause}
use Rattle.shared_net.specs.Causes.{IsShownBy}
use Rattle.shared_net.proofs.Members.{OneOf-gives, OneOf-each, OneOf-left, OneOf-right}
use Rattle.shared_net.proofs.Going.{times-append}

-- a receipt of one of the rows is among all
among : (P : Receipt → Type 0) (rows : List Worked) → OneOf (λ w. OneOf P w.receipts) rows
    → OneOf P (all_receipts rows)
among P [] h = h
among P (w ∷ ws) (inl h) = OneOf-left P w.receipts (all_receipts ws) h
among P (w ∷ ws) (inr h) = OneOf-right P w.receipts (all_receipts ws) (among P ws h)

once : (k : ℕ) (rs : List Receipt) → OneOf (λ r. r.place ≡ k) rs → 1 ≤ times_at k rs
once k [] h = absurd h
once k (r ∷ rs) (inl is) = let same : r.place ≡ k = is in grind (arith, nat_tests)
once k (r ∷ rs) (inr h) = let rest = once k rs h in omega arith

held : (f k : ℕ) (rows : List Worked) → IsHolder f k rows → 1 ≤ times_at k (all_receipts rows)
held f k [] h = absurd h
held f k (w ∷ ws) (inl h) =
    omega (arith, times-append k w.receipts (all_receipts ws), once k w.receipts h.1)
held f k (w ∷ ws) (inr h) =
    omega (arith, times-append k w.receipts (all_receipts ws), held f k ws h)

twice : (f s k : ℕ) (rows : List Worked) → f ≢ s → IsHolder f k rows → IsHolder s k rows
    → 2 ≤ times_at k (all_receipts rows)
twice f s k [] apart h j = absurd h
twice f s k (w ∷ ws) apart (inl h) (inl j) = absurd (apart (sym h.0 ∙ j.0))
twice f s k (w ∷ ws) apart (inl h) (inr j) =
    omega (arith, times-append k w.receipts (all_receipts ws), once k w.receipts h.1, held s k ws j)
twice f s k (w ∷ ws) apart (inr h) (inl j) =
    omega (arith, times-append k w.receipts (all_receipts ws), once k w.receipts j.1, held f k ws h)
twice f s k (w ∷ ws) apart (inr h) (inr j) =
    omega (arith, times-append k w.receipts (all_receipts ws), twice f s k ws apart h j)

pub excludes : (journal : List Event) (rows : List Worked) (d : Differs) → IsCause rows d
    → IsShownBy journal d → Agrees journal (all_receipts rows) → ⊥
excludes journal rows (cause.Event place receipt kept) is shown all =
    let r : Receipt = record { place = place; event = receipt } in
    let P : Receipt → Type 0 = λ x. x ≡ r in
    let there = OneOf-each P (Stands journal) (all_receipts rows) all.stands (among P rows is.0) in
    let stands : slice_get journal place ≡ Some receipt =
    OneOf-gives (λ x. P x × Stands journal x) (all_receipts rows)
    (slice_get journal place ≡ Some receipt) (λ x f. subst (Stands journal) f.0 f.1) there in
    is.1 (let both : Some kept ≡ Some receipt = sym shown ∙ stands in cc)
excludes journal rows (cause.Twice place first second) is shown all =
    let more = twice first second place rows is.0 is.1 is.2 in omega (arith, all.once place)
excludes journal rows (cause.Past place end) is shown all =
    let P : Receipt → Type 0 = λ x. x.place ≡ place in
    let there = OneOf-each P (Stands journal) (all_receipts rows) all.stands (among P rows is.1) in
    let within : place < length journal =
    OneOf-gives (λ x. P x × Stands journal x) (all_receipts rows) (place < length journal) (λ x f.
    subst (λ (p : ℕ). p < length journal) f.0 (slice_get_within journal x.place x.event f.1))
    there in
    omega (arith, is.0, shown)
excludes journal rows (cause.Program started kept) is shown all = shown
