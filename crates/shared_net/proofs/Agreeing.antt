-- Receipts that agree with a book and are as many as its events: each place has one, and all are
-- below the budget.
use Rattle.std.proofs.Common.{◌≡◌, ℕ, zero, suc, ◌+◌, ◌<◌, ◌≤◌, List, [], ◌∷◌, ◌++◌, length, map}
use Rattle.std.proofs.Common.{length-append, Bool, true, false, cond, ◌==◌, refl, ap, sym, ◌∙◌}
use Rattle.std.proofs.Common.{subst, arith, Some, None}
use Rattle.std.proofs.lemmas.Bool.Decides.{nat_tests}
use Rattle.std.proofs.lemmas.List.{map-append}
use Rattle.std.proofs.lemmas.Option.{slice_get_within}
use Rattle.chem_model.specs.declared.event.Event.{Event}
use Rattle.chem_model.specs.Each.{Each}
use Rattle.chem_model.specs.ProgramFacts.{ProgramTerms}
use Rattle.chem_laws.proofs.Lists.{Each-append, Each-weaker}
use Rattle.trace_history.specs.Kept.{BookKept}
use Rattle.shared_net.specs.declared.receipt.Receipt.{Receipt}
use Rattle.shared_net.specs.declared.report.Worked.{Worked}
use Rattle.shared_net.specs.Passes.{PassKept, Rise}
use Rattle.shared_net.specs.Agrees.{row_of, all_receipts, times_at, Stands, Agrees}
use Rattle.shared_net.specs.Reports.{Reported}
use Rattle.shared_net.specs.declared.closing.Closed.TheVariants as closed
use Rattle.shared_net.specs.declared.differs.Differs.{Differs}
use Rattle.shared_net.specs.declared.differs.Differs.TheVariants as cause
use Rattle.shared_net.specs.Causes.{Compares}
use Rattle.shared_net.specs.Causes.{IsOfStarted}
use Rattle.shared_net.specs.Closes.{HaveBudget, IsAgreed, Closes}
use Rattle.shared_net.proofs.Counting.{each_place}

all-append : (xs ys : List Worked)
    → length (all_receipts (xs ++ ys)) ≡ length (all_receipts xs) + length (all_receipts ys)
all-append [] ys = omega arith
all-append (x ∷ xs) ys = omega (
  arith,
  length-append x.receipts (all_receipts (xs ++ ys)),
  length-append x.receipts (all_receipts xs),
  all-append xs ys,
)

-- how many receipts passes have together, the last of which is this one
pub all-last : (whole front : List PassKept) (p : PassKept) → whole ≡ front ++ p ∷ []
    → length p.receipts + length (all_receipts (map row_of front))
    ≡ length (all_receipts (map row_of whole))
all-last whole front p is =
    let here : length (all_receipts (map row_of whole))
    ≡ length (all_receipts (map row_of front ++ row_of p ∷ [])) =
    ap (λ (ps : List PassKept). length (all_receipts (map row_of ps))) is
    ∙ ap (λ (ws : List Worked). length (all_receipts ws)) (map-append row_of front (p ∷ [])) in
    omega (arith, here, all-append (map row_of front) (row_of p ∷ []), length-append p.receipts [])

rise-below : (least budget : ℕ) (rs : List Receipt) → Rise least budget rs
    → Each (λ r. r.place < budget) rs
rise-below least budget [] rises = tt
rise-below least budget (r ∷ rs) rises = (rises.1, rise-below (r.place + 1) budget rs rises.2)

all-below : (budget : ℕ) (ps : List PassKept) → Each (λ p. Rise 0 p.budget p.receipts) ps
    → HaveBudget budget ps → Each (λ r. r.place < budget) (all_receipts (map row_of ps))
all-below budget [] rise is = tt
all-below budget (p ∷ ps) rise is =
    Each-append (λ r. r.place < budget) p.receipts (all_receipts (map row_of ps))
    (rise-below 0 budget p.receipts (subst (λ (b : ℕ). Rise 0 b p.receipts) is.0 rise.0))
    (all-below budget ps rise.1 is.1)

-- a place that occurs is below what all places are below
occurs-below : (k budget : ℕ) (rs : List Receipt) → Each (λ r. r.place < budget) rs
    → 0 < times_at k rs → k < budget
occurs-below k budget [] each some = absurd (omega arith)
occurs-below k budget (r ∷ rs) each some =
    split (r.place == k) refl (occurs-below k budget rs each.1) some
  where
    split : (e : Bool) → (r.place == k) ≡ e → (0 < times_at k rs → k < budget)
        → 0 < cond e 1 0 + times_at k rs → k < budget
    split true is later h =
        let same : r.place ≡ k = grind (arith, nat_tests) in
        let low = each.0 in
        omega arith
    split false is later h = later (omega arith)

within : (n budget : ℕ) (rs : List Receipt) → ((k : ℕ) → k < n → times_at k rs ≡ 1)
    → Each (λ r. r.place < budget) rs → n ≤ budget
within zero budget rs each below = omega arith
within (suc n) budget rs each below =
    let last = occurs-below n budget rs below (let one = each n (omega arith) in omega arith) in
    omega arith

pub agreed : (program : ProgramTerms) (budget : ℕ) (ps : List PassKept) (book : BookKept)
    → Agrees book.journal (all_receipts (map row_of ps)) → Each (λ p. Rise 0 p.budget p.receipts) ps
    → HaveBudget budget ps → length (all_receipts (map row_of ps)) ≡ length book.journal
    → book.program ≡ program → IsAgreed program budget (map row_of ps) book
agreed program budget ps book agrees rise is many same =
    let rs = all_receipts (map row_of ps) in
    let low : Each (λ (r : Receipt). r.place < length book.journal) rs =
    Each-weaker (Stands book.journal) (λ r. r.place < length book.journal)
    (λ r s. slice_get_within book.journal r.place r.event s) rs agrees.stands in
    let each = each_place (length book.journal) rs agrees.once low many in
    record {
      same = same;
      agrees = agrees;
      as_many = many;
      each_place = each;
      within = within (length book.journal) budget rs each (all-below budget ps rise is);
    }

-- a report without a cause, its rows told otherwise
pub with-rows : (report : Reported) (ws vs : List Worked)
    → report ≡ record { workers = ws; differs = None } → ws ≡ vs
    → report ≡ record { workers = vs; differs = None }
with-rows report ws vs is same =
    is ∙ ap (λ (rows : List Worked). record { workers = rows; differs = None }) same

-- no book of another program is the cause of what a journal shows
pub started_is : (program : ProgramTerms) (journal : List Event) (rows : List Worked) (d : Differs)
    → Compares journal rows (Some d) → IsOfStarted program d
started_is program journal rows (cause.Event place receipt kept) h = tt
started_is program journal rows (cause.Twice place first second) h = tt
started_is program journal rows (cause.Past place end) h = tt
started_is program journal rows (cause.Program started kept) h = absurd h.1

-- a report with a cause, its rows told otherwise
pub differs_closes :
    (program : ProgramTerms) (budget : ℕ) (report : Reported) (ws rows : List Worked) (d : Differs)
    → report ≡ record { workers = ws; differs = Some d } → ws ≡ rows → IsOfStarted program d
    → Closes program budget rows (closed.Differs report)
differs_closes program budget report ws rows d is same started =
    subst (λ (r : Reported). Closes program budget rows (closed.Differs r)) (sym is)
    (same, refl, started)
