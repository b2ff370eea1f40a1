-- New passes: their number, their numbers and their budgets.
use Rattle.std.proofs.Common.{◌≡◌, ◌≢◌, ℕ, zero, suc, ◌+◌, ◌<◌, List, ◌∷◌, length, map, refl, ap}
use Rattle.std.proofs.Common.{◌∙◌, subst, arith, Result, IfOk}
use Rattle.chem_model.specs.Each.{Each}
use Rattle.chem_model.specs.ProgramFacts.{ProgramTerms}
use Rattle.chem_model.specs.declared.memory.Memory.{Memory}
use Rattle.shared_net.specs.Agrees.{row_of}
use Rattle.shared_net.specs.Causes.{DifferInNumber}
use Rattle.shared_net.specs.Closes.{HaveBudget}
use Rattle.shared_net.specs.Passes.{PassKept, new_passes}
use Rattle.site_runner.specs.declared.outcome.Done.{Done}
use Rattle.site_runner.specs.Free.{IsFree, count_from, first_workers}

pub new_count : (budget from count : ℕ) → length (new_passes budget from count) ≡ count
new_count budget from zero = refl
new_count budget from (suc count) = ap (λ (n : ℕ). suc n) (new_count budget (from + 1) count)

pub new_numbers : (budget from count : ℕ)
    → map (λ (p : PassKept). p.number) (new_passes budget from count) ≡ count_from from count
new_numbers budget from zero = refl
new_numbers budget from (suc count) =
    ap (λ (ns : List ℕ). from ∷ ns) (new_numbers budget (from + 1) count)

pub new_budgets : (budget from count : ℕ) → HaveBudget budget (new_passes budget from count)
new_budgets budget from zero = tt
new_budgets budget from (suc count) = (refl, new_budgets budget (from + 1) count)

-- a number below all of theirs is none of theirs
others : (n budget from count : ℕ) → n < from
    → Each (λ v. v.number ≢ n) (map row_of (new_passes budget from count))
others n budget from zero low = tt
others n budget from (suc count) low = (
  (λ (is : from ≡ n). absurd (omega (arith, is, low))),
  others n budget (from + 1) count (omega (arith, low)),
)

pub new_apart : (budget from count : ℕ) → DifferInNumber (map row_of (new_passes budget from count))
new_apart budget from zero = tt
new_apart budget from (suc count) =
    (others from budget (from + 1) count (omega arith), new_apart budget (from + 1) count)

-- a run with new passes, and as many sites as the program has, is one of the first workers
pub opened_is_free : (budget workers sites : ℕ) (p : ProgramTerms) (passes : List PassKept)
    → passes ≡ new_passes budget 1 workers → sites ≡ length p.sites → (r : Result Done Memory)
    → IfOk r (λ (d : Done).
    IsFree sites (map (λ (p : PassKept). p.number) passes) p budget d.book.journal d.how)
    → IfOk r
    (λ (d : Done). IsFree (length p.sites) (first_workers workers) p budget d.book.journal d.how)
opened_is_free budget workers sites p passes new is r free =
    let numbers : map (λ (p : PassKept). p.number) passes ≡ first_workers workers =
    ap (map (λ (p : PassKept). p.number)) new ∙ new_numbers budget 1 workers in
    let P : ℕ → List ℕ → Type 0 =
    λ n ns. IfOk r (λ (d : Done). IsFree n ns p budget d.book.journal d.how) in
    subst (P (length p.sites)) numbers
    (subst (λ (n : ℕ). P n (map (λ (p : PassKept). p.number) passes)) is free)
