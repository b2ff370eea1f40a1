-- What contracts see of a worker's pass, and what its type keeps of its receipts.
use Rattle.std.specs.Prelude.{ℕ, zero, suc, ◌+◌, ◌<◌, ◌≤◌, List, [], ◌∷◌, Bool, false, refl}
use Rattle.std.specs.Coded.{Coded, code_by, coded×, coded_ℕ, coded_bool, coded_list}
use Rattle.shared_net.specs.declared.receipt.Receipt.{Receipt}
use Rattle.shared_net.specs.contracts.receipt.Receipt as receipt

-- left out are its share of the ledger, which counts its receipts, and its number of turns
pub record PassKept : Type 0 where
  pub number : ℕ
  pub budget : ℕ
  pub receipts : List Receipt
  pub idle : ℕ
  pub full : Bool

abbrev pub pass_code : Coded PassKept
pass_code =
    code_by (ℕ × (ℕ × (List Receipt × (ℕ × Bool))))
    (coded× coded_ℕ (coded× coded_ℕ
    (coded× (coded_list receipt.the_row.coded) (coded× coded_ℕ coded_bool))))
    (λ p. (p.number, (p.budget, (p.receipts, (p.idle, p.full)))))
    (λ t. record {
      number = t.0;
      budget = t.1.0;
      receipts = t.1.1.0;
      idle = t.1.1.1.0;
      full = t.1.1.1.1;
    })
    (λ _. refl)

-- the places of the receipts rise; each is at least the first number, and below the budget
abbrev pub Rise : ℕ → ℕ → List Receipt → Type 0
Rise least budget [] = Unit {0}
Rise least budget (r ∷ rs) =
    (least ≤ r.place) × (r.place < budget) × Rise (r.place + 1) budget rs

-- the least place that one receipt more may have: past that of the last receipt, and the given
-- number where there is none
abbrev pub next_place : ℕ → List Receipt → ℕ
next_place least [] = least
next_place least (r ∷ rs) = next_place (r.place + 1) rs

-- a pass with which no turn was made
abbrev pub new_pass : ℕ → ℕ → PassKept
new_pass budget number =
    record { number = number; budget = budget; receipts = []; idle = 0; full = false }

-- so many new passes, numbered in order from the given number on
abbrev pub new_passes : ℕ → ℕ → ℕ → List PassKept
new_passes budget from zero = []
new_passes budget from (suc count) = new_pass budget from ∷ new_passes budget (from + 1) count
