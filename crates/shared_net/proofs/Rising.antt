-- Receipts whose places rise, and one more of them; new passes.
use Rattle.std.proofs.Common.{◌≡◌, ℕ, suc, ◌+◌, ◌-◌, ◌<◌, ◌≤◌, List, [], ◌∷◌, ◌++◌, refl, take}
use Rattle.std.proofs.Common.{length, ◌∙◌, ap, arith}
use Rattle.std.proofs.Math.Seq.{take-append_seam}
use Rattle.shared_net.specs.declared.receipt.Receipt.{Receipt}
use Rattle.shared_net.specs.Passes.{Rise, next_place, new_pass, new_passes}

pub rise-append : (least budget : ℕ) (rs : List Receipt) (r : Receipt) → Rise least budget rs
    → next_place least rs ≤ r.place → r.place < budget → Rise least budget (rs ++ r ∷ [])
rise-append least budget [] r rises past below = (past, below, tt)
rise-append least budget (x ∷ rs) r rises past below =
    (rises.0, rises.1, rise-append (x.place + 1) budget rs r rises.2 past below)

pub next-append : (least : ℕ) (rs : List Receipt) (r : Receipt)
    → next_place least (rs ++ r ∷ []) ≡ r.place + 1
next-append least [] r = refl
next-append least (x ∷ rs) r = next-append (x.place + 1) rs r

-- a receipt that is cut off again leaves what was there
pub cut-back : (n : ℕ) (rs more left : List Receipt) (r : Receipt) → n ≡ length rs
    → more ≡ rs ++ r ∷ [] → left ≡ take n more → left ≡ rs
cut-back n rs more left r long is cut =
    cut ∙ ap (λ (k : ℕ). take k more) long ∙ ap (take (length rs)) is ∙ take-append_seam rs (r ∷ [])

-- so many new passes are the first and the others
pub new-next : (budget from i n : ℕ) → i < n
    → new_passes budget from (n - i)
    ≡ new_pass budget from ∷ new_passes budget (from + 1) (n - (i + 1))
new-next budget from i n l =
    let e : n - i ≡ suc (n - (i + 1)) = omega arith in
    ap (new_passes budget from) e

pub new-none : (budget from i n : ℕ) → n ≤ i → new_passes budget from (n - i) ≡ []
new-none budget from i n l = let e : n - i ≡ 0 = omega arith in ap (new_passes budget from) e
