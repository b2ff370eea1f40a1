-- The decimal digits of a number are a number's spelling.
use Rattle.std.proofs.Common.{◌≡◌, ℕ, ◌+◌, ◌-◌, ◌*◌, ◌/◌, ◌%◌, ◌^◌, ◌≤◌, ◌<◌, true, List, [], ◌∷◌}
use Rattle.std.proofs.Common.{◌++◌, IsTrue, refl, ap, ◌∙◌, arith, leb}
use Rattle.std.specs.Prelude.{decimal, fold}
use Rattle.std.proofs.lemmas.Bool.Decides.{nat_tests}
use Rattle.std.proofs.lemmas.Fmt.{decimal_by_steps}
use Rattle.join_lex.specs.Spelling.{is_digit, value_of, Pass, IsStretch}

value-push : (ds : List ℕ) (v d : ℕ)
    → fold (λ v d. v * 10 + (d - 48)) v (ds ++ d ∷ [])
    ≡ fold (λ v d. v * 10 + (d - 48)) v ds * 10 + (d - 48)
value-push [] v d = refl
value-push (e ∷ ds) v d = value-push ds (v * 10 + (e - 48)) d

digit : (m : ℕ) → m < 10 → IsTrue (is_digit (48 + m))
digit m l =
    let a : leb 48 (48 + m) ≡ true = grind (arith, nat_tests) in
    let b : leb (48 + m) 57 ≡ true = grind (arith, nat_tests) in
    rw (a, b) refl

pass-push : (ds : List ℕ) (d : ℕ) → Pass is_digit ds → IsTrue (is_digit d)
    → Pass is_digit (ds ++ d ∷ [])
pass-push [] d p q = (q, tt)
pass-push (e ∷ ds) d p q = (p.0, pass-push ds d p.1 q)

run-push : (ds : List ℕ) (d : ℕ) → IsStretch is_digit is_digit ds → IsTrue (is_digit d)
    → IsStretch is_digit is_digit (ds ++ d ∷ [])
run-push ds d r q = record {
  head = r.head;
  more = r.more ++ d ∷ [];
  is = ap (λ x. x ++ d ∷ []) r.is;
  starts = r.starts;
  passes = pass-push r.more d r.passes q;
}

pub digits-spell : (n : ℕ) → n < 2 ^ 64
    → (value_of (decimal n) ≡ n) × IsStretch is_digit is_digit (decimal n)
digits-spell n l =
    decimal_by_steps (λ (n : ℕ) (ds : List ℕ). (value_of ds ≡ n) × IsStretch is_digit is_digit ds)
    one more n l
  where
    one : (n : ℕ) → n < 10
        → (value_of ((48 + n) ∷ []) ≡ n) × IsStretch is_digit is_digit ((48 + n) ∷ [])
    one n l = (
      omega arith,
      record { head = 48 + n; more = []; is = refl; starts = digit n l; passes = tt },
    )

    more : (n : ℕ) (ds : List ℕ) → 10 ≤ n → (value_of ds ≡ n / 10) × IsStretch is_digit is_digit ds
        → (value_of (ds ++ (48 + n % 10) ∷ []) ≡ n)
        × IsStretch is_digit is_digit (ds ++ (48 + n % 10) ∷ [])
    more n ds l p = (
      value-push ds 0 (48 + n % 10) ∙ omega (arith, p.0),
      run-push ds (48 + n % 10) p.1 (digit (n % 10) (omega arith)),
    )
