-- What reading gives is what the format says: a value that the bytes spell, or the first wrong
-- field, and never both.
use Rattle.std.proofs.Common.{◌≡◌, ℕ, ◌+◌, ◌-◌, ◌≤◌, List, [], ◌∷◌, length, Result, Ok, Err, refl}
use Rattle.std.proofs.Common.{sym, subst, ◌∙◌, arith, inl, inr}
use Rattle.std.specs.Prelude.{◌⊎◌}
use Rattle.trace_text.specs.Fields.{Field, ValueOf, IsField, Format, whole, field, SpellsBy}
use Rattle.trace_text.specs.Fields.{WrongBy}
use Rattle.trace_text.specs.inside.Reading.{read}
use Rattle.trace_text.proofs.Fronts.{stands, stands_or_not, stands_not, fails, shorter}

-- what the answer says of the bytes
abbrev pub Means : {A : Type 0} → Format A → List ℕ → Result A ℕ → Type 0
Means f bytes (Ok x) = SpellsBy f x bytes
Means f bytes (Err left) = (place : ℕ) × (place + left ≡ length bytes) × WrongBy f bytes place

-- how far the first wrong field is from the end is the same with a field before it
shifted : (place later rest bytes left : ℕ) → place + rest ≡ later + bytes → later + left ≡ rest
    → place + left ≡ bytes
shifted place later rest bytes left e g = omega (arith, e, g)

module _ {A : Type 0} where
  abbrev ok_of : A → Result A ℕ
  ok_of x = Ok x

  abbrev err_of : ℕ → Result A ℕ
  err_of n = Err n

  after :
      (f : Field) (next : ValueOf f → Format A) (bytes : List ℕ) (value : ValueOf f) (rest : List ℕ)
      (r : Result A ℕ)
      → IsField f value bytes rest → length rest ≤ length bytes → Means (next value) rest r
      → Means (field f next) bytes r
  after f next bytes value rest (Ok x) h le m = (value, rest, h, m)
  after f next bytes value rest (Err left) h le m =
      let place = m.0 + (length bytes - length rest) in
      (place, omega (arith, m.1, le), inr (value, rest, h, m.0, omega (arith, le), m.2))

  -- each input is spelled or wrong, as reading answers
  pub means : (f : Format A) (bytes : List ℕ) → Means f bytes (read f bytes)
  means (whole x) [] = (refl, refl)
  means (whole x) (b ∷ bytes) = (0, omega arith, (refl, omega arith))
  means (field f next) bytes =
      elim (stands_or_not f bytes) [
        | inl p ↦ rw (stands f p.0 bytes p.1 p.2) (after f next bytes p.0 p.1 (read (next p.0) p.1)
            p.2 (shorter f p.0 bytes p.1 p.2) (means (next p.0) p.1))
        | inr e ↦ rw e (0, omega arith, inl (refl, stands_not f bytes (length bytes) e))
      ]

  -- what is spelled is read
  pub spelled : (f : Format A) (x : A) (bytes : List ℕ) → SpellsBy f x bytes → read f bytes ≡ Ok x
  spelled (whole y) x bytes h = rw (h.1, h.0) refl
  spelled (field f next) x bytes h = rw (stands f h.0 bytes h.1 h.2) (spelled (next h.0) x h.1 h.3)

  -- where it is wrong first, reading ends
  pub wrong : (f : Format A) (bytes : List ℕ) (place : ℕ) → WrongBy f bytes place
      → (left : ℕ) × (place + left ≡ length bytes) × (read f bytes ≡ Err left)
  wrong (whole y) [] place h = absurd (omega (arith, h.1))
  wrong (whole y) (b ∷ bytes) place h = (length (b ∷ bytes), omega (arith, h.0), refl)
  wrong (field f next) bytes place (inl h) =
      (length bytes, omega (arith, h.0), rw (fails f bytes h.1) refl)
  wrong (field f next) bytes place (inr (value, rest, h, later, e, w)) =
      let p = wrong (next value) rest later w in (
        p.0,
        shifted place later (length rest) (length bytes) p.0 e p.1,
        rw (stands f value bytes rest h) p.2,
      )

  pub is_spelt : (f : Format A) (bytes : List ℕ) (x : A) → read f bytes ≡ Ok x → SpellsBy f x bytes
  is_spelt f bytes x e = subst (λ (r : Result A ℕ). Means f bytes r) e (means f bytes)

  pub is_wrong : (f : Format A) (bytes : List ℕ) (left : ℕ) → read f bytes ≡ Err left
      → (left ≤ length bytes) × WrongBy f bytes (length bytes - left)
  is_wrong f bytes left e =
      let w : Means f bytes (Err left) =
      subst (λ (r : Result A ℕ). Means f bytes r) e (means f bytes) in
      let at : w.0 ≡ length bytes - left = omega (arith, w.1) in
      (omega (arith, w.1), subst (λ (p : ℕ). WrongBy f bytes p) at w.2)

  pub never_both : (f : Format A) (bytes : List ℕ) (x : A) (place : ℕ) → SpellsBy f x bytes
      → WrongBy f bytes place → ⊥
  never_both f bytes x place s w =
      let e = wrong f bytes place w in
      let both : ok_of x ≡ Err e.0 = sym (spelled f x bytes s) ∙ e.2 in
      cc

  pub one_value : (f : Format A) (bytes : List ℕ) (x y : A) → SpellsBy f x bytes
      → SpellsBy f y bytes → x ≡ y
  one_value f bytes x y s t =
      let both : ok_of x ≡ ok_of y = sym (spelled f x bytes s) ∙ spelled f y bytes t in
      cc

  pub one_place : (f : Format A) (bytes : List ℕ) (m n : ℕ) → WrongBy f bytes m → WrongBy f bytes n
      → m ≡ n
  one_place f bytes m n v w =
      let d = wrong f bytes m v in
      let e = wrong f bytes n w in
      let both : err_of d.0 ≡ err_of e.0 = sym d.2 ∙ e.2 in
      let same : d.0 ≡ e.0 = cc in
      omega (arith, d.1, e.1, same)

  pub outcome : (f : Format A) (bytes : List ℕ) (r : Result A ℕ) → Means f bytes r
      → ((x : A) × SpellsBy f x bytes) ⊎ ((place : ℕ) × WrongBy f bytes place)
  outcome f bytes (Ok x) m = inl (x, m)
  outcome f bytes (Err left) m = inr (m.0, m.2)
