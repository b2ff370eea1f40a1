-- Reading one member after the other, as a loop does.
use Rattle.std.proofs.Common.{◌≡◌, ℕ, zero, suc, ◌-◌, ◌+◌, ◌≤◌, ◌<◌, List, [], ◌∷◌, ◌++◌, length}
use Rattle.std.proofs.Common.{codes, Result, Ok, Err, Option, Some, None, refl, subst, arith}
use Rattle.std.proofs.lemmas.List.{length-append}
use Rattle.chem_model.specs.declared.event.AtomId.{AtomId}
use Rattle.chem_model.specs.declared.event.Event.{Event}
use Rattle.trace_text.specs.declared.fault.Fault.{Fault}
use Rattle.trace_text.specs.declared.fault.Fault.TheVariants as fault
use Rattle.trace_text.specs.Fields.{Format, word}
use Rattle.trace_text.specs.LogFields.{literal, pair, further, taken, by_mark, event_line, lines}
use Rattle.trace_text.specs.inside.Reading.{◌>>=◌, behind, first_word, front, read, FailsAs}

abbrev later_word : ℕ × List ℕ → Result (ℕ × List ℕ) ℕ
later_word x = Ok (suc x.0, x.1)

module _ {A : Type 0} where
  abbrev after_word : (ℕ → Format A) → ℕ × List ℕ → Result A ℕ
  after_word next x = read (next x.0) x.1

  -- one line more
  pub steps :
      (n : ℕ) (before : List Event) (count i : ℕ) (bytes after : List ℕ) (x : Event)
      (next : List Event → Format A) → i < count
      → ((follows : Event → Format A) → read (event_line n follows) bytes ≡ read (follows x) after)
      → read (lines n before (count - i) next) bytes
      ≡ read (lines n (before ++ x ∷ []) (count - (i + 1)) next) after
  unfolding lines
  steps n before count i bytes after x next lt h =
      let k : count - i ≡ suc (count - (i + 1)) = omega arith in
      rw k (h (λ y. lines n (before ++ y ∷ []) (count - (i + 1)) next))

  pub ends :
      (n : ℕ) (before : List Event) (count i : ℕ) (bytes : List ℕ) (e : Fault)
      (next : List Event → Format A) → i < count
      → ((follows : Event → Format A) → FailsAs e (read (event_line n follows) bytes))
      → FailsAs e (read (lines n before (count - i) next) bytes)
  unfolding lines
  ends n before count i bytes e next lt h =
      let k : count - i ≡ suc (count - (i + 1)) = omega arith in
      rw k (h (λ y. lines n (before ++ y ∷ []) (count - (i + 1)) next))

  -- no line is left
  pub is_done :
      (n : ℕ) (before : List Event) (left : ℕ) (bytes : List ℕ) (next : List Event → Format A)
      → left ≤ 0
      → read (lines n before left next) bytes ≡ read (next before) bytes
  unfolding lines
  is_done n before left bytes next le =
      let none : left ≡ 0 = omega arith in
      rw none refl

  -- a space, and one atom more
  pub goes_on :
      (n : ℕ) (before : List AtomId) (bytes later after : List ℕ) (x : AtomId)
      (next : List AtomId → Format A) → behind (codes " ") bytes ≡ Some later
      → ((follows : AtomId → Format A) → read (pair follows) later ≡ read (follows x) after)
      → read (further (suc n) before next) bytes ≡ read (further n (before ++ x ∷ []) next) after
  unfolding further
  goes_on n before bytes later after x next e h = rw e (h (λ y. further n (before ++ y ∷ []) next))

  pub goes_wrong :
      (n : ℕ) (before : List AtomId) (bytes later : List ℕ) (e : Fault)
      (next : List AtomId → Format A) → behind (codes " ") bytes ≡ Some later
      → ((follows : AtomId → Format A) → FailsAs e (read (pair follows) later))
      → FailsAs e (read (further (suc n) before next) bytes)
  unfolding further
  goes_wrong n before bytes later e next is h = rw is (h (λ y. further n (before ++ y ∷ []) next))

  -- no space: a line feed
  pub stops : (n : ℕ) (before : List AtomId) (bytes : List ℕ) (next : List AtomId → Format A)
      → behind (codes " ") bytes ≡ None
      → read (further n before next) bytes ≡ read (literal (codes "\n") (next before)) bytes
  unfolding further
  stops zero before bytes next e = refl
  stops (suc n) before bytes next e = rw e (go (behind (codes "\n") bytes))
    where
      go : (o : Option (List ℕ))
          → ((first_word o (Err (length bytes)) >>= later_word) >>= after_word
          (by_mark (pair (λ atom. further n (before ++ atom ∷ []) next)) (next before)))
          ≡ (first_word o (Err (length bytes)) >>= after_word (λ _. next before))
      go (Some rest) = refl
      go None = refl

module _ {A : Type 0} where
  -- the first atom
  pub begins : (n : ℕ) (bytes later rest : List ℕ) (x : AtomId) (next : List AtomId → Format A)
      → front (word (codes " " ∷ [])) bytes ≡ Ok (0, later)
      → ((follows : AtomId → Format A) → read (pair follows) later ≡ read (follows x) rest)
      → read (taken n next) bytes ≡ read (further (suc n - length (x ∷ [])) (x ∷ []) next) rest
  begins n bytes later rest x next e h =
      let m : suc n - length (x ∷ []) ≡ n = omega arith in
      rw (m, e) (h (λ y. further n (y ∷ []) next))

  -- one atom more
  pub atom_step :
      (n : ℕ) (before : List AtomId) (bytes later after : List ℕ) (x : AtomId)
      (next : List AtomId → Format A) → length before ≤ n → behind (codes " ") bytes ≡ Some later
      → ((follows : AtomId → Format A) → read (pair follows) later ≡ read (follows x) after)
      → read (further (suc n - length before) before next) bytes
      ≡ read (further (suc n - length (before ++ x ∷ [])) (before ++ x ∷ []) next) after
  atom_step n before bytes later after x next le e h =
      let k : suc n - length before ≡ suc (n - length before) = omega (arith, le) in
      let m : suc n - length (before ++ x ∷ []) ≡ n - length before =
      omega (arith, le, length-append before (x ∷ [])) in
      rw (k, m) (goes_on (n - length before) before bytes later after x next e h)

  pub atom_wrong :
      (n : ℕ) (before : List AtomId) (bytes later : List ℕ) (e : Fault)
      (next : List AtomId → Format A) → length before ≤ n → behind (codes " ") bytes ≡ Some later
      → ((follows : AtomId → Format A) → FailsAs e (read (pair follows) later))
      → FailsAs e (read (further (suc n - length before) before next) bytes)
  atom_wrong n before bytes later e next le is h =
      let k : suc n - length before ≡ suc (n - length before) = omega (arith, le) in
      rw k (goes_wrong (n - length before) before bytes later e next is h)

-- a step that failed
pub fails_then : {Y Z : Type 0} (e : Fault) (r : Result Y ℕ) (f : Y → Result Z ℕ) → FailsAs e r
    → FailsAs e (r >>= f)
fails_then fault.Memory r f h = tt
fails_then (fault.Wrong left) r f h = rw h refl

pub as_wrong : {Z : Type 0} (e : Fault) (left : ℕ) (r : Result Z ℕ) → e ≡ fault.Wrong left
    → FailsAs e r → r ≡ Err left
as_wrong e left r is h = let P : Fault → Type 0 = λ f. FailsAs f r in subst P is h
