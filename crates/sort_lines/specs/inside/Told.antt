-- The walk over the bytes of a text.
use Rattle.std.specs.Prelude.{◌≡◌, ℕ, ◌+◌, ◌-◌, ◌≤◌, ◌<◌, List, [], ◌∷◌, ◌++◌, true, false}
use Rattle.std.specs.Prelude.{length, take, drop}
use Rattle.chem_model.specs.Each.{Each}
use Rattle.sort_lines.specs.declared.lines.SortLine.{SortLine}
use Rattle.sort_lines.specs.Lines.{Line, to_end, read_lines}

abbrev pub told_one : SortLine → Line
told_one l = record { place = l.place; text = l.text.now }

abbrev pub told : List SortLine → List Line
told [] = []
told (l ∷ ls) = told_one l ∷ told ls

-- each of them is short enough to be read
abbrev pub AreShort : List SortLine → Type 0
AreShort ls = Each (λ (l : SortLine). length l.text.now ≤ 1048576) ls

-- from here on the line ends there
pub record EndsAt (bytes : List ℕ) (from upto : ℕ) : Type 0 where
  pub after : from ≤ upto
  pub within : upto ≤ length bytes
  pub line : take (upto - from) (drop from bytes) ≡ to_end (drop from bytes)
  pub rest : (place : ℕ) → read_lines true place (drop from bytes)
      ≡ read_lines false (place + (upto - from)) (drop upto bytes)

-- a step from one place to another appends what is read between them
pub record GoesOn (bytes : List ℕ) (place next : ℕ) (old new : List Line) : Type 0 where
  pub further : place < next
  pub within : next ≤ length bytes
  pub same : new ++ read_lines false next (drop next bytes)
      ≡ old ++ read_lines false place (drop place bytes)
