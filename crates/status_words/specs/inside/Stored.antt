-- What a set keeps of its words.
use Rattle.std.specs.Prelude.{◌≡◌, ℕ, zero, suc, ◌+◌, ◌^◌, ◌<◌, ◌≤◌, Bool, false, List, [], ◌∷◌}
use Rattle.std.specs.Prelude.{length, slice_index}
use Rattle.status_words.specs.Words.{has_bit, number_of_words}

-- whether each of so many numbers from this one on is in the set
abbrev pub bits_from : List ℕ → ℕ → ℕ → List Bool
bits_from words i zero = []
bits_from words i (suc n) = has_bit words i ∷ bits_from words (i + 1) n

-- as many words as the size wants, and no number of the set at or above the size
pub record AreWords (size : ℕ) (words : List ℕ) : Type 0 where
  pub count : length words ≡ number_of_words size
  pub below : (i : ℕ) → size ≤ i → has_bit words i ≡ false
  pub fits : (j : ℕ) → slice_index words j < 2 ^ 64
