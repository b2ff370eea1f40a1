-- Masks: sets of a level's channels in words of 64 bits.
use Rattle.std.specs.Prelude.{◌≡◌, ℕ, ◌+◌, ◌/◌, ◌%◌, Bool, List, length, slice_index, eqb}
use Rattle.std.specs.Int.{bit_at}
use Rattle.chem_model.specs.Binders.{is_among}

-- the number is in the set that these words are
abbrev pub has_bit : List ℕ → ℕ → Bool
has_bit words i = eqb (bit_at (slice_index words (i / 64)) (i % 64)) 1

-- how many words so many bits take
abbrev pub number_of_words : ℕ → ℕ
number_of_words bits = (bits + 63) / 64

-- the words are the set of these channels of a level, as many as the level's channels take
pub record IsMask (channels : ℕ) (chans words : List ℕ) : Type 0 where
  pub count : length words ≡ number_of_words channels
  pub bits : (i : ℕ) → has_bit words i ≡ is_among chans i
