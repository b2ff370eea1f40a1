-- How a set lies in those of its words that have a number.
use Rattle.std.specs.Prelude.{◌≡◌, ℕ, zero, suc, ◌+◌, ◌≤◌, ◌<◌, ◌^◌, ◌==◌, ◌&&◌, Bool, true, false}
use Rattle.std.specs.Prelude.{cond, List, [], ◌∷◌, Option, Some, None, length, nat_lt, slice_index}
use Rattle.std.specs.Prelude.{bit_and, bit_or, zip}
use Rattle.status_words.specs.declared.sparse.Word.{Word}
use Rattle.status_words.specs.Words.{has_bit}

-- ---- the words

-- the word at this place: 0 where none is kept
abbrev pub word_at : List Word → ℕ → ℕ
word_at [] k = 0
word_at (w ∷ ws) k = cond (w.place == k) w.bits (word_at ws k)

-- so many words from this place on
abbrev pub words_from : List Word → ℕ → ℕ → List ℕ
words_from ws k zero = []
words_from ws k (suc n) = word_at ws k ∷ words_from ws (k + 1) n

-- a word of 64 bits at a place from one on and below another
pub record IsBetween (least n : ℕ) (w : Word) : Type 0 where
  pub from : least ≤ w.place
  pub below : w.place < n
  pub fits : w.bits < 2 ^ 64

-- each is one, and the places rise
abbrev pub AreRising : ℕ → ℕ → List Word → Type 0
AreRising least n [] = Unit {0}
AreRising least n (w ∷ ws) = IsBetween least n w × AreRising (suc w.place) n ws

-- ---- one more

abbrev pub word_of : ℕ → ℕ → Word
word_of k b = record { place = k; bits = b }

-- how many come before a place
abbrev pub place_in : List Word → ℕ → ℕ
place_in [] k = 0
place_in (w ∷ ws) k = cond (nat_lt w.place k) (suc (place_in ws k)) 0

abbrev pub is_at : Option Word → ℕ → Bool
is_at None k = false
is_at (Some w) k = w.place == k

-- the words with more bits in the one at this place
abbrev pub put : List Word → ℕ → ℕ → List Word
put [] k b = word_of k b ∷ []
put (w ∷ ws) k b =
    cond (nat_lt w.place k) (w ∷ put ws k b)
    (cond (w.place == k) (word_of k (bit_or w.bits b) ∷ ws) (word_of k b ∷ w ∷ ws))

-- ---- two sets

abbrev pub is_same : Word → Word → Bool
is_same w v = (w.place == v.place) && (w.bits == v.bits)

abbrev pub same_pairs : List (Word × Word) → Bool
same_pairs [] = true
same_pairs (p ∷ ps) = is_same p.0 p.1 && same_pairs ps

abbrev pub same_words : List Word → List Word → Bool
same_words ws vs = (length ws == length vs) && same_pairs (zip ws vs)

-- no bit of the word is missing from the one at its place
abbrev pub is_in : List ℕ → Word → Bool
is_in held w = bit_and w.bits (slice_index held w.place) == w.bits

abbrev pub all_in : List ℕ → List Word → Bool
all_in held [] = true
all_in held (w ∷ ws) = is_in held w && all_in held ws

-- each number of the one set is in the other
abbrev pub AreIn : List ℕ → List ℕ → Type 0
AreIn mask held = (i : ℕ) → has_bit mask i ≡ true → has_bit held i ≡ true
