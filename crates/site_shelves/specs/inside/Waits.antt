-- Which guards of a level wait on a channel.
use Rattle.std.specs.Prelude.{◌≡◌, ℕ, true, List, [], Some, slice_get, slice_index_or}
use Rattle.chem_model.specs.Binders.{is_among}
use Rattle.status_words.specs.Words.{has_bit}

-- the lists of guards, one a channel, have each guard whose mask has the channel
abbrev pub AreWaiting : List (List ℕ) → List (List ℕ) → Type 0
AreWaiting masks waits =
    (i : ℕ) (m : List ℕ) (c : ℕ) → slice_get masks i ≡ Some m → has_bit m c ≡ true
    → is_among (slice_index_or waits c []) i ≡ true

-- who waits goes on to do so
abbrev pub KeepsWaits : List (List ℕ) → List (List ℕ) → Type 0
KeepsWaits old new =
    (c i : ℕ) → is_among (slice_index_or old c []) i ≡ true
    → is_among (slice_index_or new c []) i ≡ true

-- the guard waits on each of these channels
abbrev pub WaitsOn : List (List ℕ) → ℕ → List ℕ → Type 0
WaitsOn waits i cs = (c : ℕ) → is_among cs c ≡ true → is_among (slice_index_or waits c []) i ≡ true

-- so do these numbers name all guards whose masks have the channel
abbrev pub AreAllOn : ℕ → List (List ℕ) → List ℕ → Type 0
AreAllOn c masks ns =
    (i : ℕ) (m : List ℕ) → slice_get masks i ≡ Some m → has_bit m c ≡ true
    → is_among ns i ≡ true
