-- What contracts see of the sources and sinks of this crate.
use Rattle.std.specs.Prelude.{ℕ, ◌-◌, ◌≤◌, ◌⊎◌, List, [], ◌++◌, length, take, drop, min, Contains}
use Rattle.join_base.specs.Counts.{one_more}

-- a source in memory: the bytes left, the most that one call gives, the numbers of the calls that
-- fail, from 1, and how many calls there were and how many failed
pub record SourceState : Type 0 where
  pub left : List ℕ
  pub piece : ℕ
  pub fails : List ℕ
  pub calls : ℕ
  pub faults : ℕ

-- a sink in memory: the bytes held, the most that it holds, the most that one call takes, the
-- numbers of the calls that fail, from 1, and how many calls there were and how many failed
pub record SinkState : Type 0 where
  pub held : List ℕ
  pub room : ℕ
  pub piece : ℕ
  pub fails : List ℕ
  pub calls : ℕ
  pub faults : ℕ

-- a real stream, and how often it failed
pub record Counted (S : Type 0) : Type 0 where
  pub stream : S
  pub faults : ℕ

-- a source that was made just now, after one more call that failed, and after one that gave n bytes
abbrev pub new_source : (bytes : List ℕ) → (piece : ℕ) → (fails : List ℕ) → SourceState
new_source bytes piece fails = record {
  left = bytes;
  piece = piece;
  fails = fails;
  calls = 0;
  faults = 0;
}

abbrev pub source_failed : SourceState → SourceState
source_failed s = record s { calls = one_more s.calls; faults = one_more s.faults }

abbrev pub source_gave : ℕ → SourceState → SourceState
source_gave n s = record s { left = drop n s.left; calls = one_more s.calls }

-- how many bytes a call gives that has room for so many
abbrev pub given_count : SourceState → (room : ℕ) → ℕ
given_count s room = min (min s.piece room) (length s.left)

-- a sink that was made just now, after one more call that failed, and after one that took the first
-- n bytes of a piece
abbrev pub new_sink : (room piece : ℕ) → (fails : List ℕ) → SinkState
new_sink room piece fails = record {
  held = [];
  room = room;
  piece = piece;
  fails = fails;
  calls = 0;
  faults = 0;
}

abbrev pub sink_failed : SinkState → SinkState
sink_failed s = record s { calls = one_more s.calls; faults = one_more s.faults }

abbrev pub sink_took : ℕ → (piece : List ℕ) → SinkState → SinkState
sink_took n piece s = record s { held = s.held ++ take n piece; calls = one_more s.calls }

-- how many bytes a call takes of so many
abbrev pub taken_count : SinkState → (offered : ℕ) → ℕ
taken_count s offered = min (min s.piece offered) (s.room - length s.held)

-- the next call fails: it is one that is to, or no room is left
abbrev pub IsToFail : SinkState → Type 0
IsToFail s = Contains s.fails (one_more s.calls) ⊎ (s.room ≤ length s.held)
