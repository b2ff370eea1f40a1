-- What a line asks for whose mode is `gen`, and one whose mode is another.
use Rattle.std.specs.Prelude.{◌≤◌, ℕ, Option, None, is_some, if◌then◌else◌, option_and_then}
use Rattle.join_words.specs.Line.{Line, Text}
use Rattle.join_words.specs.Asks.{generated, bare_job, bare_or_run}
use Rattle.join_words.specs.declared.answer.Asked.{Asked}

-- the budget and the workers of a line are within their limits
abbrev pub AreNumbers : ℕ → ℕ → Type 0
AreNumbers budget workers = (budget ≤ 4000000) × ((1 ≤ workers) × (workers ≤ 16))

-- with `gen` the size of a ring is needed
abbrev pub with_gen : Line → Option Text → ℕ → ℕ → Option Asked
with_gen l ring budget workers = option_and_then (λ size. generated l size budget workers) ring

-- without, it is refused
abbrev pub without_gen : Line → Option Text → Text → ℕ → ℕ → Option Asked
without_gen l ring mode budget workers = if is_some ring then None
    else bare_or_run l (bare_job mode) mode budget workers
