-- What a command line asks for.
use Rattle.std.specs.Prelude.{◌≡◌, ◌≤◌, ◌&&◌, ◌||◌, not, ℕ, Bool, false, List, length}
use Rattle.std.specs.Prelude.{Option, Some, None, is_some, if◌then◌else◌, codes, option_and_then}
use Rattle.std.specs.Prelude.{option_map, nat_le, Result, Ok, Err}
use Rattle.std.specs.List.{list_all}
use Rattle.std.specs.Str.{bytes_eq}
use Rattle.std.specs.Str.Parse.{digits_value}
use Rattle.join_words.specs.Line.{Line, Plain, Text, line_of, none, one, two}
use Rattle.join_words.specs.declared.answer.Asked.{Asked}
use Rattle.join_words.specs.declared.answer.By.{By}
use Rattle.join_words.specs.declared.answer.By.TheVariants.{Alone, Rounds, Run, Lossy}
use Rattle.join_words.specs.declared.answer.Job.{Job}
use Rattle.join_words.specs.declared.answer.Job.TheVariants as job
use Rattle.join_words.specs.declared.answer.WordEnd.{WordEnd}
use Rattle.join_words.specs.declared.answer.WordEnd.TheVariants.{Form, Memory}

-- the bytes of `0` to `9`
abbrev pub is_digit : ℕ → Bool
is_digit b = nat_le 48 b && nat_le b 57

-- a number is one to seven decimal digits
abbrev pub is_number : Text → Bool
is_number text = nat_le 1 (length text) && nat_le (length text) 7 && list_all is_digit text

-- a number from low to high
abbrev pub number_in : ℕ → ℕ → Text → Option ℕ
number_in low high text = if is_number text && (nat_le low (digits_value 10 text)
    && nat_le (digits_value 10 text) high) then Some (digits_value 10 text) else None

-- the number of an option that may be left out
abbrev pub number_or : ℕ → ℕ → ℕ → Option Text → Option ℕ
number_or default low high None = Some default
number_or default low high (Some text) = number_in low high text

-- the commands that `--by` takes
abbrev pub by_named : Text → Option By
by_named text = if bytes_eq text (codes "alone") then Some Alone
    else (if bytes_eq text (codes "rounds") then Some Rounds
    else (if bytes_eq text (codes "run") then Some Run else None))

-- `--by` is `alone` where it isn't given
abbrev pub by_or_alone : Option Text → Option By
by_or_alone None = Some Alone
by_or_alone (Some text) = by_named text

-- what is asked for where nothing but a job is given
abbrev pub nothing_asked : Asked
nothing_asked = record {
  job = job.Run;
  by = Alone;
  ring = None;
  budget = 100000;
  workers = 4;
  log = false;
  loss = 0;
}

-- `gen` with the size of a ring, 1 to 64: it takes `--by`, and neither `--loss` nor `--log`
abbrev pub generated : Line → Text → ℕ → ℕ → Option Asked
generated l size budget workers = if is_some l.loss || l.log then None
    else option_and_then (λ sites. option_map (λ by. record nothing_asked {
      by = by;
      ring = Some sites;
      budget = budget;
      workers = workers;
    }) (by_or_alone l.by)) (number_in 1 64 size)

-- `alone`, `rounds` or `run`: it takes `--log`, and neither `--by` nor `--loss`
abbrev pub run_as : Line → Text → ℕ → ℕ → Option Asked
run_as l mode budget workers = if is_some l.by || is_some l.loss then None
    else option_map (λ by. record nothing_asked {
      by = by;
      budget = budget;
      workers = workers;
      log = l.log;
    }) (by_named mode)

-- `lossy`: it takes `--loss`, 0 to 3 and 0 where it isn't given, and none of `--workers`, `--by`
-- and `--log`
abbrev pub lossy_as : Line → ℕ → Option Asked
lossy_as l budget = if is_some l.workers || (is_some l.by || l.log) then None
    else option_map (λ loss. record nothing_asked {
      by = Lossy;
      budget = budget;
      loss = loss;
    }) (number_or 0 0 3 l.loss)

-- one of the two
abbrev pub any_run_as : Line → Text → ℕ → ℕ → Option Asked
any_run_as l mode budget workers = if bytes_eq mode (codes "lossy") then lossy_as l budget
    else run_as l mode budget workers

-- the commands that take no size and no option
abbrev pub bare_job : Text → Option Job
bare_job text = if bytes_eq text (codes "check") then Some job.Check
    else (if bytes_eq text (codes "explain") then Some job.Explain
    else (if bytes_eq text (codes "sorts") then Some job.Sorts else None))

abbrev pub is_bare : Line → Bool
is_bare l = not (is_some l.budget
    || (is_some l.workers || (is_some l.by || (is_some l.loss || l.log))))

abbrev pub bare : Line → Job → Option Asked
bare l j = if is_bare l then Some (record nothing_asked { job = j }) else None

-- one of these, or a run
abbrev pub bare_or_run : Line → Option Job → Text → ℕ → ℕ → Option Asked
bare_or_run l None mode budget workers = any_run_as l mode budget workers
bare_or_run l (Some j) mode budget workers = bare l j

-- there is a mode; the size of a ring is needed with `gen`, and refused otherwise
abbrev pub by_mode : Line → Plain → ℕ → ℕ → Option Asked
by_mode l none budget workers = None
by_mode l (one mode) budget workers =
    if bytes_eq mode (codes "gen") then None
    else bare_or_run l (bare_job mode) mode budget workers
by_mode l (two mode size) budget workers =
    if bytes_eq mode (codes "gen") then generated l size budget workers else None

-- the workers are 1 to 16, and 4 where they aren't given; the budget is 0 to 4,000,000, and 100,000
abbrev pub judged : Line → Option Asked
judged l = option_and_then (λ budget. option_and_then (λ workers. by_mode l l.plain budget workers)
    (number_or 4 1 16 l.workers)) (number_or 100000 0 4000000 l.budget)

-- what the words ask for, or none where they are not of the line's form
abbrev pub asked : List Text → Option Asked
asked words = option_and_then judged (line_of words)

-- the size of a ring
abbrev pub IsSize : ℕ → Type 0
IsSize n = (1 ≤ n) × (n ≤ 64)

abbrev pub IsSizeIfAny : Option ℕ → Type 0
IsSizeIfAny None = Unit {0}
IsSizeIfAny (Some n) = IsSize n

-- its numbers are within their limits
abbrev pub IsWithin : Asked → Type 0
IsWithin a = (a.budget ≤ 4000000) × ((1 ≤ a.workers) × (a.workers ≤ 16)) × (a.loss ≤ 3)
    × IsSizeIfAny a.ring

-- a call answers what is asked for, `Form` where that is none, or want of memory
abbrev pub Answers : Option Asked → Result Asked WordEnd → Type 0
Answers o (Ok a) = o ≡ Some a
Answers o (Err Form) = o ≡ None
Answers o (Err Memory) = Unit {0}
