-- The fields of a log and its text are the same, and what reading gives is what `read_log`
-- promises.
use Rattle.std.proofs.Common.{◌≡◌, ℕ, ◌-◌, ◌≤◌, List, length, Result, Ok, Err, ap, inl, inr, arith}
use Rattle.std.specs.Prelude.{◌⊎◌}
use Rattle.trace_text.specs.declared.fault.LogEnd.{LogEnd}
use Rattle.trace_text.specs.declared.fault.LogEnd.TheVariants as end
use Rattle.trace_text.specs.declared.read.Log.{Log}
use Rattle.trace_text.specs.LogText.{LogParts, Spells}
use Rattle.trace_text.specs.Fields.{SpellsBy}
use Rattle.trace_text.specs.LogFields.{log_fields, WrongAt, HasOneOutcome}
use Rattle.trace_text.specs.ReadLog.{parts, IsOrMemory}
use Rattle.trace_text.specs.inside.Reading.{read}
use Rattle.trace_text.proofs.Outcome.{means, outcome, is_spelt, is_wrong, never_both, one_value}
use Rattle.trace_text.proofs.Outcome.{one_place}
use Rattle.trace_text.proofs.FromFields.{log_spelt}
use Rattle.trace_text.proofs.ToFields.{log_spells}

pub is_log : (log : LogParts) (bytes : List ℕ) → SpellsBy (log_fields (length bytes)) log bytes
    → Spells log bytes
is_log log bytes h = log_spelt (length bytes) log bytes h

pub by_fields : (log : LogParts) (bytes : List ℕ) → Spells log bytes
    → SpellsBy (log_fields (length bytes)) log bytes
by_fields log bytes h = log_spells (length bytes) log bytes h (omega arith)

one_of : (bytes : List ℕ)
    → ((log : LogParts) × SpellsBy (log_fields (length bytes)) log bytes)
    ⊎ ((place : ℕ) × WrongAt bytes place)
    → ((log : LogParts) × Spells log bytes) ⊎ ((place : ℕ) × WrongAt bytes place)
one_of bytes (inl p) = inl (p.0, is_log p.0 bytes p.1)
one_of bytes (inr q) = inr q

pub has_one : (bytes : List ℕ) → HasOneOutcome bytes
has_one bytes =
    let f = log_fields (length bytes) in
    record {
      some = one_of bytes (outcome f bytes (read f bytes) (means f bytes));
      one_log = λ a b h g. one_value f bytes a b (by_fields a bytes h) (by_fields b bytes g);
      one_place = one_place f bytes;
      not_both = λ log place h w. never_both f bytes log place (by_fields log bytes h) w;
    }

-- ---- what was read

abbrev ok_of : Log → Result Log LogEnd
ok_of log = Ok log

abbrev bad_at : ℕ → Result Log LogEnd
bad_at place = Err (end.Bad place)

abbrev with_parts : LogParts → Log
with_parts p = record { source = p.source; budget = p.budget; events = p.events; trace = p.trace }

same_parts : (a b : Log) → parts a ≡ parts b → a ≡ b
same_parts a b e = ap with_parts e

pub found : (bytes : List ℕ) (log : LogParts) → read (log_fields (length bytes)) bytes ≡ Ok log
    → Spells log bytes
found bytes log e = is_log log bytes (is_spelt (log_fields (length bytes)) bytes log e)

pub found_reads : (bytes : List ℕ) (got log : Log)
    → read (log_fields (length bytes)) bytes ≡ Ok (parts got) → Spells (parts log) bytes
    → IsOrMemory (Ok log) (Ok got)
found_reads bytes got log e h = inl (ap ok_of
    (same_parts got log (one_value (log_fields (length bytes)) bytes (parts got) (parts log)
    (is_spelt (log_fields (length bytes)) bytes (parts got) e) (by_fields (parts log) bytes h))))

pub found_refuses : (bytes : List ℕ) (got : Log) (place : ℕ)
    → read (log_fields (length bytes)) bytes ≡ Ok (parts got) → WrongAt bytes place
    → IsOrMemory (bad_at place) (Ok got)
found_refuses bytes got place e w = absurd (never_both (log_fields (length bytes)) bytes (parts got)
    place (is_spelt (log_fields (length bytes)) bytes (parts got) e) w)

pub bad_at_place : (bytes : List ℕ) (left : ℕ) → read (log_fields (length bytes)) bytes ≡ Err left
    → (left ≤ length bytes) × WrongAt bytes (length bytes - left)
bad_at_place bytes left e = is_wrong (log_fields (length bytes)) bytes left e

pub bad_reads : (bytes : List ℕ) (left : ℕ) (log : Log)
    → read (log_fields (length bytes)) bytes ≡ Err left → Spells (parts log) bytes
    → IsOrMemory (Ok log) (bad_at (length bytes - left))
bad_reads bytes left log e h = absurd (never_both (log_fields (length bytes)) bytes (parts log)
    (length bytes - left) (by_fields (parts log) bytes h) (bad_at_place bytes left e).1)

pub bad_refuses : (bytes : List ℕ) (left place : ℕ)
    → read (log_fields (length bytes)) bytes ≡ Err left → WrongAt bytes place
    → IsOrMemory (bad_at place) (bad_at (length bytes - left))
bad_refuses bytes left place e w = inl (ap bad_at (one_place (log_fields (length bytes)) bytes
    (length bytes - left) place (bad_at_place bytes left e).1 w))
