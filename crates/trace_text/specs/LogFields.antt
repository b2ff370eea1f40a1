-- The fields of a log, a field a line. A part takes what follows it as its last argument, so that
-- parts stand in one another. Where a field is judged, the fields before it are known, and nothing
-- else.
use Rattle.std.specs.Prelude.{◌≡◌, ◌⊎◌, ℕ, zero, suc, List, [], ◌∷◌, ◌++◌, length, codes}
use Rattle.chem_model.specs.declared.event.AtomId.{AtomId}
use Rattle.chem_model.specs.declared.event.Event.{Event}
use Rattle.chem_model.specs.declared.event.Event.TheVariants.{React, Move, Halt, Detect}
use Rattle.trace_text.specs.LogText.{LogParts, Spells}
use Rattle.trace_text.specs.Fields.{Format, whole, field, word, number, counted, WrongBy}

-- a text as one field
abbrev pub literal : {A : Type 0} → List ℕ → Format A → Format A
literal text next = field (word (text ∷ [])) (λ _. next)

-- a pair: its site, and its number there
abbrev pub pair : {A : Type 0} → (AtomId → Format A) → Format A
pair next =
    field (number 0 4294967295) (λ site.
    literal (codes ".") (
    field (number 0 18446744073709551615) (λ k.
    next (record { site = site; k = k }))))

-- the format behind a space, or the one behind a line feed
abbrev pub by_mark : {A : Type 0} → Format A → Format A → ℕ → Format A
by_mark space line_feed zero = space
by_mark space line_feed (suc _) = line_feed

-- the atoms behind those in front, at most so many, each after one space, and then a line feed
unfoldable pub further : {A : Type 0} → ℕ → List AtomId → (List AtomId → Format A) → Format A
further zero front next =
    literal (codes "\n") (next front)
further (suc n) front next =
    field (word (codes " " ∷ codes "\n" ∷ []))
    (by_mark (pair (λ atom. further n (front ++ atom ∷ []) next)) (next front))

-- the atoms that a reaction takes, of which there is one at least
abbrev pub taken : {A : Type 0} → ℕ → (List AtomId → Format A) → Format A
taken n next =
    literal (codes " ") (
    pair (λ atom.
    further n (atom ∷ []) next))

abbrev pub one_pair : {A : Type 0} → (AtomId → Format A) → Format A
one_pair next =
    pair (λ atom.
    literal (codes "\n") (
    next atom))

-- a reaction: its rule, and the atoms that it takes
abbrev pub reaction : {A : Type 0} → ℕ → (Event → Format A) → AtomId → Format A
reaction n next rule =
    taken n (λ took. next (React (record { site = rule.site; k = rule.k }) took))

-- The table of events: which words there are, and what follows each.
abbrev pub event_words : List (List ℕ)
event_words = codes "react " ∷ codes "move " ∷ codes "halt " ∷ codes "detect " ∷ []

abbrev pub by_word : {A : Type 0} → ℕ → (Event → Format A) → ℕ → Format A
by_word n next zero = pair (reaction n next)
by_word n next (suc zero) = one_pair (λ atom. next (Move atom))
by_word n next (suc (suc zero)) = one_pair (λ atom. next (Halt atom))
by_word n next (suc (suc (suc _))) = one_pair (λ atom. next (Detect atom))

abbrev pub event_line : {A : Type 0} → ℕ → (Event → Format A) → Format A
event_line n next =
    field (word event_words) (by_word n next)

-- so many lines of events behind those in front
unfoldable pub lines : {A : Type 0} → ℕ → List Event → ℕ → (List Event → Format A) → Format A
lines n front zero next = next front
lines n front (suc count) next =
    event_line n (λ event. lines n (front ++ event ∷ []) count next)

-- bytes behind their length, which is at most this
abbrev pub counted_text : {A : Type 0} → ℕ → (List ℕ → Format A) → Format A
counted_text most next =
    field (number 0 most) (λ count.
    literal (codes "\n") (
    field (counted count) next))

abbrev pub last_part : List ℕ → ℕ → List Event → Format LogParts
last_part source budget events =
    literal (codes "trace ") (
    counted_text 18446744073709551615 (λ trace.
    whole (record { source = source; budget = budget; events = events; trace = trace })))

abbrev pub events_part : ℕ → List ℕ → ℕ → Format LogParts
events_part n source budget =
    literal (codes "\nevents ") (
    field (number 0 budget) (λ count.
    literal (codes "\n") (
    lines n [] count (last_part source budget))))

-- The table of kinds: how a log of each begins, and its least and largest budget.
abbrev pub beginnings : List (List ℕ)
beginnings = codes "joinlog 1\nsource " ∷ codes "joinlog 2\nsource " ∷ []

abbrev pub least_budget : ℕ → ℕ
least_budget zero = 0
least_budget (suc _) = 1000001

abbrev pub most_budget : ℕ → ℕ
most_budget zero = 1000000
most_budget (suc _) = 4000000

abbrev pub budget_part : ℕ → ℕ → List ℕ → Format LogParts
budget_part n kind source =
    literal (codes "\nbudget ") (
    field (number (least_budget kind) (most_budget kind)) (events_part n source))

-- A log in which each reaction takes at most so many atoms behind its first one: a format ends, so
-- it has such a bound.
unfoldable pub log_fields : ℕ → Format LogParts
log_fields n =
    field (word beginnings) (λ kind.
    counted_text 1048576 (budget_part n kind))

-- The first field at which these bytes are no log begins at this place. No reaction takes more
-- atoms than there are bytes.
abbrev pub WrongAt : List ℕ → ℕ → Type 0
WrongAt bytes place = WrongBy (log_fields (length bytes)) bytes place

-- Bytes spell one log, or they have one field that is wrong first, and never both.
pub record HasOneOutcome (bytes : List ℕ) : Type 0 where
  pub some : ((log : LogParts) × Spells log bytes) ⊎ ((place : ℕ) × WrongAt bytes place)
  pub one_log : (a b : LogParts) → Spells a bytes → Spells b bytes → a ≡ b
  pub one_place : (m n : ℕ) → WrongAt bytes m → WrongAt bytes n → m ≡ n
  pub not_both : (log : LogParts) (place : ℕ) → Spells log bytes → WrongAt bytes place → ⊥
