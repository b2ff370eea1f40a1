-- The log of a run: fields in this order, each written in one way.
use Rattle.std.specs.Prelude.{◌≡◌, ℕ, ◌<◌, ◌≤◌, ◌^◌, List, [], ◌∷◌, ◌++◌, length, codes, decimal}
use Rattle.std.specs.Prelude.{cond, nat_le}
use Rattle.chem_model.specs.declared.event.AtomId.{AtomId}
use Rattle.chem_model.specs.declared.event.Event.{Event}
use Rattle.chem_model.specs.declared.event.Event.TheVariants.{React, Move, Halt, Detect}
use Rattle.chem_model.specs.Each.{Each}

-- what a log says: the source, the budget, the events of the journal, and the text of the trace
pub record LogParts : Type 0 where
  pub source : List ℕ
  pub budget : ℕ
  pub events : List Event
  pub trace : List ℕ

-- a pair: its site and its number, in decimal without leading zeros, with a point between
abbrev pub pair_text : ℕ → ℕ → List ℕ
pair_text site k = decimal site ++ codes "." ++ decimal k

-- each atom after one space
abbrev pub atoms_text : List AtomId → List ℕ
atoms_text [] = []
atoms_text (a ∷ others) = codes " " ++ pair_text a.site a.k ++ atoms_text others

abbrev pub event_text : Event → List ℕ
event_text (React r took) = codes "react " ++ pair_text r.site r.k ++ atoms_text took ++ codes "\n"
event_text (Move a) = codes "move " ++ pair_text a.site a.k ++ codes "\n"
event_text (Halt a) = codes "halt " ++ pair_text a.site a.k ++ codes "\n"
event_text (Detect a) = codes "detect " ++ pair_text a.site a.k ++ codes "\n"

abbrev pub events_text : List Event → List ℕ
events_text [] = []
events_text (e ∷ events) = event_text e ++ events_text events

-- how a log begins: there are two kinds, and the second has the budgets above 1,000,000
unfoldable pub beginning : ℕ → List ℕ
beginning budget =
    cond (nat_le budget 1000000) (codes "joinlog 1\nsource ") (codes "joinlog 2\nsource ")

abbrev pub log_text : LogParts → List ℕ
log_text log =
    beginning log.budget ++ decimal (length log.source) ++ codes "\n" ++ log.source
    ++ codes "\nbudget " ++ decimal log.budget
    ++ codes "\nevents " ++ decimal (length log.events) ++ codes "\n" ++ events_text log.events
    ++ codes "trace " ++ decimal (length log.trace) ++ codes "\n" ++ log.trace

-- a pair of a log: its site is a number of 32 bits, and its number one of 64
abbrev pub IsPair : ℕ → ℕ → Type 0
IsPair site k = (site < 2 ^ 32) × (k < 2 ^ 64)

abbrev pub IsAtom : AtomId → Type 0
IsAtom a = IsPair a.site a.k

-- an event of a log: its pairs are within their bounds, and a reaction takes an atom
abbrev pub IsLogged : Event → Type 0
IsLogged (React r took) = IsPair r.site r.k × ((0 < length took) × Each IsAtom took)
IsLogged (Move a) = IsAtom a
IsLogged (Halt a) = IsAtom a
IsLogged (Detect a) = IsAtom a

-- the bytes spell the log, whose numbers are within their bounds: each log has at most one spelling
pub record Spells (log : LogParts) (bytes : List ℕ) : Type 0 where
  pub is : bytes ≡ log_text log
  pub source : length log.source ≤ 1048576
  pub budget : log.budget ≤ 4000000
  pub events : length log.events ≤ log.budget
  pub logged : Each IsLogged log.events
  pub trace : length log.trace < 2 ^ 64

-- the log has at most one spelling
abbrev pub HasOneSpelling : LogParts → Type 0
HasOneSpelling log = (one other : List ℕ) → Spells log one → Spells log other → one ≡ other
