-- What a run in rounds is: events of the program's machine, to where it is quiet or the budget is
-- spent.
use Rattle.std.specs.Prelude.{◌≡◌, ℕ, ◌≤◌, ◌⊎◌, List, [], length}
use Rattle.chem_model.specs.declared.event.Event.{Event}
use Rattle.chem_model.specs.ProgramFacts.{ProgramTerms, IsProgram}
use Rattle.chem_model.specs.Numbered.{erase}
use Rattle.chem_model.specs.Opening.{opening}
use Rattle.chem_model.specs.Reduction.{Quiet}
use Rattle.env_store.specs.CodeParts.{CodeParts}
use Rattle.env_store.specs.CodeFacts.{IsCode}
use Rattle.env_store.specs.Reading.{IsCodeOf}
use Rattle.net_laws.specs.Net.{Net}
use Rattle.net_laws.specs.Opened.{opened_net}
use Rattle.net_core.specs.Playing.{DoesAll, IsPlayed}
use Rattle.net_core.specs.Scheduling.{ScheduleOfRounds}

-- the events are those of a list of choices, so they replay from the program's opening to a
-- solution for which the network then stands; they are at most as many as the budget; and they are
-- exactly as many, or nothing is under way and the machine is quiet
pub record IsRunInRounds (p : ProgramTerms) (c : CodeParts) (budget : ℕ) (es : List Event)
    (end : Net) : Type 0 where
  pub does : DoesAll c (opened_net p.version c) es end
  pub played : IsPlayed p c (opening p) es end
  pub within : length es ≤ budget
  pub ends :
      (length es ≡ budget)
      ⊎ ((end.packets ≡ []) × Quiet played.after.version played.after.seen (erase played.after))

-- so is each schedule of rounds
abbrev pub RoundsReplay : Type 0
RoundsReplay =
    (p : ProgramTerms) (c : CodeParts) → IsProgram p → IsCode c → IsCodeOf p c
    → (budget : ℕ) (es : List Event) (end : Net)
    → ScheduleOfRounds p.version c budget es end → IsRunInRounds p c budget es end
