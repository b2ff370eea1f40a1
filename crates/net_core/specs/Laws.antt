-- What a network does by code is one event of the solution for which it stands, or none.
use Rattle.std.specs.Prelude.{ℕ, Option, Some, None}
use Rattle.chem_model.specs.declared.event.AtomId.{AtomId}
use Rattle.chem_model.specs.declared.event.Event.{Event}
use Rattle.chem_model.specs.declared.event.Event.TheVariants as event
use Rattle.chem_model.specs.declared.numbered.Numbered.{Numbered}
use Rattle.chem_model.specs.ProgramFacts.{ProgramTerms, IsProgram}
use Rattle.env_store.specs.CodeParts.{CodeParts}
use Rattle.env_store.specs.CodeFacts.{IsCode}
use Rattle.env_store.specs.Reading.{IsCodeOf}
use Rattle.env_store.specs.Laws.{rules_of_group}
use Rattle.net_laws.specs.Net.{Net, Stands}
use Rattle.net_laws.specs.Choices.{Leads}
use Rattle.net_laws.specs.Opened.{RunsCode}
use Rattle.net_core.specs.Acting.{Reacts, Delivers, Halts, Detects, Moves}

-- the network stands for what the event leads to, or without one for the same solution, and runs
-- the code still
pub record IsLed (p : ProgramTerms) (c : CodeParts) (n : Numbered) (o : Option Event)
    (new : Net) : Type 0 where
  pub leads : Leads (rules_of_group p) n o new
  pub runs : RunsCode p c new

-- where the network stands for the solution and runs the code of the program
abbrev pub IsLedFrom : Net → Option Event → Net → CodeParts → Type 0
IsLedFrom net o new c =
    (p : ProgramTerms) (n : Numbered) → IsProgram p → IsCodeOf p c
    → Stands (rules_of_group p) net n → RunsCode p c net → IsLed p c n o new

module _ (c : CodeParts) (net new : Net) where
  abbrev pub ReactionLeads : Type 0
  ReactionLeads =
      (i j k : ℕ) (e : Event) → Reacts c net i j k e new → IsLedFrom net (Some e) new c

  abbrev pub DeliveryLeads : Type 0
  DeliveryLeads = (f : ℕ) → Delivers net f new → IsLedFrom net None new c

  abbrev pub HaltLeads : Type 0
  HaltLeads = (a : AtomId) → Halts net a new → IsLedFrom net (Some (event.Halt a)) new c

  abbrev pub DetectionLeads : Type 0
  DetectionLeads = (a : AtomId) → Detects net a new → IsLedFrom net (Some (event.Detect a)) new c

  abbrev pub MoveLeads : Type 0
  MoveLeads = (a : AtomId) → Moves net a new → IsLedFrom net (Some (event.Move a)) new c

-- of every two networks, where the code is one
abbrev pub ActsLead : Type 0
ActsLead =
    (c : CodeParts) (net new : Net) → IsCode c
    → ReactionLeads c net new × DeliveryLeads c net new × HaltLeads c net new
    × DetectionLeads c net new × MoveLeads c net new
