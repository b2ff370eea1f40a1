-- What a network does by a choice is one thing: there is one event, and one network that it leaves.
use Rattle.std.specs.Prelude.{◌≡◌, ℕ}
use Rattle.chem_model.specs.declared.event.AtomId.{AtomId}
use Rattle.chem_model.specs.declared.event.Event.{Event}
use Rattle.chem_model.specs.declared.numbered.Numbered.{Numbered}
use Rattle.chem_model.specs.ProgramFacts.{ProgramTerms}
use Rattle.env_store.specs.CodeParts.{CodeParts}
use Rattle.env_store.specs.Laws.{rules_of_group}
use Rattle.net_laws.specs.Net.{Net, Stands}
use Rattle.net_laws.specs.Opened.{RunsCode}
use Rattle.net_core.specs.Acting.{Reacts, Delivers, Halts, Detects, Moves}

-- each choice of the network
pub record DoesOneThing (c : CodeParts) (net : Net) : Type 0 where
  pub reacts :
      (i j k : ℕ) (e f : Event) (new other : Net)
      → Reacts c net i j k e new → Reacts c net i j k f other → (e ≡ f) × (new ≡ other)
  pub delivers :
      (f : ℕ) (new other : Net) → Delivers net f new → Delivers net f other → new ≡ other
  pub halts : (a : AtomId) (new other : Net) → Halts net a new → Halts net a other → new ≡ other
  pub detects :
      (a : AtomId) (new other : Net) → Detects net a new → Detects net a other → new ≡ other
  pub moves : (a : AtomId) (new other : Net) → Moves net a new → Moves net a other → new ≡ other

-- where it stands for a solution and runs the code of a program
abbrev pub ActsAreOne : Type 0
ActsAreOne =
    (p : ProgramTerms) (c : CodeParts) (net : Net) (n : Numbered)
    → Stands (rules_of_group p) net n → RunsCode p c net → DoesOneThing c net
