-- What a list of choices does, one after another.
use Rattle.std.specs.Prelude.{◌≡◌, ℕ, ◌+◌, ◌*◌, List, [], ◌∷◌, Option, Some, None, length}
use Rattle.chem_model.specs.declared.event.AtomId.{AtomId}
use Rattle.chem_model.specs.declared.event.Event.{Event}
use Rattle.chem_model.specs.declared.event.Event.TheVariants as event
use Rattle.chem_model.specs.declared.numbered.Numbered.{Numbered}
use Rattle.chem_model.specs.ProgramFacts.{ProgramTerms, IsProgram}
use Rattle.chem_model.specs.Apply.{replay_from}
use Rattle.chem_model.specs.Opening.{opening}
use Rattle.env_store.specs.CodeParts.{CodeParts}
use Rattle.env_store.specs.CodeFacts.{IsCode}
use Rattle.env_store.specs.Reading.{IsCodeOf}
use Rattle.env_store.specs.Laws.{rules_of_group}
use Rattle.net_laws.specs.Net.{Net, Stands}
use Rattle.net_laws.specs.Opened.{RunsCode, opened_net}
use Rattle.net_core.specs.Acting.{Reacts, Delivers, Halts, Detects, Moves}
use Rattle.net_core.specs.Rising.{AllMade}

-- one choice, whichever it is, with its event if it has one
pub data Does (c : CodeParts) (net : Net) : Option Event → Net → Type 0 where
  react : (i j k : ℕ) (e : Event) (new : Net) → Reacts c net i j k e new → Does c net (Some e) new
  deliver : (f : ℕ) (new : Net) → Delivers net f new → Does c net None new
  halt : (a : AtomId) (new : Net) → Halts net a new → Does c net (Some (event.Halt a)) new
  detect : (a : AtomId) (new : Net) → Detects net a new → Does c net (Some (event.Detect a)) new
  move : (a : AtomId) (new : Net) → Moves net a new → Does c net (Some (event.Move a)) new

-- a list of them, and their events in order
pub data DoesAll (c : CodeParts) : Net → List Event → Net → Type 0 where
  stops : (net : Net) → DoesAll c net [] net
  makes :
      (net mid end : Net) (e : Event) (es : List Event)
      → Does c net (Some e) mid → DoesAll c mid es end → DoesAll c net (e ∷ es) end
  carries :
      (net mid end : Net) (es : List Event)
      → Does c net None mid → DoesAll c mid es end → DoesAll c net es end

-- the events replay from the solution, to one for which the network then stands
pub record IsPlayed (p : ProgramTerms) (c : CodeParts) (n : Numbered) (es : List Event)
    (new : Net) : Type 0 where
  pub after : Numbered
  pub replays : replay_from (Some n) es ≡ Some after
  pub stands : Stands (rules_of_group p) new after
  pub runs : RunsCode p c new

-- for every list of choices, from each solution for which the network stands, where it runs the
-- code of the program
abbrev pub ListsReplay : Type 0
ListsReplay =
    (c : CodeParts) (net end : Net) (es : List Event) → IsCode c → DoesAll c net es end
    → (p : ProgramTerms) (n : Numbered) → IsProgram p → IsCodeOf p c
    → Stands (rules_of_group p) net n → RunsCode p c net → IsPlayed p c n es end

-- so from the network that a program's code opens, the events of every list of choices replay from
-- the program's opening, and they bound how many numbers each site has made
abbrev pub OpenedPlay : Type 0
OpenedPlay =
    (p : ProgramTerms) (c : CodeParts) → IsProgram p → IsCode c → IsCodeOf p c
    → (end : Net) (es : List Event) → DoesAll c (opened_net p.version c) es end
    → IsPlayed p c (opening p) es end × AllMade (1048576 * (length es + 1)) end
