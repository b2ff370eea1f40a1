-- How far the counts of sites rise, and that births are new.
use Rattle.std.specs.Prelude.{ℕ, ◌+◌, ◌++◌, ◌≤◌}
use Rattle.chem_model.specs.declared.event.AtomId.{AtomId}
use Rattle.chem_model.specs.declared.event.Event.{Event}
use Rattle.chem_model.specs.declared.numbered.Numbered.{Numbered}
use Rattle.chem_model.specs.ProgramFacts.{ProgramTerms, IsProgram}
use Rattle.chem_model.specs.Each.{Each}
use Rattle.env_store.specs.CodeParts.{CodeParts}
use Rattle.env_store.specs.CodeFacts.{IsCode}
use Rattle.env_store.specs.Reading.{IsCodeOf}
use Rattle.env_store.specs.Laws.{rules_of_group}
use Rattle.env_store.specs.Running.{code_made}
use Rattle.net_laws.specs.Site.{Site}
use Rattle.net_laws.specs.Net.{Net, Stands}
use Rattle.net_laws.specs.ByCode.{args_of}
use Rattle.net_laws.specs.Opened.{RunsCode, AreNew}
use Rattle.net_core.specs.Acting.{Reacts, Delivers, Halts, Detects, Moves}

-- each site has made at most so many numbers
abbrev pub AllMade : ℕ → Net → Type 0
AllMade most net = Each (λ (s : Site). s.made ≤ most) net.sites

-- an event draws at most 1,048,576 numbers, and a delivery none
pub record Rises (c : CodeParts) (net new : Net) : Type 0 where
  pub reacts :
      (i j k most : ℕ) (e : Event) → Reacts c net i j k e new
      → AllMade most net → AllMade (most + 1048576) new
  pub delivers : (f most : ℕ) → Delivers net f new → AllMade most net → AllMade most new
  pub halts : (a : AtomId) (most : ℕ) → Halts net a new → AllMade most net → AllMade most new
  pub detects :
      (a : AtomId) (most : ℕ) → Detects net a new
      → AllMade most net → AllMade (most + 1) new
  pub moves :
      (a : AtomId) (most : ℕ) → Moves net a new → AllMade most net → AllMade (most + 1) new

abbrev pub CountsRise : Type 0
CountsRise =
    (p : ProgramTerms) (c : CodeParts) → IsProgram p → IsCode c → IsCodeOf p c
    → (net new : Net) (n : Numbered) → Stands (rules_of_group p) net n → RunsCode p c net
    → Rises c net new

-- the locations that a reaction bears are new to the tree
abbrev pub ReactionsBearNew : Type 0
ReactionsBearNew =
    (p : ProgramTerms) (c : CodeParts) → IsProgram p → IsCode c → IsCodeOf p c
    → (net new : Net) (n : Numbered) → Stands (rules_of_group p) net n → RunsCode p c net
    → (i j k : ℕ) (e : Event) (does : Reacts c net i j k e new)
    → let g = does.by.group.told.inst in
    let env = g.env ++ args_of does.taken in
    AreNew net.tree i (code_made c i does.by.guard.body env g.loc does.by.site.made).births
