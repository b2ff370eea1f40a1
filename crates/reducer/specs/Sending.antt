-- How many messages a reaction sends away.
use Rattle.std.specs.Prelude.{◌≡◌, ℕ, ◌≤◌, List, ◌++◌, length}
use Rattle.chem_model.specs.declared.name.Name.{Name}
use Rattle.chem_model.specs.ProgramFacts.{ProgramTerms, IsProgram}
use Rattle.env_store.specs.CodeParts.{CodeParts}
use Rattle.env_store.specs.CodeFacts.{received}
use Rattle.env_store.specs.Reading.{IsCodeOf}
use Rattle.env_store.specs.Running.{code_made}
use Rattle.env_store.specs.Laws.{IsGroupIn}
use Rattle.loc_tree.specs.Tree.{Tree}
use Rattle.net_laws.specs.Site.{Site}
use Rattle.net_laws.specs.ByCode.{run_here}
use Rattle.reducer.specs.Picks.{Picked}

-- where the code is that of a program, and the group is one of the program's: whatever names are
-- received, a run of the guard's body sends at most so many messages away, from whatever site
abbrev pub SendsAtMost : CodeParts → Picked → ℕ → Type 0
SendsAtMost c x n =
    (p : ProgramTerms) → IsProgram p → IsCodeOf p c → IsGroupIn p x.group.told.inst
    → (t : Tree) (s : Site) (args : List Name)
    → length args ≡ received x.level.counts x.guard.chans
    → let g = x.group.told.inst in
    let a = code_made c s.number x.guard.body (g.env ++ args) g.loc s.made in
    length (run_here c t a s).sends ≤ n
