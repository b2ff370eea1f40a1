-- When no choice of a network comes next.
use Rattle.std.specs.Prelude.{◌≡◌, [], Option, None, ◌↔◌}
use Rattle.chem_model.specs.declared.numbered.Numbered.{Numbered}
use Rattle.chem_model.specs.ProgramFacts.{ProgramTerms, IsProgram}
use Rattle.chem_model.specs.Numbered.{erase}
use Rattle.chem_model.specs.Reduction.{Quiet}
use Rattle.env_store.specs.CodeParts.{CodeParts}
use Rattle.env_store.specs.Reading.{IsCodeOf}
use Rattle.env_store.specs.Laws.{rules_of_group}
use Rattle.net_laws.specs.Net.{Net, Stands}
use Rattle.net_laws.specs.Opened.{RunsCode}
use Rattle.net_core.specs.declared.choice.Choice.{Choice}

-- for each program whose code it is, and each solution for which the network stands: none comes
-- exactly where nothing is under way and the machine is quiet
abbrev pub IsNoneWhereQuiet : CodeParts → Net → Option Choice → Type 0
IsNoneWhereQuiet c net next =
    (p : ProgramTerms) (n : Numbered) → IsProgram p → IsCodeOf p c
    → Stands (rules_of_group p) net n → RunsCode p c net
    → (next ≡ None) ↔ ((net.packets ≡ []) × Quiet n.version n.seen (erase n))
