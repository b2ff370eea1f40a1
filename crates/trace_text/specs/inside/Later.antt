-- The text of a list of names behind its first one.
use Rattle.std.specs.Prelude.{ℕ, List, [], ◌∷◌, ◌++◌, codes}
use Rattle.chem_model.specs.declared.name.Name.{Name}
use Rattle.chem_model.specs.ProgramFacts.{ProgramTerms}
use Rattle.chem_model.specs.Fill.{Naming}
use Rattle.trace_text.specs.TraceText.{name_text}

-- the names that come later in a list, each behind a comma and a space
abbrev pub later_text : ProgramTerms → Naming → List Name → List Name → List ℕ
later_text p named ranks [] = []
later_text p named ranks (x ∷ xs) =
    codes ", " ++ name_text p named ranks x ++ later_text p named ranks xs
