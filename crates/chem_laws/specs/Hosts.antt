-- What the locations of a run keep.
use Rattle.std.specs.Prelude.{◌≡◌, List, Some, None, true}
use Rattle.chem_model.specs.declared.name.Loc.{Loc}
use Rattle.chem_model.specs.ProgramFacts.{ProgramTerms}
use Rattle.chem_model.specs.Each.{Each}
use Rattle.chem_model.specs.Solution.{Solution, Places, is_there, host_of}
use Rattle.chem_model.specs.Runs.{IsRun}

-- a root: a location of the solution that has no host
abbrev pub IsRootOf : Places → Loc → Type 0
IsRootOf pl l = (is_there (pl l) ≡ true) × (host_of (pl l) ≡ None)

-- every host is a root
abbrev pub HostsAreRoots : Places → Type 0
HostsAreRoots pl = (l h : Loc) → host_of (pl l) ≡ Some h → IsRootOf pl h

-- in each solution of a run every host is a root
abbrev pub RunsKeepRoots : Type 0
RunsKeepRoots =
    (p : ProgramTerms) (solutions : List Solution)
    → IsRun p solutions → Each (λ (s : Solution). HostsAreRoots s.places) solutions
