-- Heating: a solution is split into its parts.
use Rattle.std.specs.Prelude.{◌≡◌, None, Some, true}
use Rattle.chem_model.specs.declared.name.Loc.{Loc}
use Rattle.chem_model.specs.declared.name.Name.TheVariants as name
use Rattle.chem_model.specs.declared.name.Ref.TheVariants.{Known}
use Rattle.chem_model.specs.Process.{Process, Par, Def, Processes, members, Place, Definitions}
use Rattle.chem_model.specs.Process.{clauses}
use Rattle.chem_model.specs.Bag.{one, bag, ◌⊕◌}
use Rattle.chem_model.specs.Fill.{Naming, fill, fill_definitions}
use Rattle.chem_model.specs.Solution.{Solution, Defs, Procs, coded_located_process}
use Rattle.chem_model.specs.Solution.{coded_located_definition, root, live, born, at}
use Rattle.chem_model.specs.NewNames.{NewNames}

-- one step of heating, from s to t
pub data Heats (s t : Solution) : Type 0 where
  -- a parallel composition is replaced by its members: P | Q becomes P and Q, and 0 vanishes
  par : (l : Loc) (ps : Processes) (rest : Procs)
      → s.procs ≡ one coded_located_process (l, Par ps) ⊕ rest
      → t ≡ record s { procs = bag coded_located_process (at l (members ps)) ⊕ rest }
      → Heats s t
  -- def D in P becomes the members of D and P, both with new names for the names that D defines
  def : (l : Loc) (ds : Definitions) (p : Process) (m : Naming) (rest : Procs)
      → s.procs ≡ one coded_located_process (l, Def ds p) ⊕ rest
      → NewNames s l m ds
      → t ≡ record s {
        defs = bag coded_located_definition (at l (clauses (fill_definitions m ds))) ⊕ s.defs;
        procs = one coded_located_process (l, fill m p) ⊕ rest;
      }
      → Heats s t
  -- a[D : P] in a live location becomes a new location, hosted by the root of that one, with the
  -- members of D and with P
  place : (l a : Loc) (ds : Definitions) (p : Process) (rest : Defs)
      → live s.places l ≡ true
      → s.places a ≡ None
      → s.defs ≡ one coded_located_definition (l, Place (Known (name.Place a)) ds p) ⊕ rest
      → t ≡ record s {
        places = born s.places a (Some (root s.places l));
        defs = bag coded_located_definition (at a (clauses ds)) ⊕ rest;
        procs = one coded_located_process (a, p) ⊕ s.procs;
      }
      → Heats s t

-- one step of cooling, the converse; no run needs it
abbrev pub Cools : Solution → Solution → Type 0
Cools s t = Heats t s
