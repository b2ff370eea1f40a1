-- A member of a list is less deep than the list.
use Rattle.std.specs.Prelude.{◌≡◌, ◌<◌, List, [], ◌∷◌, ℕ, zero, suc, length}
use Rattle.std.proofs.Common.{arith, get_or, ap}
use Rattle.chem_model.specs.Process.{Process, Definition}
use Rattle.chem_model.specs.ProcessSize.{process_depth, definition_depth, procs_depth, defs_depth}

pub procs_depth-get_or : (ps : List Process) (i : ℕ) (d : Process) → i < length ps
    → process_depth (get_or ps i d) < procs_depth ps
procs_depth-get_or [] i d h = omega arith
procs_depth-get_or (p ∷ ps) zero d h = omega arith
procs_depth-get_or (p ∷ ps) (suc i) d h = omega (arith, procs_depth-get_or ps i d (omega arith))

pub procs_depth-member : (ps : List Process) (i : ℕ) (p : Process) → i < length ps
    → p ≡ get_or ps i p → process_depth p < procs_depth ps
procs_depth-member ps i p h e = omega (arith, procs_depth-get_or ps i p h, ap process_depth e)

pub defs_depth-get_or : (ds : List Definition) (i : ℕ) (d : Definition) → i < length ds
    → definition_depth (get_or ds i d) < defs_depth ds
defs_depth-get_or [] i d h = omega arith
defs_depth-get_or (p ∷ ps) zero d h = omega arith
defs_depth-get_or (p ∷ ps) (suc i) d h = omega (arith, defs_depth-get_or ps i d (omega arith))

pub defs_depth-member : (ds : List Definition) (i : ℕ) (p : Definition) → i < length ds
    → p ≡ get_or ds i p → definition_depth p < defs_depth ds
defs_depth-member ps i p h e = omega (arith, defs_depth-get_or ps i p h, ap definition_depth e)
