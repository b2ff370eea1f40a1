-- Each part is less deep than the whole.
use Rattle.std.specs.Prelude.{◌≤◌, ◌+◌, max, List, [], ◌∷◌}
use Rattle.std.proofs.Common.{arith}
use denote.Param.Weighed.{most}
use Rattle.chem_model.specs.declared.term.ProcNode.{ProcNode}
use Rattle.chem_model.specs.declared.term.ProcNode.TheVariants.{Msg, Par, Def, Go, Fail, Halt}
use Rattle.chem_model.specs.declared.term.DefnNode.{DefnNode}
use Rattle.chem_model.specs.declared.term.DefnNode.TheVariants.{Rule, Place}
use Rattle.chem_model.specs.Process.{Process, Definition}
use Rattle.chem_model.specs.ProcessSize.{process_depth, definition_depth, procs_depth, defs_depth}
use Rattle.chem_model.specs.Nodes.{process_of, definition_of}
use Rattle.chem_model.specs.declared.term.Defn.TheDeep.{deep-ProcNode, deep-DefnNode}

-- the depths of a list's members, each more by one
pub most_le-procs_depth : (ps : List Process) → most (λ p. process_depth p + 1) ps ≤ procs_depth ps
most_le-procs_depth [] = omega arith
most_le-procs_depth (p ∷ ps) = omega (arith, most_le-procs_depth ps)

pub most_le-defs_depth : (ds : List Definition)
    → most (λ d. definition_depth d + 1) ds ≤ defs_depth ds
most_le-defs_depth [] = omega arith
most_le-defs_depth (d ∷ ds) = omega (arith, most_le-defs_depth ds)

pub depth_le-process : (n : ProcNode) → max (deep-ProcNode n) 0 ≤ process_depth (process_of n)
depth_le-process (Msg x vs) = omega arith
depth_le-process (Par ps) = omega (arith, most_le-procs_depth ps)
depth_le-process (Def ds p) = omega (arith, most_le-defs_depth ds)
depth_le-process (Go b k) = omega arith
depth_le-process (Fail b k) = omega arith
depth_le-process Halt = omega arith

pub depth_le-definition : (n : DefnNode)
    → max (deep-DefnNode n) 0 ≤ definition_depth (definition_of n)
depth_le-definition (Rule ps p) = omega arith
depth_le-definition (Place a ds p) = omega (arith, most_le-defs_depth ds)
