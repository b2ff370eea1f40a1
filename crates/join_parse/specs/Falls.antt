-- Each part is less deep than the whole.
use Rattle.std.specs.Prelude.{◌≤◌, ◌+◌, max, List, [], ◌∷◌}
use Rattle.std.proofs.Common.{arith}
use denote.Param.Weighed.{most}
use Rattle.join_parse.specs.declared.tree.ProcNode.{ProcNode}
use Rattle.join_parse.specs.declared.tree.ProcNode.TheVariants.{Zero, Msg, Go, Fail}
use Rattle.join_parse.specs.declared.tree.ProcNode.TheVariants.{Halt, Add, Same, Group, Def}
use Rattle.join_parse.specs.declared.tree.DefNode.{DefNode}
use Rattle.join_parse.specs.declared.tree.DefNode.TheVariants.{Rule, Place}
use Rattle.join_parse.specs.Source.{Process, Definition}
use Rattle.join_parse.specs.SourceSize.{process_depth, definition_depth, procs_depth, defs_depth}
use Rattle.join_parse.specs.Nodes.{process_of, definition_of}
use Rattle.join_parse.specs.declared.tree.DefTree.TheDeep.{deep-ProcNode, deep-DefNode}

-- the depths of a list's members, each more by one
pub most_le-procs_depth : (ps : List Process) → most (λ p. process_depth p + 1) ps ≤ procs_depth ps
most_le-procs_depth [] = omega arith
most_le-procs_depth (p ∷ ps) = omega (arith, most_le-procs_depth ps)

pub most_le-defs_depth : (ds : List Definition)
    → most (λ d. definition_depth d + 1) ds ≤ defs_depth ds
most_le-defs_depth [] = omega arith
most_le-defs_depth (d ∷ ds) = omega (arith, most_le-defs_depth ds)

pub depth_le-process : (n : ProcNode) → max (deep-ProcNode n) 0 ≤ process_depth (process_of n)
depth_le-process (Msg x vs) = omega arith
depth_le-process Zero = omega arith
depth_le-process (Group ps) = omega (arith, most_le-procs_depth ps)
depth_le-process (Def ds p) = omega (arith, most_le-defs_depth ds, most_le-procs_depth p)
depth_le-process (Go b k) = omega arith
depth_le-process (Fail b k) = omega arith
depth_le-process Halt = omega arith
depth_le-process (Add l r k) = omega arith
depth_le-process (Same l r y n) = omega arith

pub depth_le-definition : (n : DefNode)
    → max (deep-DefNode n) 0 ≤ definition_depth (definition_of n)
depth_le-definition (Rule ps p) = omega (arith, most_le-procs_depth p)
depth_le-definition (Place p) = omega (arith, most_le-defs_depth p.defs, most_le-procs_depth p.body)
