-- What a node stands for.
use Rattle.join_parse.specs.Source.{Process, Definition, processes, definitions}
use Rattle.join_parse.specs.Source as t
use Rattle.join_parse.specs.declared.tree.ProcNode.{ProcNode}
use Rattle.join_parse.specs.declared.tree.ProcNode.TheVariants.{Zero, Msg, Go, Fail}
use Rattle.join_parse.specs.declared.tree.ProcNode.TheVariants.{Halt, Add, Same, Group, Def}
use Rattle.join_parse.specs.declared.tree.DefNode.{DefNode}
use Rattle.join_parse.specs.declared.tree.DefNode.TheVariants.{Rule, Place}

abbrev pub process_of : ProcNode → Process
process_of Zero = t.Zero
process_of (Msg x vs) = t.Msg x vs
process_of (Go b k) = t.Go b k
process_of (Fail b k) = t.Fail b k
process_of Halt = t.Halt
process_of (Add l r k) = t.Add l r k
process_of (Same l r y n) = t.Same l r y n
process_of (Group ps) = t.Group (processes ps)
process_of (Def ds p) = t.Def (definitions ds) (processes p)

abbrev pub definition_of : DefNode → Definition
definition_of (Rule ps p) = t.Rule ps (processes p)
definition_of (Place p) = t.Place p.opener p.name (definitions p.defs) (processes p.body)
