-- What a node stands for.
use Rattle.chem_model.specs.Process.{Process, Definition, processes, definitions}
use Rattle.chem_model.specs.Process as t
use Rattle.chem_model.specs.declared.term.ProcNode.{ProcNode}
use Rattle.chem_model.specs.declared.term.ProcNode.TheVariants.{Msg, Par, Def, Go, Fail, Halt}
use Rattle.chem_model.specs.declared.term.DefnNode.{DefnNode}
use Rattle.chem_model.specs.declared.term.DefnNode.TheVariants.{Rule, Place}

abbrev pub process_of : ProcNode → Process
process_of (Msg x vs) = t.Msg x vs
process_of (Par ps) = t.Par (processes ps)
process_of (Def ds p) = t.Def (definitions ds) p.value
process_of (Go b k) = t.Go b k
process_of (Fail b k) = t.Fail b k
process_of Halt = t.Halt

abbrev pub definition_of : DefnNode → Definition
definition_of (Rule ps p) = t.Rule ps p.value
definition_of (Place a ds p) = t.Place a (definitions ds) p.value
