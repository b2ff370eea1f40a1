-- How deep a tree is.
use Rattle.std.specs.Prelude.{ℕ, ◌+◌, max, List}
use Rattle.join_parse.specs.Source.{Process, Zero, Msg, Go, Fail, Halt, Add, Same}
use Rattle.join_parse.specs.Source.{Group, Def, Processes, none, one_more, Definition, Rule}
use Rattle.join_parse.specs.Source.{Place, Definitions}
use Rattle.join_parse.specs.Source.{no_definition, and_also, processes, definitions}

abbrev mutual
  pub process_depth : Process → ℕ
  process_depth Zero = 0
  process_depth (Msg x vs) = 0
  process_depth (Go b k) = 0
  process_depth (Fail b k) = 0
  process_depth Halt = 0
  process_depth (Add l r k) = 0
  process_depth (Same l r y n) = 0
  process_depth (Group ps) = processes_depth ps + 1
  process_depth (Def ds p) = max (definitions_depth ds + 1) (processes_depth p + 1)

  pub processes_depth : Processes → ℕ
  processes_depth none = 0
  processes_depth (one_more p ps) = max (process_depth p + 1) (processes_depth ps)

  pub definition_depth : Definition → ℕ
  definition_depth (Rule ps p) = processes_depth p + 1
  definition_depth (Place o a ds p) = max (definitions_depth ds + 2) (processes_depth p + 2)

  pub definitions_depth : Definitions → ℕ
  definitions_depth no_definition = 0
  definitions_depth (and_also d ds) = max (definition_depth d + 1) (definitions_depth ds)

abbrev pub procs_depth : List Process → ℕ
procs_depth ps = processes_depth (processes ps)

abbrev pub defs_depth : List Definition → ℕ
defs_depth ds = definitions_depth (definitions ds)
