-- What the walk over definitions computes, over tables of what came so far; `Declares` of `proofs/`
-- ties it to the faults.
use Rattle.std.specs.Prelude.{Bool, List, [], ◌∷◌, ◌++◌, Option, Some, None, is_some, if◌then◌else◌}
use Rattle.join_base.specs.declared.fault.Kind.{Kind}
use Rattle.join_base.specs.declared.fault.Kind.TheVariants.{Scope4, Scope5}
use Rattle.join_parse.specs.declared.word.Word.{Word}
use Rattle.join_parse.specs.declared.word.PatTree.{PatTree}
use Rattle.scope_names.specs.declared.scope.Sort.{Sort}
use Rattle.scope_names.specs.declared.scope.Sort.TheVariants.{Parameter}
use Rattle.scope_names.specs.declared.scope.Entry.{Entry}
use Rattle.scope_names.specs.Frames.{in_frame}
use Rattle.scope_check.specs.declared.fault.Fault.{Fault}
use Rattle.scope_check.specs.Blocks.{Defining}
use Rattle.scope_check.specs.inside.FaultList.{clash, repeated_if}
use Rattle.scope_check.specs.inside.Twin.{Table}

abbrev pub clash_with : Option Entry → Word → Sort → List Fault
clash_with None w later = []
clash_with (Some e) w later = clash e.sort w later

abbrev pub remember_if : Bool → Table → Word → Sort → Table
remember_if there table w sort =
    if there then table else table ++ (w.text, record { sort = sort; binder = 0 }) ∷ []

-- a word that isn't in the table yet is added
abbrev pub remember : Table → Word → Sort → Table
remember table w sort = remember_if (is_some (in_frame w.text table)) table w sort

abbrev pub clashes_in : Table → List Defining → List Fault
clashes_in table [] = []
clashes_in table (d ∷ ds) =
    clash_with (in_frame d.0.text table) d.0 d.1 ++ clashes_in (remember table d.0 d.1) ds

abbrev pub remember_all : Table → List Word → Table
remember_all table [] = table
remember_all table (w ∷ ws) = remember_all (remember table w Parameter) ws

abbrev pub repeats_in : Kind → Table → List Word → List Fault
repeats_in kind table [] = []
repeats_in kind table (w ∷ ws) =
    repeated_if (is_some (in_frame w.text table)) kind w
    ++ repeats_in kind (remember table w Parameter) ws

abbrev pub channel_repeats : Table → List PatTree → List Fault
channel_repeats table [] = []
channel_repeats table (p ∷ ps) =
    repeated_if (is_some (in_frame p.on.text table)) Scope5 p.on
    ++ channel_repeats (remember table p.on Parameter) ps

abbrev pub parameter_repeats : Table → List PatTree → List Fault
parameter_repeats table [] = []
parameter_repeats table (p ∷ ps) =
    repeats_in Scope4 table p.params ++ parameter_repeats (remember_all table p.params) ps
