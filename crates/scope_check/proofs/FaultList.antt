-- The faults of a tree as a list: those of its uses, and those of what it declares.
use Rattle.std.specs.Prelude.{List, [], ◌∷◌, ◌++◌, Option, Some, None, drop}
use Rattle.join_base.specs.declared.fault.Kind.TheVariants.{Scope1}
use Rattle.join_parse.specs.declared.word.Word.{Word}
use Rattle.join_parse.specs.Grammar.{TreeOfText}
use Rattle.chem_model.specs.ProgramFacts.{most_sites}
use Rattle.scope_names.specs.declared.scope.Sort.{Sort}
use Rattle.scope_check.specs.declared.fault.Fault.{Fault}
use Rattle.scope_check.specs.Blocks.{sites_of, outermost, Resolved, resolve}
use Rattle.scope_check.specs.Uses.{Manner, called, headed, sent, Use, uses_of}
use Rattle.scope_check.specs.inside.FaultList.{fault, called_as, headed_for, clashes, level_faults}
use Rattle.scope_check.specs.inside.FaultList.{many}

abbrev pub used_as : Manner → Word → Sort → List Fault
used_as (called n) w sort = called_as w n sort
used_as headed w sort = headed_for w sort
used_as sent w sort = []

abbrev pub used_by : Manner → Word → Option Resolved → List Fault
used_by m w None = fault Scope1 w
used_by m w (Some r) = used_as m w r.sort

abbrev pub use_faults : List Use → List Fault
use_faults [] = []
use_faults (u ∷ us) = used_by u.manner u.word (resolve u.around u.word.text) ++ use_faults us

abbrev pub declared_faults : TreeOfText → List Fault
declared_faults t = clashes [] (outermost t) ++ level_faults (sites_of t.sites)

abbrev pub fault_list : TreeOfText → List Fault
fault_list t =
    many (drop (most_sites t.version) t.sites) ++ (declared_faults t ++ use_faults (uses_of t))
