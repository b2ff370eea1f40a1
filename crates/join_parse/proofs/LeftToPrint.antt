-- What is still to be printed of a list behind so many of its members.
use Rattle.std.specs.Prelude.{Bool, true, false, List}
use Rattle.join_parse.specs.Terminals.{Terminal}
use Rattle.join_parse.specs.declared.word.Word.{Word}
use Rattle.join_parse.specs.declared.word.Arg.{Arg}
use Rattle.join_parse.specs.declared.word.PatTree.{PatTree}
use Rattle.join_parse.specs.Source.{Processes, Definitions, no_definition, and_also}
use Rattle.join_parse.specs.Grammar.{nowhere, arguments, more_args, more_names, names}
use Rattle.join_parse.specs.Grammar.{more_patterns, patterns, of_processes}
use Rattle.join_parse.specs.Grammar.{more_processes, of_definition, more_definitions}

-- The members of a list that are left, of which the first may be the first of all.
abbrev pub left_names : Bool → List Word → List Terminal → List Terminal
left_names true ws = names ws
left_names false ws = more_names ws

abbrev pub left_args : Bool → List Arg → List Terminal → List Terminal
left_args true vs = arguments vs
left_args false vs = more_args vs

abbrev pub left_patterns : Bool → List PatTree → List Terminal → List Terminal
left_patterns true ps = patterns ps
left_patterns false ps = more_patterns ps

abbrev pub left_processes : Bool → Processes → List Terminal → List Terminal
left_processes true ps = of_processes nowhere ps
left_processes false ps = more_processes nowhere ps

abbrev pub left_definitions : Bool → Definitions → List Terminal → List Terminal
left_definitions first no_definition rest = rest
left_definitions true (and_also d ds) rest =
    of_definition nowhere d (more_definitions nowhere ds rest)
left_definitions false (and_also d ds) rest = more_definitions nowhere (and_also d ds) rest
