use Rattle.std.proofs.Common.{◌≡◌, List, drop}
use Rattle.join_parse.specs.Terminals.{Terminal}
use Rattle.join_parse.specs.Grammar.{names}
use Rattle.join_parse.specs.inside.Printed.{spaced}
use Rattle.join_parse.proofs.LeftToPrint.{left_names}
use Rattle.join_parse.proofs.print.put_names.Given as goal

abbrev pub invariant-loop-word : goal.invariant-loop-word
invariant-loop-word l = (rest : List Terminal)
    → spaced l.fn.out (names l.word-items rest)
    ≡ spaced l.out (left_names l.first (drop l.word-index l.word-items) rest)
