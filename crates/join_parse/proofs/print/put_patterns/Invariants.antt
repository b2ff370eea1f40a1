use Rattle.std.proofs.Common.{◌≡◌, List, drop}
use Rattle.join_parse.specs.Terminals.{Terminal}
use Rattle.join_parse.specs.Grammar.{patterns}
use Rattle.join_parse.specs.inside.Printed.{spaced}
use Rattle.join_parse.proofs.LeftToPrint.{left_patterns}
use Rattle.join_parse.proofs.print.put_patterns.Given as goal

abbrev pub invariant-loop-pattern : goal.invariant-loop-pattern
invariant-loop-pattern l = (rest : List Terminal)
    → spaced l.fn.out (patterns l.pattern-items rest)
    ≡ spaced l.out (left_patterns l.first (drop l.pattern-index l.pattern-items) rest)
