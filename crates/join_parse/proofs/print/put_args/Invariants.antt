use Rattle.std.proofs.Common.{◌≡◌, List, drop}
use Rattle.join_parse.specs.Terminals.{Terminal}
use Rattle.join_parse.specs.Grammar.{arguments}
use Rattle.join_parse.specs.inside.Printed.{spaced}
use Rattle.join_parse.proofs.LeftToPrint.{left_args}
use Rattle.join_parse.proofs.print.put_args.Given as goal

abbrev pub invariant-loop-arg : goal.invariant-loop-arg
invariant-loop-arg l = (rest : List Terminal)
    → spaced l.fn.out (arguments l.arg-items rest)
    ≡ spaced l.out (left_args l.first (drop l.arg-index l.arg-items) rest)
