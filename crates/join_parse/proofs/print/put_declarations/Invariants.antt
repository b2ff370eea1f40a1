use Rattle.std.proofs.Common.{◌≡◌, List, drop}
use Rattle.join_parse.specs.Terminals.{Terminal}
use Rattle.join_parse.specs.Grammar.{nowhere, of_declarations}
use Rattle.join_parse.specs.inside.Printed.{spaced}
use Rattle.join_parse.proofs.print.put_declarations.Given as goal

abbrev pub invariant-loop-declaration : goal.invariant-loop-declaration
invariant-loop-declaration l = (rest : List Terminal)
    → spaced l.fn.out (of_declarations nowhere l.declaration-items rest)
    ≡ spaced l.out (of_declarations nowhere (drop l.declaration-index l.declaration-items) rest)
