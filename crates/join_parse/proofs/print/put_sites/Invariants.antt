use Rattle.std.proofs.Common.{◌≡◌, List, drop}
use Rattle.join_parse.specs.Terminals.{Terminal}
use Rattle.join_parse.specs.Grammar.{nowhere, of_sites}
use Rattle.join_parse.specs.inside.Printed.{spaced}
use Rattle.join_parse.proofs.print.put_sites.Given as goal

abbrev pub invariant-loop-site : goal.invariant-loop-site
invariant-loop-site l = (rest : List Terminal)
    → spaced l.fn.out (of_sites nowhere l.site-items rest)
    ≡ spaced l.out (of_sites nowhere (drop l.site-index l.site-items) rest)
