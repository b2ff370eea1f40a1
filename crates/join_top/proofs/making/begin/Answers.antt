-- The network of the program's code and its book stand for the opening.
use Rattle.join_top.proofs.Made.{begun_stand, stand_for_links}
use Rattle.join_top.proofs.making.begin.Goals as goal

pub returns-in-Ok-clause-one : goal.returns-in-Ok-clause-one
returns-in-Ok-clause-one c =
    begun_stand c.args.program.now c.in-Ok.net c.in-Ok.ensures c.in_ok-book.book
    c.in_ok-book.ensures.opening

pub returns-in-Ok-clause-linked : goal.returns-in-Ok-clause-linked
returns-in-Ok-clause-linked c = stand_for_links c.in_ok-book.book c.in-Ok.net
    (begun_stand c.args.program.now c.in-Ok.net c.in-Ok.ensures c.in_ok-book.book
    c.in_ok-book.ensures.opening)
