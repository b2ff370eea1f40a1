use Rattle.guard_compile.proofs.Loops.{whole_is}
use Rattle.guard_compile.proofs.program.whole_piece.Goals as goal

pub returns-in-Ok-clause-piece : goal.returns-in-Ok-clause-piece
returns-in-Ok-clause-piece c = whole_is c.args.tops.now c.args.sites.now c.start-piece.result
    c.write_sites.new.piece c.start-piece.ensures c.in-Ok.ensures.piece
