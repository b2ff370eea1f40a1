use Rattle.reducer.proofs.Least.{none_told, found_told}
use Rattle.reducer.proofs.choosing.first_of.Goals as goal

pub returns-in-Nothing-clause-none : goal.returns-in-Nothing-clause-none
returns-in-Nothing-clause-none c =
    none_told c.args.code.now c.args.tree.now c.args.site.now c.in-Nothing.ensures

pub returns-in-Found-clause-some : goal.returns-in-Found-clause-some
returns-in-Found-clause-some c = found_told c.args.code.now c.args.tree.now c.args.site.now
    c.in-Found.group c.in-Found.guard c.in-Found.ensures
