-- A site that has the tree is known to have what its calls need by that very tree.
use Rattle.shared_net.proofs.Known.{acts_by_own}
use Rattle.shared_net.proofs.net.Parts.turn_here.Goals as goal

pub act_here-requires-clause-fits : goal.act_here-requires-clause-fits
act_here-requires-clause-fits g c =
    let kept = c.find.new.self in
    acts_by_own kept.held kept.tree kept.code c.code.result.now c.in-Some.own c.tree.result.now
    kept.known c.in-Some.is c.code.ensures c.tree.ensures
