use Rattle.std.proofs.Common.{◌≤◌, arith}
use Rattle.std.proofs.lemmas.Bool.{leb-true}
use Rattle.site_limits.proofs.Tested.{rooted-there}
use Rattle.site_limits.proofs.within.roots_are_there.Goals as goal

pub returns : goal.returns
returns c = λ e i within.
    let few : c.args.count ≤ c.roots.result = leb-true c.args.count c.roots.result e in
    rooted-there c.args.tree.now i c.tree_is_kept.ensures
    (omega (arith, few, within, c.roots.ensures))
