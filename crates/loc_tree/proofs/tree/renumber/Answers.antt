use Rattle.std.proofs.Common.{◌≡◌, Some, sym, rules}
use Rattle.std.specs.Map.{lookup}
use Rattle.loc_tree.specs.Tree.{is_pair_of, renumbered}
use Rattle.loc_tree.proofs.Spots.{change_found}
use Rattle.loc_tree.proofs.tree.renumber.Goals as goal

pub returns-in-Some-clause-entries : goal.returns-in-Some-clause-entries
returns-in-Some-clause-entries c =
    let found : lookup (is_pair_of c.args.loc.now) c.args.spots.now.entries
    ≡ Some c.in-Some.spot.now = sym c.in-Some.ensures.value in
    let change = change_found c.args.loc.now (renumbered c.args.number)
    c.args.spots.now.entries c.in-Some.spot.now found in
    rw (← change) (search rules)
