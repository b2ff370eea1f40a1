-- Where the first ones differ, the one that has the number is the one that is found.
use Rattle.chem_commit.proofs.Picking.{placed_at}
use Rattle.chem_commit.proofs.near.place_of.Goals as goal

pub returns-in-Some : goal.returns-in-Some
returns-in-Some c =
    placed_at c.args.atoms.now c.args.count c.args.id c.in-Some.place c.requires c.in-Some.ensures
