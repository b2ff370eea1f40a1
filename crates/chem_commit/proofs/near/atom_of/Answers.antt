-- What stands at the place has the number.
use Rattle.chem_commit.proofs.Picking.{found_at_place}
use Rattle.chem_commit.proofs.near.atom_of.Goals as goal

pub returns-in-Some-get : goal.returns-in-Some-get
returns-in-Some-get c = found_at_place c.args.solution.now c.requires c.len.result c.args.id
    c.in-Some.place c.as_slice.result.now c.in-Some-get.atom.now c.in-Some.ensures
    c.as_slice.ensures.members c.in-Some-get.ensures.lookup.3.0 c.in-Some-get.ensures.lookup.1
