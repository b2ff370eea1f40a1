-- The one at this place has the number.
use Rattle.std.proofs.Common.{◌≡◌, true, rules}
use Rattle.chem_model.specs.Apply.{same_atom}
use Rattle.chem_commit.proofs.Picking.{at_place}
use Rattle.chem_commit.proofs.near.is_at.Goals as goal

pub returns-in-Some : goal.returns-in-Some
returns-in-Some c = λ e count low.
    let same : same_atom c.in-Some.atom.now.id c.args.id ≡ true = search rules in
    at_place c.args.atoms.now c.as_slice.result.now count c.args.id c.args.place c.in-Some.atom.now
    c.as_slice.ensures.members low c.in-Some.ensures.lookup.3.0 c.in-Some.ensures.lookup.1 same
