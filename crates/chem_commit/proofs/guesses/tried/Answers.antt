-- The entry at this place has the location.
use Rattle.std.proofs.Common.{◌≡◌, true, rules}
use Rattle.chem_model.specs.Solution.{same_loc}
use Rattle.chem_commit.proofs.Founds.{found_in}
use Rattle.chem_commit.proofs.guesses.tried.Goals as goal

pub returns-then-same_loc : goal.returns-then-same_loc
returns-then-same_loc c =
    let same : same_loc c.in-Some.placed.now.loc c.args.at ≡ true = search rules in
    found_in c.args.places.now c.as_slice.result.now c.as_slice.ensures.members c.requires
    c.args.index c.in-Some.placed.now c.args.at c.in-Some.ensures.lookup.3.0
    c.in-Some.ensures.lookup.1 same
