-- The locations of a sound solution differ.
use Rattle.chem_commit.proofs.Founds.{places_differ}
use Rattle.chem_commit.proofs.guesses.far_place.Goals as goal

pub tried-requires : goal.tried-requires
tried-requires c = places_differ c.args.solution.now c.requires

pub guessed-requires : goal.guessed-requires
guessed-requires c = places_differ c.args.solution.now c.requires

pub newest-requires : goal.newest-requires
newest-requires c = places_differ c.args.solution.now c.requires
