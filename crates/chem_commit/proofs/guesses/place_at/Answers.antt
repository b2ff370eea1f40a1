-- The locations of a sound solution differ.
use Rattle.chem_commit.proofs.Founds.{places_differ}
use Rattle.chem_commit.proofs.guesses.place_at.Goals as goal

pub newest-requires : goal.newest-requires
newest-requires c = places_differ c.args.solution.now c.requires
