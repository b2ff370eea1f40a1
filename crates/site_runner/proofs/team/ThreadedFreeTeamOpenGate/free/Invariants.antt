-- The run is of this program, with the ledger that is opened here.
use Rattle.site_runner.proofs.team.ThreadedFreeTeamOpenGate.free.Given as goal

abbrev pub ghosts-free_from_opening-L-Run : goal.ghosts-free_from_opening-L-Run
ghosts-free_from_opening-L-Run g a = record { program = a.program.now }

abbrev pub ghosts-free_from_opening-L-Ledger : goal.ghosts-free_from_opening-L-Ledger
ghosts-free_from_opening-L-Ledger g a = record { name = a.blank.name; parts = a.blank.parts }
