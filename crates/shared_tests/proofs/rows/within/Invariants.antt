use Rattle.shared_tests.proofs.rows.within.Given as goal

abbrev pub ghosts-move_within-L-Run : goal.ghosts-move_within-L-Run
ghosts-move_within-L-Run a = record { program = a.program.now }

abbrev pub ghosts-move_within-L-Ledger : goal.ghosts-move_within-L-Ledger
ghosts-move_within-L-Ledger a = record { name = a.blank.name; parts = a.blank.parts }
