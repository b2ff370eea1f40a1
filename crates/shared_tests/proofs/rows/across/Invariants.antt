use Rattle.shared_tests.proofs.rows.across.Given as goal

abbrev pub ghosts-move_across-L-Run : goal.ghosts-move_across-L-Run
ghosts-move_across-L-Run a = record { program = a.program.now }

abbrev pub ghosts-move_across-L-Ledger : goal.ghosts-move_across-L-Ledger
ghosts-move_across-L-Ledger a = record { name = a.blank.name; parts = a.blank.parts }
