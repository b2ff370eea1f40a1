use Rattle.shared_tests.proofs.gates.in_turn.Given as goal

abbrev pub ghosts-run_in_turn-L-Run : goal.ghosts-run_in_turn-L-Run
ghosts-run_in_turn-L-Run g a = record { program = a.program.now }

abbrev pub ghosts-run_in_turn-L-Ledger : goal.ghosts-run_in_turn-L-Ledger
ghosts-run_in_turn-L-Ledger g a = record { name = a.blank.name; parts = a.blank.parts }
