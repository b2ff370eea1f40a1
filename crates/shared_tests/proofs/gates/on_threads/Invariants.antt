use Rattle.shared_tests.proofs.gates.on_threads.Given as goal

abbrev pub ghosts-run_both-L-Run : goal.ghosts-run_both-L-Run
ghosts-run_both-L-Run g a = record { program = a.program.now }

abbrev pub ghosts-run_both-L-Ledger : goal.ghosts-run_both-L-Ledger
ghosts-run_both-L-Ledger g a = record { name = a.blank.name; parts = a.blank.parts }
