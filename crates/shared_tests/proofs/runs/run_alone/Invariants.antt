use Rattle.shared_tests.proofs.runs.run_alone.Given as goal

abbrev pub ghosts-run_steps-L-Run : goal.ghosts-run_steps-L-Run
ghosts-run_steps-L-Run g a = record { program = a.program.now }

abbrev pub ghosts-run_steps-L-Ledger : goal.ghosts-run_steps-L-Ledger
ghosts-run_steps-L-Ledger g a = record { name = a.blank.name; parts = a.blank.parts }
