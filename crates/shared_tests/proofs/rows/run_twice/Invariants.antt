use Rattle.shared_tests.proofs.rows.run_twice.Given as goal

abbrev pub ghosts-open-L-Run : goal.ghosts-open-L-Run
ghosts-open-L-Run a = record { program = a.program.now }

abbrev pub ghosts-open-L-Ledger : goal.ghosts-open-L-Ledger
ghosts-open-L-Ledger a = record { name = a.blank.name; parts = a.blank.parts }

abbrev pub ghosts-react_twice-L-Run : goal.ghosts-react_twice-L-Run
ghosts-react_twice-L-Run a = record { program = a.program.now }

abbrev pub ghosts-react_twice-L-Ledger : goal.ghosts-react_twice-L-Ledger
ghosts-react_twice-L-Ledger a = record { name = a.blank.name; parts = a.blank.parts }
