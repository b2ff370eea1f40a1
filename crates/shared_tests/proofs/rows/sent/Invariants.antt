use Rattle.shared_tests.proofs.rows.sent.Given as goal

abbrev pub ghosts-open_mail-L-Run : goal.ghosts-open_mail-L-Run
ghosts-open_mail-L-Run a = record { program = a.program.now }

abbrev pub ghosts-open_mail-L-Ledger : goal.ghosts-open_mail-L-Ledger
ghosts-open_mail-L-Ledger a = record { name = a.blank.name; parts = a.blank.parts }
