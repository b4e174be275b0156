use Rattle.icn_running.proofs.lending.run_over.Given as goal

-- the loans of the files and the three streams
abbrev pub ghosts-run_lent-A-Loan : goal.ghosts-run_lent-A-Loan
ghosts-run_lent-A-Loan g a = record { loan = a.files.ghost_name }

abbrev pub ghosts-run_lent-B-Loan : goal.ghosts-run_lent-B-Loan
ghosts-run_lent-B-Loan g a = record { loan = a.input.ghost_name }

abbrev pub ghosts-run_lent-C-Loan : goal.ghosts-run_lent-C-Loan
ghosts-run_lent-C-Loan g a = record { loan = a.out.ghost_name }

abbrev pub ghosts-run_lent-D-Loan : goal.ghosts-run_lent-D-Loan
ghosts-run_lent-D-Loan g a = record { loan = a.err.ghost_name }
