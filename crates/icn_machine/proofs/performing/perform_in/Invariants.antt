use Rattle.icn_machine.proofs.performing.perform_in.Given as goal

-- the stack as it is before the row, and its loan
abbrev pub ghosts-perform_lent : goal.ghosts-perform_lent
ghosts-perform_lent g a = record { stack = a.frames.now.flat; loan = a.frames.ghost_name }
