use Rattle.icn_machine.proofs.assigning.assignment_in.Given as goal

-- the stack as it is before the row, and its loan
abbrev pub ghosts-assignment_lent : goal.ghosts-assignment_lent
ghosts-assignment_lent g a = record { stack = a.frames.now.flat; loan = a.frames.ghost_name }
