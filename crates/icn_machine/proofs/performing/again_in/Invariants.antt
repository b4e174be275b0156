use Rattle.icn_machine.proofs.performing.again_in.Given as goal

-- the stack as it is before the row, and its loan
abbrev pub ghosts-again_lent : goal.ghosts-again_lent
ghosts-again_lent g a = record { stack = a.frames.now.flat; loan = a.frames.ghost_name }
