use Rattle.test_rows.proofs.scan.calls.resume_residual.Goals as goal

pub undo_position_again-requires-clause-place : goal.undo_position_again-requires-clause-place
undo_position_again-requires-clause-place c = let rest = rw c.in-UndoPosition.is at c.requires.rest in rest.live

pub balanced_again-requires : goal.balanced_again-requires
balanced_again-requires c = let rest = rw c.in-Balanced.is at c.requires.rest in rest.live

pub found_again-requires-clause-wanted : goal.found_again-requires-clause-wanted
found_again-requires-clause-wanted c = let rest = rw c.in-Found.is at c.requires.rest in rest.live.0

pub found_again-requires-clause-search : goal.found_again-requires-clause-search
found_again-requires-clause-search c = let rest = rw c.in-Found.is at c.requires.rest in rest.live.1

pub among_again-requires : goal.among_again-requires
among_again-requires c = let rest = rw c.in-Among.is at c.requires.rest in rest.live
