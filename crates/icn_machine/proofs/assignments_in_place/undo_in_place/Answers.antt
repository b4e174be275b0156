use Rattle.std.proofs.Common.{refl}
use Rattle.icn_frames.specs.declared.layout.Why.TheVariants as Whys
use Rattle.icn_control.proofs.FailingStackSteps.{came_back}
use Rattle.icn_machine.proofs.UndoSteps.{lacks_undone, not_undone, undo_live, undoes_as_turn}
use Rattle.icn_machine.proofs.assignments_in_place.undo_in_place.Goals as goal

pub returns-in_default-clause-fails : goal.returns-in_default-clause-fails
returns-in_default-clause-fails g c = not_undone c.args.world.now c.args.frames.now.flat

pub returns-in_default-clause-not_done : goal.returns-in_default-clause-not_done
returns-in_default-clause-not_done g c q = (refl, refl)

pub returns-in_default-undone_by-clause-fails : goal.returns-in_default-undone_by-clause-fails
returns-in_default-undone_by-clause-fails g c = not_undone c.args.world.now c.args.frames.now.flat

pub returns-in_default-undone_by-clause-not_done : goal.returns-in_default-undone_by-clause-not_done
returns-in_default-undone_by-clause-not_done g c q = (refl, refl)

pub is_in_world-requires : goal.is_in_world-requires
is_in_world-requires g c =
    let undo = c.in-Some-undone_by.undo in
    (undo_live c.requires.0 c.args.world.now c.args.frames.now.flat c.in-Some.rest undo.0 undo.1 c.in-Some.ensures c.in-Some-undone_by.ensures c.requires.1).0

pub returns-then-not-is_in_world-clause-fails : goal.returns-then-not-is_in_world-clause-fails
returns-then-not-is_in_world-clause-fails g c = not_undone c.args.world.now c.args.frames.now.flat

pub returns-then-not-is_in_world-clause-not_done : goal.returns-then-not-is_in_world-clause-not_done
returns-then-not-is_in_world-clause-not_done g c q = (refl, refl)

pub put_into-requires-clause-live : goal.put_into-requires-clause-live
put_into-requires-clause-live g c =
    let undo = c.in-Some-undone_by.undo in
    (undo_live c.requires.0 c.args.world.now c.args.frames.now.flat c.in-Some.rest undo.0 undo.1 c.in-Some.ensures c.in-Some-undone_by.ensures c.requires.1).0

pub put_into-requires-clause-there : goal.put_into-requires-clause-there
put_into-requires-clause-there g c = c.is_in_world.ensures c.if-not-is_in_world.false

pub put_into-requires-clause-value : goal.put_into-requires-clause-value
put_into-requires-clause-value g c =
    let undo = c.in-Some-undone_by.undo in
    (undo_live c.requires.0 c.args.world.now c.args.frames.now.flat c.in-Some.rest undo.0 undo.1 c.in-Some.ensures c.in-Some-undone_by.ensures c.requires.1).1

pub returns-clause-fails : goal.returns-clause-fails
returns-clause-fails g c =
    let m = c.args.frames.now.flat in
    let k = c.resume_newest.new.self.flat in
    let rest = c.in-Some.rest in
    let undo = c.in-Some-undone_by.undo in
    undoes_as_turn c.requires.0 c.args.world.now c.put_into.new.world m k rest undo.0 undo.1
    (came_back m k (Whys.Op rest) c.in-Some.ensures c.resume_newest.ensures.flat) c.in-Some-undone_by.ensures c.requires.1 c.local_count.ensures.same
    (c.put_into.ensures.puts c.if-not-put_into.false) (c.put_into.ensures.kept c.if-not-put_into.false).items
    (c.put_into.ensures.counts c.if-not-put_into.false)

pub returns-clause-not_done : goal.returns-clause-not_done
returns-clause-not_done g c q = absurd (cc)

pub returns-then-not-put_into-clause-fails : goal.returns-then-not-put_into-clause-fails
returns-then-not-put_into-clause-fails g c = lacks_undone c.args.world.now c.put_into.new.world c.args.frames.now.flat c.args.frames.now.flat

pub returns-then-not-put_into-clause-not_done : goal.returns-then-not-put_into-clause-not_done
returns-then-not-put_into-clause-not_done g c q = absurd (cc)
