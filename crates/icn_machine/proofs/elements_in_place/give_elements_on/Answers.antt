use Rattle.std.proofs.Common.{refl}
use Rattle.icn_frames.specs.declared.layout.Why.TheVariants as Whys
use Rattle.icn_control.proofs.FailingStackSteps.{came_back}
use Rattle.icn_machine.proofs.ElementsOnce.{items_go_on, items_live}
use Rattle.icn_machine.proofs.UndoSteps.{lacks_undone, not_undone}
use Rattle.icn_machine.proofs.elements_in_place.give_elements_on.Goals as goal

pub returns-in_default-clause-fails : goal.returns-in_default-clause-fails
returns-in_default-clause-fails g c = not_undone c.args.world.now c.args.frames.now.flat

pub returns-in_default-clause-not_done : goal.returns-in_default-clause-not_done
returns-in_default-clause-not_done g c q = refl

pub returns-in_default-items_left-clause-fails : goal.returns-in_default-items_left-clause-fails
returns-in_default-items_left-clause-fails g c = not_undone c.args.world.now c.args.frames.now.flat

pub returns-in_default-items_left-clause-not_done : goal.returns-in_default-items_left-clause-not_done
returns-in_default-items_left-clause-not_done g c q = refl

pub give_items-requires : goal.give_items-requires
give_items-requires g c =
    let left = c.in-Some-items_left.left in
    items_live c.requires.0 c.args.world.now c.args.frames.now.flat c.in-Some.rest left.0 left.1 c.in-Some.ensures c.in-Some-items_left.ensures c.requires.1

pub returns-in-Ok-clause-fails : goal.returns-in-Ok-clause-fails
returns-in-Ok-clause-fails g c =
    let w = c.args.world.now in
    let m = c.args.frames.now.flat in
    let k = c.resume_newest.new.self.flat in
    let rest = c.in-Some.rest in
    let left = c.in-Some-items_left.left in
    rw c.done_at.ensures
    (items_go_on c.requires.0 w m k c.give_items.new.frames.flat rest left.0 left.1 c.in-Ok.stage
    (came_back m k (Whys.Op rest) c.in-Some.ensures c.resume_newest.ensures.flat) c.in-Some-items_left.ensures c.local_count.ensures.same c.requires.1
    (items_live c.requires.0 w m rest left.0 left.1 c.in-Some.ensures c.in-Some-items_left.ensures c.requires.1)
    (record {
      gives = c.in-Ok.ensures.gives;
      live = λ tables reach l o. c.in-Ok.ensures.live tables reach l o;
      named = λ names seen h o. c.in-Ok.ensures.named names seen h o;
    }))

pub returns-in-Err-clause-fails : goal.returns-in-Err-clause-fails
returns-in-Err-clause-fails g c = lacks_undone c.args.world.now c.args.world.now c.args.frames.now.flat c.give_items.new.frames.flat

pub returns-in-Err-clause-not_done : goal.returns-in-Err-clause-not_done
returns-in-Err-clause-not_done g c q = absurd (cc)
