use Rattle.std.proofs.Common.{[], ◌∙◌, subst, sym}
use Rattle.icn_vars.specs.declared.world.World.{World}
use Rattle.icn_vars.specs.Worlds.{reach_of}
use Rattle.icn_frames.specs.StackInvariant.{SeenStack}
use Rattle.icn_control.specs.LiveStacks.{IsLiveStack}
use Rattle.icn_machine.specs.TurnsAtOnce.{FailsInTurn}
use Rattle.icn_machine.proofs.AtOnceAnswers.{not_is}
use Rattle.icn_machine.proofs.elements_in_place.resume_in_place.Goals as goal

pub give_elements_on-requires : goal.give_elements_on-requires
give_elements_on-requires g c =
    let done = c.undo_in_place-done in
    let same = done.ensures.not_done (not_is done.result (sym c.is_not.ensures ∙ c.if-is_not.true)) in (
      c.requires.0,
      subst (λ (v : World). IsLiveStack c.requires.0 (reach_of v []) done.new.frames.flat) (sym same.1)
          (subst (λ (s : SeenStack). IsLiveStack c.requires.0 (reach_of c.args.world.now []) s.flat) (sym same.0) c.requires.1),
    )

pub returns-then-is_not-clause-fails : goal.returns-then-is_not-clause-fails
returns-then-is_not-clause-fails g c =
    let done = c.undo_in_place-done in
    let n = c.give_elements_on.new.frames in
    let result = c.give_elements_on.result in
    let same = done.ensures.not_done (not_is done.result (sym c.is_not.ensures ∙ c.if-is_not.true)) in
    subst (λ (v : World). FailsInTurn v c.args.frames.now.flat done.new.world n.flat result) same.1
    (subst (λ (s : SeenStack). FailsInTurn done.new.world s.flat done.new.world n.flat result) same.0 c.give_elements_on.ensures.fails)

pub returns-then-is_not-clause-not_done : goal.returns-then-is_not-clause-not_done
returns-then-is_not-clause-not_done g c q =
    let done = c.undo_in_place-done in
    let same = done.ensures.not_done (not_is done.result (sym c.is_not.ensures ∙ c.if-is_not.true)) in
    (c.give_elements_on.ensures.not_done q ∙ same.0, same.1)
