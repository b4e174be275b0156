use Rattle.std.proofs.Common.{◌≡◌, ◌∙◌, ap, false, nat_lt, refl, sym, true}
use Rattle.icn_value.specs.Limited.{Bounds}
use Rattle.icn_heap.specs.Heaps.{heap_of}
use Rattle.icn_control.specs.Machines.{world_reach}
use Rattle.icn_control.proofs.ExhaustSteps.{nat_lt_true}
use Rattle.icn_control.proofs.LiteralSteps.{running_live}
use Rattle.icn_machine.specs.AnsweredAtOnce.{is_not}
use Rattle.icn_machine.specs.declared.at_once.AtOnce.TheVariants as AtOnces
use Rattle.icn_machine.proofs.AtOnceAnswers.{not_is}
use Rattle.icn_machine.proofs.FailingAtOnce.{not_failed}
use Rattle.icn_machine.proofs.UndoSteps.{same_in_both, turn_failed}
use Rattle.icn_machine.proofs.WorldAtOnce.{in_both}
use Rattle.icn_machine.proofs.failing.residual_at_once.Goals as goal

pub frames-requires : goal.frames-requires
frames-requires g c = c.requires.1.stack

pub returns-then-m : goal.returns-then-m
returns-then-m g c tables ready = not_failed tables c.args.m.now c.args.m.now refl refl

pub resume_in_place-done-requires : goal.resume_in_place-done-requires
resume_in_place-done-requires g c =
    let t = c.requires.0 in
    let m = c.args.m.now in
    (t, running_live t (world_reach m) m.stacks.table c.frames.result.now.flat c.frames.ensures.running c.requires.1.sound.stacks)

pub returns-then-is_not : goal.returns-then-is_not
returns-then-is_not g c tables ready =
    let m = c.args.m.now in
    let v = c.resume_in_place-done.new.world in
    let s = c.resume_in_place-done.new.frames in
    let same = c.resume_in_place-done.ensures.not_done (not_is c.resume_in_place-done.result (sym c.is_not.ensures ∙ c.if-is_not.true)) in
    not_failed tables m (in_both m v s)
    (same_in_both m v s c.frames.result.now c.frames.ensures.running c.frames.ensures.spare same.0 same.1) refl

pub returns : goal.returns
returns g c tables ready =
    let m = c.args.m.now in
    let done = c.resume_in_place-done.result in
    let more : nat_lt m.turns (heap_of m.world.heap).bounds.turns ≡ true
    = ap (λ (x : Bounds). nat_lt m.turns x.turns) ready.sound.bounds ∙ nat_lt_true m.turns m.limits.turns c.if-m.false in
    let some : done ≡ AtOnces.Not → ⊥
    = λ q. let bad : true ≡ false = ap is_not (sym q) ∙ sym c.is_not.ensures ∙ c.if-is_not.false in absurd (cc) in
    turn_failed tables c.steps_keep_names.ensures.kept c.steps_keep_sizes.ensures.kept m c.resume_in_place-done.new.world c.resume_in_place-done.new.frames
    c.frames.result.now.flat c.frames.ensures.running more done some c.resume_in_place-done.ensures.fails ready
