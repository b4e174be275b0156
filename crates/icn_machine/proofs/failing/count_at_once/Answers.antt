use Rattle.std.proofs.Common.{◌≡◌, ◌∙◌, ap, nat_lt, refl, sym, true}
use Rattle.icn_value.specs.Limited.{Bounds}
use Rattle.icn_heap.specs.Heaps.{heap_of}
use Rattle.icn_control.proofs.ExhaustSteps.{nat_lt_true}
use Rattle.icn_machine.proofs.AtOnceAnswers.{not_is}
use Rattle.icn_machine.proofs.FailingAtOnce.{count_failed, not_failed, same_on}
use Rattle.icn_machine.proofs.InPlaceSteps.{on_stack}
use Rattle.icn_machine.proofs.failing.count_at_once.Goals as goal

pub frames-requires : goal.frames-requires
frames-requires g c = c.requires.1.stack

pub returns-then-m : goal.returns-then-m
returns-then-m g c tables ready = not_failed tables c.args.m.now c.args.m.now refl refl

pub returns-then-is_not : goal.returns-then-is_not
returns-then-is_not g c tables ready =
    let m = c.args.m.now in
    not_failed tables m (on_stack m c.count_again-done.new.frames)
    (same_on m c.count_again-done.new.frames c.frames.result.now c.frames.ensures.running c.frames.ensures.spare
    (c.count_again-done.ensures.not_done (not_is c.count_again-done.result (sym c.is_not.ensures ∙ c.if-is_not.true)))) refl

pub returns : goal.returns
returns g c tables ready =
    let m = c.args.m.now in
    let more : nat_lt m.turns (heap_of m.world.heap).bounds.turns ≡ true
    = ap (λ (x : Bounds). nat_lt m.turns x.turns) ready.sound.bounds ∙ nat_lt_true m.turns m.limits.turns c.if-m.false in
    count_failed tables c.steps_keep_names.ensures.kept c.steps_keep_sizes.ensures.kept m c.count_again-done.new.frames c.frames.result.now.flat
    c.count_again-done.result c.frames.ensures.running more c.count_again-done.ensures.counts c.count_again-done.ensures.live
    (sym c.is_not.ensures ∙ c.if-is_not.false) ready
