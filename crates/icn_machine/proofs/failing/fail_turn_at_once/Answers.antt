use Rattle.std.proofs.Common.{◌≡◌, ◌<◌, ◌∙◌, length, refl, subst, sym, true}
use Rattle.icn_control.specs.Machines.{stack_seen}
use Rattle.icn_control.specs.declared.machine.RunState.TheVariants as RunStates
use Rattle.icn_machine.specs.declared.at_once.AtOnce.{AtOnce}
use Rattle.icn_machine.specs.AnsweredAtOnce.{fails_in_turn}
use Rattle.icn_machine.proofs.FailingAtOnce.{FailsSoFar, cells_fall, in_turn_is, more_so_far, none_so_far, so_far_ended}
use Rattle.icn_machine.proofs.LoopSteps.{failing_left}
use Rattle.icn_machine.proofs.failing.fail_turn_at_once.Goals as goal

pub loop-done-init : goal.loop-done-init
loop-done-init g c = record { so_far = λ tables ready. none_so_far tables c.args.m.now ready; turns = refl }

pub fail_step_at_once-done-requires : goal.fail_step_at_once-done-requires
fail_step_at_once-done-requires g c =
    let t = c.requires.0 in
    let m = c.args.m.now in
    let is = in_turn_is c.loop-done.done c.loop-done.m.turns m.turns (sym c.fails_in_turn.ensures ∙ c.loop-done-test.true) in
    (t, (subst (λ (d : AtOnce). FailsSoFar t m c.loop-done.m d) is.0 (c.loop-done.invariant.so_far t c.requires.1)).ready)

pub loop-done-smaller : goal.loop-done-smaller
loop-done-smaller g c =
    let t = c.requires.0 in
    let m = c.args.m.now in
    let test : fails_in_turn c.loop-done.done c.loop-done.m.turns m.turns ≡ true = sym c.fails_in_turn.ensures ∙ c.loop-done-test.true in
    let is = in_turn_is c.loop-done.done c.loop-done.m.turns m.turns test in
    let so_far = subst (λ (d : AtOnce). FailsSoFar t m c.loop-done.m d) is.0 (c.loop-done.invariant.so_far t c.requires.1) in
    subst (λ b. failing_left (fails_in_turn c.fail_step_at_once-done.result c.fail_step_at_once-done.new.m.turns m.turns)
    (length (stack_seen c.fail_step_at_once-done.new.m).cells)
    < failing_left b (length (stack_seen c.loop-done.m).cells))
    (sym test)
    (cells_fall t c.loop-done.m c.fail_step_at_once-done.new.m c.fail_step_at_once-done.result m.turns is.1 (c.fail_step_at_once-done.ensures t so_far.ready))

pub loop-done-preserved : goal.loop-done-preserved
loop-done-preserved g c =
    let m = c.args.m.now in
    let is = in_turn_is c.loop-done.done c.loop-done.m.turns m.turns (sym c.fails_in_turn.ensures ∙ c.loop-done-test.true) in
    record {
      so_far = λ tables ready. (
          let so_far = subst (λ (d : AtOnce). FailsSoFar tables m c.loop-done.m d) is.0 (c.loop-done.invariant.so_far tables ready) in
          more_so_far tables m c.loop-done.m c.fail_step_at_once-done.new.m c.fail_step_at_once-done.result so_far is.1
          (c.fail_step_at_once-done.ensures tables so_far.ready));
      turns = refl;
    }

pub returns : goal.returns
returns g c tables ready =
    so_far_ended tables c.args.m.now c.loop-done.m c.loop-done.done (c.loop-done.invariant.so_far tables ready)
    (sym c.fails_in_turn.ensures ∙ c.loop-done-test.false)
