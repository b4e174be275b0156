use Rattle.std.proofs.Common.{◌≡◌, ◌<◌, ◌-◌, ◌∙◌, subst, sym, true}
use Rattle.icn_machine.specs.declared.at_once.AtOnce.{AtOnce}
use Rattle.icn_machine.specs.AnsweredAtOnce.{fails_at_once}
use Rattle.icn_machine.proofs.AtOnceAnswers.{failing_is}
use Rattle.icn_machine.proofs.FailingAtOnce.{FailsAllTheWay, no_turn_yet, turn_after, turns_left_fall, way_ended, way_stopped}
use Rattle.icn_machine.proofs.LoopSteps.{failing_left}
use Rattle.icn_machine.proofs.failing.fail_through_at_once.Goals as goal

pub loop-done-init : goal.loop-done-init
loop-done-init g c = record { way = λ tables ready. no_turn_yet tables c.args.m.now ready }

pub fail_turn_at_once-done-requires : goal.fail_turn_at_once-done-requires
fail_turn_at_once-done-requires g c =
    let t = c.requires.0 in
    let is = failing_is c.loop-done.done (sym c.fails_at_once.ensures ∙ c.loop-done-test.true) in
    (t, (subst (λ (d : AtOnce). FailsAllTheWay t c.args.m.now c.loop-done.m d) is (c.loop-done.invariant.way t c.requires.1)).ready)

pub loop-done-smaller : goal.loop-done-smaller
loop-done-smaller g c =
    let t = c.requires.0 in
    let test : fails_at_once c.loop-done.done ≡ true = sym c.fails_at_once.ensures ∙ c.loop-done-test.true in
    let way = subst (λ (d : AtOnce). FailsAllTheWay t c.args.m.now c.loop-done.m d) (failing_is c.loop-done.done test)
    (c.loop-done.invariant.way t c.requires.1) in
    subst (λ b. failing_left (fails_at_once c.fail_turn_at_once-done.result)
    (c.fail_turn_at_once-done.new.m.limits.turns - c.fail_turn_at_once-done.new.m.turns)
    < failing_left b (c.loop-done.m.limits.turns - c.loop-done.m.turns))
    (sym test)
    (turns_left_fall t c.loop-done.m c.fail_turn_at_once-done.new.m c.fail_turn_at_once-done.result (c.fail_turn_at_once-done.ensures t way.ready))

pub loop-done-preserved : goal.loop-done-preserved
loop-done-preserved g c =
    let is = failing_is c.loop-done.done (sym c.fails_at_once.ensures ∙ c.loop-done-test.true) in
    record {
      way = λ tables ready. (
          let way = subst (λ (d : AtOnce). FailsAllTheWay tables c.args.m.now c.loop-done.m d) is (c.loop-done.invariant.way tables ready) in
          turn_after tables c.args.m.now c.loop-done.m c.fail_turn_at_once-done.new.m c.fail_turn_at_once-done.result way
          (c.fail_turn_at_once-done.ensures tables way.ready));
    }

pub returns-then-is_not : goal.returns-then-is_not
returns-then-is_not g c tables ready =
    way_stopped tables c.args.m.now c.loop-done.m c.loop-done.done (c.loop-done.invariant.way tables ready) (sym c.is_not.ensures ∙ c.if-is_not.true)

pub returns : goal.returns
returns g c tables ready =
    way_ended tables c.args.m.now c.loop-done.m c.loop-done.done (c.loop-done.invariant.way tables ready) (sym c.is_not.ensures ∙ c.if-is_not.false)
