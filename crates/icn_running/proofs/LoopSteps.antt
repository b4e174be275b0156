-- Loops over instructions: one turn of each, where it goes on.
use Rattle.std.proofs.Common.{◌≡◌, ◌⊎◌, inl, inr, ◌<◌, ◌-◌, ◌==◌, ℕ, suc, Bool, true, false, Result, Ok, refl, sym, ap, ◌∙◌, subst, arith}
use Rattle.std.specs.Prelude.{IfOk, IsTrue}
use Rattle.std.proofs.lemmas.Bool.{eqb-true, eqb-false}
use Rattle.icn_value.specs.declared.limits.Limits.{Limits}
use Rattle.icn_vars.specs.declared.outcome.Halt.{Halt}
use Rattle.icn_code.specs.Codes.{Tables}
use Rattle.icn_streams.specs.Handed.{CallStreams}
use Rattle.icn_control.specs.declared.machine.Machine.{Machine}
use Rattle.icn_control.specs.declared.machine.RunState.{RunState}
use Rattle.icn_control.specs.declared.machine.RunState.TheVariants as RunStates
use Rattle.icn_machine.specs.declared.stepping.AfterStep.{AfterStep}
use Rattle.icn_machine.specs.declared.stepping.AfterStep.TheVariants as AfterSteps
use Rattle.icn_machine.specs.Stepping.{Advances, GoesOn, IsAny, IsReady, advances, stays}
use Rattle.icn_machine.specs.AfterInstruction.{stage_of, stage_result}
use Rattle.icn_machine.proofs.LoopSteps.{failing_left, loop_goes_on}
use Rattle.icn_running.specs.declared.running.AfterTurn.{AfterTurn}
use Rattle.icn_running.specs.declared.running.AfterTurn.TheVariants as AfterTurns
use Rattle.icn_running.specs.WorkLeft.{Lasts, MadeTurn, left_now}
use Rattle.icn_running.specs.DueInstructions.{after_of, goes_on, is_on, is_within, step_result}
use Rattle.icn_running.proofs.WorkLeft.{falls_by, lasts_on}

-- Where a run stands

pub goes_is : (after : AfterTurn) → goes_on after ≡ true → after ≡ AfterTurns.Running
goes_is AfterTurns.Running e = refl
goes_is AfterTurns.Over e = cc
goes_is AfterTurns.AtBound e = cc
goes_is AfterTurns.Halted e = cc

pub within_is : (after : AfterTurn) (now turns : ℕ) → is_within after now turns ≡ true → (after ≡ AfterTurns.Running) × (now ≡ turns)
within_is AfterTurns.Running now turns e = (refl, eqb-true _ _ e)
within_is AfterTurns.Over now turns e = cc
within_is AfterTurns.AtBound now turns e = cc
within_is AfterTurns.Halted now turns e = cc

pub goes_true : (after : AfterTurn) → after ≡ AfterTurns.Running → IsTrue (goes_on after)
goes_true AfterTurns.Running e = refl
goes_true AfterTurns.Over e = cc
goes_true AfterTurns.AtBound e = cc
goes_true AfterTurns.Halted e = cc

-- what a step came to, said of where a run stands after it
pub told_after : (stepped : AfterStep) (halt : Halt) → step_result (after_of stepped) halt ≡ Ok stepped
told_after AfterSteps.Running halt = refl
told_after AfterSteps.Over halt = refl
told_after AfterSteps.AtBound halt = refl

-- where it stopped, no instruction is due
pub stopped : (after : AfterTurn) (halt : Halt) → goes_on after ≡ false → IfOk (step_result after halt) (λ stepped. is_on stepped ≡ false)
stopped AfterTurns.Running halt off = absurd (cc off)
stopped AfterTurns.Over halt off = refl
stopped AfterTurns.AtBound halt off = refl
stopped AfterTurns.Halted halt off = tt

-- the machine is ready for the next instruction, where one is due
pub ready_due : {K : Type 0} (tables : Tables) (m : Machine K) (after : AfterTurn) (halt : Halt) → after ≡ AfterTurns.Running
    → IfOk (step_result after halt) (λ stepped. IsReady tables m (stage_of stepped)) → IsReady tables m RunStates.Running
ready_due tables m after halt on ready = subst (λ (x : AfterTurn). IfOk (step_result x halt) (λ stepped. IsReady tables m (stage_of stepped))) on ready

-- One step more

steps_due : {K : Type 0} (tables : Tables) (m : Machine K) (a : CallStreams) (n : Machine K) (after : AfterTurn) (halt : Halt) (b : CallStreams)
    → after ≡ AfterTurns.Running → GoesOn IsAny tables m RunStates.Running a n b (stage_result (step_result after halt))
    → GoesOn IsAny tables m RunStates.Running a n b (Ok RunStates.Running)
steps_due tables m a n after halt b on steps =
    subst (λ (x : AfterTurn). GoesOn IsAny tables m RunStates.Running a n b (stage_result (step_result x halt))) on steps

pub run_next : {K : Type 0} (tables : Tables) (m : Machine K) (a : CallStreams) (n : Machine K) (after : AfterTurn) (halt : Halt) (b : CallStreams)
    (k : Machine K) (c : CallStreams) (result : Result RunState Halt) → after ≡ AfterTurns.Running
    → GoesOn IsAny tables m RunStates.Running a n b (stage_result (step_result after halt)) → GoesOn IsAny tables n RunStates.Running b k c result
    → GoesOn IsAny tables m RunStates.Running a k c result
run_next tables m a n after halt b k c result on p q =
    loop_goes_on IsAny tables m RunStates.Running a n RunStates.Running RunStates.Running b k c result refl refl (λ was state at. tt)
    (steps_due tables m a n after halt b on p) q

module _ {K : Type 0} (tables : Tables) (m : Machine K) (b : CallStreams) (n : Machine K) (c : CallStreams) (lasts : Lasts tables m) where
  pub lasts_next : (next : AfterTurn) (halt : Halt) → n.limits ≡ m.limits
      → Advances IsAny tables m RunStates.Running b n c (stage_result (step_result next halt)) → IsTrue (goes_on next) → Lasts tables n
  lasts_next AfterTurns.Running halt limits steps on = lasts_on tables m b n c lasts limits steps
  lasts_next AfterTurns.Over halt limits steps on = absurd (cc on)
  lasts_next AfterTurns.AtBound halt limits steps on = absurd (cc on)
  lasts_next AfterTurns.Halted halt limits steps on = absurd (cc on)

  turn_from : (first : Machine K) → m.turns ≡ first.turns → m.limits ≡ first.limits → MadeTurn m n → MadeTurn first n
  turn_from first same limits made = let more = made.more in let within = made.within in
      let bound : m.limits.turns ≡ first.limits.turns = ap (λ (l : Limits). l.turns) limits in
      record { more = omega (arith, more, same); within = omega (arith, within, bound) }

  pub turn_next : (first : Machine K) (next : AfterTurn) (halt : Halt) → m.turns ≡ first.turns → m.limits ≡ first.limits
      → Advances IsAny tables m RunStates.Running b n c (stage_result (step_result next halt)) → IsTrue (goes_on next)
      → (n.turns ≡ first.turns) ⊎ MadeTurn first n
  turn_next first AfterTurns.Running halt same limits steps on = by (falls_by tables m b n c lasts steps)
    where
      by : MadeTurn m n ⊎ ((n.turns ≡ m.turns) × (left_now tables n < left_now tables m)) → (n.turns ≡ first.turns) ⊎ MadeTurn first n
      by (inl made) = inr (turn_from first same limits made)
      by (inr less) = inl (less.0 ∙ same)
  turn_next first AfterTurns.Over halt same limits steps on = absurd (cc on)
  turn_next first AfterTurns.AtBound halt same limits steps on = absurd (cc on)
  turn_next first AfterTurns.Halted halt same limits steps on = absurd (cc on)

  pub left_falls : (next : AfterTurn) (halt : Halt) (turns : ℕ) → m.turns ≡ turns
      → Advances IsAny tables m RunStates.Running b n c (stage_result (step_result next halt))
      → failing_left (is_within next n.turns turns) (left_now tables n) < suc (left_now tables m)
  left_falls AfterTurns.Running halt turns same steps = by (n.turns == turns) refl (falls_by tables m b n c lasts steps)
    where
      by : (t : Bool) → (n.turns == turns) ≡ t → MadeTurn m n ⊎ ((n.turns ≡ m.turns) × (left_now tables n < left_now tables m))
          → failing_left t (left_now tables n) < suc (left_now tables m)
      by true e (inl made) = let more = made.more in let now = eqb-true _ _ e in absurd (omega (arith, more, now, same))
      by true e (inr less) = let l = less.1 in omega (arith, l)
      by false e q = omega arith
  left_falls AfterTurns.Over halt turns same steps = omega arith
  left_falls AfterTurns.AtBound halt turns same steps = omega arith
  left_falls AfterTurns.Halted halt turns same steps = omega arith

-- where it ended by a turn
pub ended_by_turn : {K : Type 0} (first m : Machine K) (after : AfterTurn) (turns : ℕ) → turns ≡ first.turns → is_within after m.turns turns ≡ false
    → (IsTrue (goes_on after) → (m.turns ≡ first.turns) ⊎ MadeTurn first m)
    → IsTrue (goes_on after) → MadeTurn first m
ended_by_turn first m AfterTurns.Running turns e test turn on = by (turn on)
  where
    by : (m.turns ≡ first.turns) ⊎ MadeTurn first m → MadeTurn first m
    by (inl same) = absurd (eqb-false _ _ test (same ∙ sym e))
    by (inr made) = made
ended_by_turn first m AfterTurns.Over turns e test turn on = absurd (cc on)
ended_by_turn first m AfterTurns.AtBound turns e test turn on = absurd (cc on)
ended_by_turn first m AfterTurns.Halted turns e test turn on = absurd (cc on)

-- The loop over turns

pub turns_fall : {K : Type 0} (m n : Machine K) (next : AfterTurn) → n.limits ≡ m.limits → (IsTrue (goes_on next) → MadeTurn m n)
    → failing_left (goes_on next) (n.limits.turns - n.turns) < suc (m.limits.turns - m.turns)
turns_fall m n AfterTurns.Running limits turn =
    let made = turn refl in let more = made.more in let within = made.within in
    let bound : n.limits.turns ≡ m.limits.turns = ap (λ (l : Limits). l.turns) limits in
    omega (arith, more, within, bound)
turns_fall m n AfterTurns.Over limits turn = omega arith
turns_fall m n AfterTurns.AtBound limits turn = omega arith
turns_fall m n AfterTurns.Halted limits turn = omega arith

-- What stopped has gone on.

pub run_over : {K : Type 0} (tables : Tables) (m : Machine K) (a : CallStreams) (n : Machine K) (b : CallStreams) (after : AfterTurn) (halt : Halt)
    → goes_on after ≡ false → GoesOn IsAny tables m RunStates.Running a n b (stage_result (step_result after halt))
    → Advances IsAny tables m RunStates.Running a n b (stage_result (step_result after halt))
run_over tables m a n b after halt off (advances steps) = steps
run_over tables m a n b AfterTurns.Running halt off (stays e h r) = absurd (cc off)
run_over tables m a n b AfterTurns.Over halt off (stays e h r) = absurd (cc r)
run_over tables m a n b AfterTurns.AtBound halt off (stays e h r) = absurd (cc r)
run_over tables m a n b AfterTurns.Halted halt off (stays e h r) = absurd (cc r)
