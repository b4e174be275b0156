-- Loops over steps of a machine.
use Rattle.std.proofs.Common.{◌≡◌, ◌⊎◌, inl, inr, ◌<◌, ◌-◌, ◌==◌, ℕ, suc, Bool, true, false, length, Result, Ok, Err, refl, sym, ap, ◌∙◌, subst, arith}
use Rattle.std.specs.Prelude.{⊤, IfErr, IfOk, IsErrAnd}
use Rattle.std.proofs.lemmas.Bool.{eqb-true, eqb-false}
use Rattle.icn_vars.specs.declared.outcome.Halt.{Halt}
use Rattle.icn_value.specs.declared.limits.Limits.{Limits}
use Rattle.icn_code.specs.Codes.{Tables}
use Rattle.icn_streams.specs.Handed.{CallStreams}
use Rattle.icn_run.specs.Stacks.{Frames}
use Rattle.icn_run.specs.Step.{State}
use Rattle.icn_control.specs.Machines.{stack_seen}
use Rattle.icn_control.specs.declared.machine.Machine.{Machine}
use Rattle.icn_control.specs.declared.machine.RunState.{RunState}
use Rattle.icn_control.specs.declared.machine.RunState.TheVariants as RunStates
use Rattle.icn_machine.specs.Stepping.{Advances, FailsFurther, GoesOn, IsTurn, MakesTurn, advances, fails_within, goes_on, is_failing, stays}
use Rattle.icn_machine.proofs.AdvanceSteps.{Passes, advances_then}

-- Some steps after none or some

pub goes_then : {K : Type 0} (Is : State Frames Frames → Type 0) (tables : Tables) (m : Machine K) (stage : RunState) (a : CallStreams) (n : Machine K)
    (next : RunState) (b : CallStreams) (k : Machine K) (c : CallStreams) (result : Result RunState Halt)
    → goes_on next ≡ true → Passes Is tables n next
    → GoesOn Is tables m stage a n b (Ok next) → Advances Is tables n next b k c result → Advances Is tables m stage a k c result
goes_then Is tables m stage a n next b k c result goes passes (advances p) q = advances_then Is tables m stage a n next b k c result goes passes p q
goes_then {K} Is tables m stage a n next b k c result goes passes (stays e h r) q =
    subst (λ (x : Machine K). Advances Is tables x stage a k c result) e
    (subst (λ (x : CallStreams). Advances Is tables n stage x k c result) h
    (subst (λ (x : RunState). Advances Is tables n x b k c result) (stage_same next stage r) q))
  where
    stage_same : (s t : RunState) → ◌≡◌ {A = Result RunState Halt} (Ok s) (Ok t) → s ≡ t
    stage_same s t e = cc

pub goes_goes : {K : Type 0} (Is : State Frames Frames → Type 0) (tables : Tables) (m : Machine K) (stage : RunState) (a : CallStreams) (n : Machine K)
    (next : RunState) (b : CallStreams) (k : Machine K) (c : CallStreams) (result : Result RunState Halt)
    → goes_on next ≡ true → Passes Is tables n next
    → GoesOn Is tables m stage a n b (Ok next) → GoesOn Is tables n next b k c result → GoesOn Is tables m stage a k c result
goes_goes Is tables m stage a n next b k c result goes passes p (advances q) =
    advances (goes_then Is tables m stage a n next b k c result goes passes p q)
goes_goes {K} Is tables m stage a n next b k c result goes passes p (stays e h r) =
    subst (λ (x : Machine K). GoesOn Is tables m stage a x c result) (sym e)
    (subst (λ (x : CallStreams). GoesOn Is tables m stage a n x result) (sym h)
    (subst (λ (x : Result RunState Halt). GoesOn Is tables m stage a n b x) (sym r) p))

-- In one turn

-- so it stands within a turn: failing goes on in it, or one was made
abbrev pub WithinTurn : {K : Type 0} → Machine K → Machine K → RunState → Type 0
WithinTurn m n RunStates.Failing = (n.turns ≡ m.turns) ⊎ IsTurn m n
WithinTurn m n RunStates.Hopping = IsTurn m n
WithinTurn m n RunStates.Running = ⊤
WithinTurn m n RunStates.Over = ⊤
WithinTurn m n RunStates.AtBound = ⊤

pub fails_is : (stage : RunState) (now turns : ℕ) → fails_within stage now turns ≡ true → (stage ≡ RunStates.Failing) × (now ≡ turns)
fails_is RunStates.Failing now turns e = (refl, eqb-true _ _ e)
fails_is RunStates.Hopping now turns e = cc
fails_is RunStates.Running now turns e = cc
fails_is RunStates.Over now turns e = cc
fails_is RunStates.AtBound now turns e = cc

turn_from : {K : Type 0} (m n k : Machine K) → n.turns ≡ m.turns → n.limits ≡ m.limits → IsTurn n k → IsTurn m k
turn_from m n k e l t = record {
  more = t.more ∙ ap suc e;
  within = subst (λ (x : ℕ). x < m.limits.turns) e (subst (λ (x : Limits). n.turns < x.turns) l t.within);
}

pub within_more : {K : Type 0} (m n k : Machine K) (stage : RunState) → n.turns ≡ m.turns → n.limits ≡ m.limits → FailsFurther n k stage → WithinTurn m k stage
within_more m n k RunStates.Failing e l (inl t) = inr (turn_from m n k e l t)
within_more m n k RunStates.Failing e l (inr t) = inl (t.0 ∙ e)
within_more m n k RunStates.Hopping e l t = turn_from m n k e l t
within_more m n k RunStates.Running e l t = tt
within_more m n k RunStates.Over e l t = tt
within_more m n k RunStates.AtBound e l t = tt

pub within_ended : {K : Type 0} (m n : Machine K) (stage : RunState) (turns : ℕ) → turns ≡ m.turns → fails_within stage n.turns turns ≡ false
    → WithinTurn m n stage → MakesTurn m n stage
within_ended m n RunStates.Failing turns e f (inr t) = t
within_ended m n RunStates.Failing turns e f (inl t) = absurd (eqb-false _ _ f (t ∙ sym e))
within_ended m n RunStates.Hopping turns e f t = t
within_ended m n RunStates.Running turns e f t = tt
within_ended m n RunStates.Over turns e f t = tt
within_ended m n RunStates.AtBound turns e f t = tt

-- how much failing is left in a turn
abbrev pub failing_left : Bool → ℕ → ℕ
failing_left true n = suc n
failing_left false n = 0

left_falls : (b : Bool) (x y : ℕ) → (b ≡ true → x < y) → failing_left b x < suc y
left_falls true x y f = let l = f refl in omega (arith, l)
left_falls false x y f = omega arith

pub within_falls : {K : Type 0} (m n : Machine K) (stage : RunState) (turns : ℕ) → m.turns ≡ turns → FailsFurther m n stage
    → failing_left (fails_within stage n.turns turns) (length (stack_seen n).cells) < suc (length (stack_seen m).cells)
within_falls m n RunStates.Failing turns e (inl t) = left_falls (n.turns == turns) (length (stack_seen n).cells) (length (stack_seen m).cells)
    (λ b. let same : n.turns ≡ turns = eqb-true _ _ b in let more = t.more in absurd (omega (arith, same, more, e)))
within_falls m n RunStates.Failing turns e (inr t) = left_falls (n.turns == turns) (length (stack_seen n).cells) (length (stack_seen m).cells) (λ b. t.1)
within_falls m n RunStates.Hopping turns e t = omega arith
within_falls m n RunStates.Running turns e t = omega arith
within_falls m n RunStates.Over turns e t = omega arith
within_falls m n RunStates.AtBound turns e t = omega arith

-- how many turns are left, where failing goes on
pub turns_fall : {K : Type 0} (m n : Machine K) (stage : RunState) → n.limits ≡ m.limits → MakesTurn m n stage
    → failing_left (is_failing stage) (n.limits.turns - n.turns) < suc (m.limits.turns - m.turns)
turns_fall m n RunStates.Failing l t =
    let same : n.limits.turns ≡ m.limits.turns
    = ap (λ (x : Limits). x.turns) l in let more = t.more in let within = t.within in omega (arith, same, more, within)
turns_fall m n RunStates.Hopping l t =
    let same : n.limits.turns ≡ m.limits.turns
    = ap (λ (x : Limits). x.turns) l in let more = t.more in let within = t.within in omega (arith, same, more, within)
turns_fall m n RunStates.Running l t = omega arith
turns_fall m n RunStates.Over l t = omega arith
turns_fall m n RunStates.AtBound l t = omega arith

pub failing_goes : (stage : RunState) → is_failing stage ≡ true → goes_on stage ≡ true
failing_goes RunStates.Failing e = refl
failing_goes RunStates.Hopping e = refl
failing_goes RunStates.Running e = cc
failing_goes RunStates.Over e = cc
failing_goes RunStates.AtBound e = cc

-- One turn of a loop, where it goes on and where an error leaves it

-- one turn of the loop, and what the rest comes to
pub loop_goes_on : {K : Type 0} (Is : State Frames Frames → Type 0) (tables : Tables) (m : Machine K) (stage : RunState) (a : CallStreams) (n : Machine K)
    (next due : RunState) (b : CallStreams) (k : Machine K) (c : CallStreams) (result : Result RunState Halt)
    → next ≡ due → goes_on due ≡ true → Passes Is tables n due
    → GoesOn Is tables m stage a n b (Ok next) → GoesOn Is tables n due b k c result → GoesOn Is tables m stage a k c result
loop_goes_on Is tables m stage a n next due b k c result e goes passes p q =
    goes_goes Is tables m stage a n due b k c result goes passes (subst (λ (s : RunState). GoesOn Is tables m stage a n b (Ok s)) e p) q

-- one turn of the loop, and the halt of the rest
pub loop_halts : {K : Type 0} (Is : State Frames Frames → Type 0) (tables : Tables) (m : Machine K) (stage : RunState) (a : CallStreams) (n : Machine K)
    (next due : RunState) (b : CallStreams) (k : Machine K) (c : CallStreams) (halt : Halt) (result : Result RunState Halt)
    → next ≡ due → goes_on due ≡ true → Passes Is tables n due
    → GoesOn Is tables m stage a n b (Ok next) → GoesOn Is tables n due b k c (Err halt) → IsErrAnd result (λ h. h ≡ halt)
    → GoesOn Is tables m stage a k c result
loop_halts Is tables m stage a n next due b k c halt (Err h) e goes passes p q r =
    subst (λ (x : Halt). GoesOn Is tables m stage a k c (Err x)) (sym r) (loop_goes_on Is tables m stage a n next due b k c (Err halt) e goes passes p q)
loop_halts Is tables m stage a n next due b k c halt (Ok s) e goes passes p q r = absurd r

-- an error has no value of which anything is to be shown
pub if_ok_of_error : {A : Type 0} (result : Result A Halt) (Q : Halt → Type 0) (P : A → Type 0) → IsErrAnd result Q → IfOk result P
if_ok_of_error (Err h) Q P r = tt
if_ok_of_error (Ok s) Q P r = absurd r

-- what holds of a known error holds of the result's error
pub if_err_known : {A : Type 0} (result : Result A Halt) (halt : Halt) (P : Halt → Type 0) → IsErrAnd result (λ h. h ≡ halt) → P halt → IfErr result P
if_err_known (Err h) halt P r p = subst P (sym r) p
if_err_known (Ok s) halt P r p = absurd r
