-- A machine that gave memory back is ready as it was, and what it goes on to is what the machine before would.
use Rattle.std.proofs.Common.{◌≡◌, ◌<◌, Result, refl, sym, ap, ◌∙◌, subst, arith}
use Rattle.std.specs.Prelude.{IsSome, IsTrue}
use Rattle.icn_value.specs.Store.{Outside}
use Rattle.icn_value.specs.declared.limits.Limits.{Limits}
use Rattle.icn_vars.specs.declared.outcome.Halt.{Halt}
use Rattle.icn_streams.specs.Handed.{CallStreams}
use Rattle.icn_coexp.specs.Transfers.{CoexpTable}
use Rattle.icn_code.specs.Codes.{Tables}
use Rattle.icn_run.specs.Stacks.{Frames}
use Rattle.icn_run.specs.Step.{State, Store, running}
use Rattle.icn_control.specs.Machines.{stack_seen, store_seen}
use Rattle.icn_control.specs.declared.machine.Machine.{Machine}
use Rattle.icn_control.specs.declared.machine.RunState.{RunState}
use Rattle.icn_control.specs.declared.machine.RunState.TheVariants as RunStates
use Rattle.icn_machine.specs.AfterInstruction.{stage_result}
use Rattle.icn_machine.specs.Stepping.{Advances, GoesOn, IsAny, IsAt, IsReady, advances, stays}
use Rattle.icn_running.specs.declared.running.AfterTurn.{AfterTurn}
use Rattle.icn_running.specs.declared.running.AfterTurn.TheVariants as AfterTurns
use Rattle.icn_running.specs.DueInstructions.{goes_on, step_result}
use Rattle.icn_running.specs.SameMachines.{StandsForSame}
use Rattle.icn_running.specs.WorkLeft.{AlwaysFalls, Lasts, MadeTurn, state_seen}

module _ {K : Type 0} (m n : Machine K) (same : StandsForSame m n) (tables : Tables) where
  place_same : (outside : Outside) → state_seen tables outside n ≡ state_seen tables outside m
  place_same outside =
      ap (λ (s : Frames). running s (store_seen tables outside n)) same.stack
      ∙ ap (λ (st : Store Frames). running (stack_seen m) st) (same.store tables outside)

  at_same : (outside : Outside) (state : State Frames Frames) → IsAt tables outside state m RunStates.Running
      → IsAt tables outside state n RunStates.Running
  at_same outside state at = at ∙ sym (place_same outside)

  pub ready_same : IsReady tables m RunStates.Running → IsReady tables n RunStates.Running
  ready_same ready =
      let kept = ready.kept in
      record {
        sound = same.sound tables ready.sound;
        stack = subst (λ (t : CoexpTable). IsSome t.running) (sym same.table) ready.stack;
        kept = (kept.0, (kept.1.0, (at_same kept.0 kept.1.0 kept.1.1.0, kept.1.1.1)));
      }

  pub lasts_same : Lasts tables m → Lasts tables n
  lasts_same lasts outside =
      let there : AlwaysFalls tables n.limits.turns (state_seen tables outside m) =
      subst (λ (l : Limits). AlwaysFalls tables l.turns (state_seen tables outside m)) (sym same.limits) (lasts outside) in
      subst (AlwaysFalls tables n.limits.turns) (sym (place_same outside)) there

  pub turn_same : (k : Machine K) → MadeTurn n k → MadeTurn m k
  turn_same k made =
      let limit : n.limits.turns ≡ m.limits.turns = ap (λ (l : Limits). l.turns) same.limits in
      record { more = omega (arith, made.more, same.turns); within = omega (arith, made.within, limit) }

  module _ (b : CallStreams) (k : Machine K) (c : CallStreams) where
    advances_same : (result : Result RunState Halt) → Advances IsAny tables n RunStates.Running b k c result
        → Advances IsAny tables m RunStates.Running b k c result
    advances_same result a = record {
      answers = λ was state at tells. a.answers was state (at_same was state at) tells;
      meant = λ was state at. a.meant was state (at_same was state at);
      taken = a.taken;
      caused = a.caused;
    }

    -- where it went on by a turn, or was stopped
    pub goes_same : (next : AfterTurn) (halt : Halt) → (IsTrue (goes_on next) → MadeTurn n k)
        → GoesOn IsAny tables n RunStates.Running b k c (stage_result (step_result next halt))
        → GoesOn IsAny tables m RunStates.Running b k c (stage_result (step_result next halt))
    goes_same next halt turn (advances a) = advances (advances_same (stage_result (step_result next halt)) a)
    goes_same AfterTurns.Running halt turn (stays e h r) =
        let more : n.turns < k.turns = (turn refl).more in
        let still : k.turns ≡ n.turns = ap (λ (x : Machine K). x.turns) e in
        absurd (omega (arith, more, still))
    goes_same AfterTurns.Over halt turn (stays e h r) = absurd (cc r)
    goes_same AfterTurns.AtBound halt turn (stays e h r) = absurd (cc r)
    goes_same AfterTurns.Halted halt turn (stays e h r) = absurd (cc r)
