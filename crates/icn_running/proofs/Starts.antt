-- With what a run starts: a state of which all holds that the machine asks for, and that lasts.
use Rattle.std.proofs.Common.{◌≡◌, ℕ, List, [], ◌∷◌, IsSome, sym, ap, ◌∙◌, subst}
use Rattle.icn_value.specs.declared.limits.Limits.{Limits}
use Rattle.icn_value.specs.Limited.{limits_of}
use Rattle.icn_value.specs.Store.{Outside}
use Rattle.icn_defs.specs.Running.{Launch}
use Rattle.icn_code.specs.Codes.{Tables}
use Rattle.icn_run.specs.FlatStep.{start}
use Rattle.icn_run.specs.Stacks.{Frames, flat}
use Rattle.icn_run.specs.Step.{State, running, failing, hopping, over, stuck, step, all_names}
use Rattle.law_steps.specs.StateNames.{StateNamed}
use Rattle.law_steps.specs.KeepingSizes.{StateFits}
use Rattle.icn_run.specs.AnyOutside.{over_outside, run_over}
use Rattle.law_safe.specs.NoStuck.{IsNeverStuckOver}
use Rattle.law_safe.specs.StepMeasure.{EachStepFalls}
use Rattle.icn_control.specs.Machines.{IsSoundMachine, stack_seen, store_seen}
use Rattle.icn_control.specs.declared.machine.Machine.{Machine}
use Rattle.icn_control.specs.declared.machine.RunState.TheVariants as RunStates
use Rattle.law_safe.specs.CaseMarks.{CaseStands, CasesStandOver}
use Rattle.law_steps.specs.KeepingVariables.{StateHasVariables, StatesHaveVariables}
use Rattle.law_safe.proofs.CaseMarks.{case_mark}
use Rattle.icn_machine.specs.Stepping.{FindsMark, FindsVariables, IsKept, IsReady}
use Rattle.icn_running.specs.WorkLeft.{AlwaysFalls, Lasts}
use Rattle.icn_running.proofs.WorkLeft.{falls_elsewhere}

-- The words of the laws are those of the machine

finds_variables : (tables : Tables) (s : State Frames Frames) → StateHasVariables tables s → FindsVariables tables s
finds_variables tables (running m st) h = h
finds_variables tables (failing m st) h = h
finds_variables tables (hopping m st) h = h
finds_variables tables (over ending outside) h = tt
finds_variables tables stuck h = tt

finds_mark : (tables : Tables) (s : State Frames Frames) → CaseStands tables s → FindsMark tables s
finds_mark tables (running m st) h = λ instr e. case_mark tables m st instr h e
finds_mark tables (failing m st) h = tt
finds_mark tables (hopping m st) h = tt
finds_mark tables (over ending outside) h = tt
finds_mark tables stuck h = tt

-- the variables are there over any outsides
variables_over : (tables : Tables) → StatesHaveVariables → (outsides : List Outside) (s : State Frames Frames) → StateHasVariables tables s
    → StateHasVariables tables (run_over tables outsides s)
variables_over tables laws [] s h = h
variables_over tables laws (outside ∷ later) s h =
    variables_over tables laws later (step flat tables (over_outside outside s))
    (laws.steps tables (over_outside outside s) (laws.elsewhere tables outside s h))

-- What holds of the state with which a run starts

pub start_kept : (tables : Tables) (launch : Launch) → IsNeverStuckOver tables (start tables launch) → StatesHaveVariables
    → CasesStandOver tables (start tables launch)
    → StateNamed (all_names tables) (start tables launch) → StateFits tables (start tables launch) → IsKept tables (start tables launch)
start_kept tables launch never variables cases named fits = record {
  always = λ outsides. record {
    goes_on = never outsides;
    variables =
        finds_variables tables (run_over tables outsides (start tables launch))
        (variables_over tables variables outsides (start tables launch) (variables.starts tables launch));
    mark = finds_mark tables (run_over tables outsides (start tables launch)) (cases outsides);
  };
  named = named;
  fits = fits;
}

-- the machine that stands for it is ready
pub start_ready : {K : Type 0} (tables : Tables) (launch : Launch) (m : Machine K) → IsKept tables (start tables launch) → IsSoundMachine tables m
    → IsSome m.stacks.table.running
    → start tables launch ≡ running (stack_seen m) (store_seen tables launch.outside m) → IsReady tables m RunStates.Running
start_ready tables launch m kept sound runs stands = record {
  sound = sound;
  stack = runs;
  kept = (launch.outside, (start tables launch, (stands, kept)));
}

-- How long it lasts

pub start_lasts : {K : Type 0} (tables : Tables) (launch : Launch) (limits : Limits) (m : Machine K) → EachStepFalls tables launch
    → launch.bounds ≡ limits_of limits → m.limits ≡ limits
    → start tables launch ≡ running (stack_seen m) (store_seen tables launch.outside m) → Lasts tables m
start_lasts tables launch limits m falls bounds same stands outside =
    let bound : launch.bounds.turns ≡ m.limits.turns = ap (λ b. b.turns) bounds ∙ sym (ap (λ (l : Limits). l.turns) same) in
    let here : AlwaysFalls tables m.limits.turns (start tables launch) = subst (λ (n : ℕ). AlwaysFalls tables n (start tables launch)) bound falls in
    falls_elsewhere tables m.limits.turns outside (running (stack_seen m) (store_seen tables launch.outside m))
    (subst (λ (s : State Frames Frames). AlwaysFalls tables m.limits.turns s) stands here)
