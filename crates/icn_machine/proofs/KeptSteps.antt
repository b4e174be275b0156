-- What holds of each state of a run is kept by the next step.
use Rattle.std.proofs.Common.{◌≡◌, ◌≢◌, [], ◌∷◌, refl, sym, subst}
use Rattle.icn_value.specs.Store.{Names, Outside}
use Rattle.icn_code.specs.Codes.{Tables}
use Rattle.icn_run.specs.Stacks.{Frames, flat}
use Rattle.icn_run.specs.Step.{State, Store, running, failing, hopping, over, stuck, step, all_names}
use Rattle.law_steps.specs.StateNames.{StateNamed}
use Rattle.law_steps.specs.KeepingNames.{StepsKeepNames}
use Rattle.law_steps.specs.KeepingSizes.{StateFits, StepsKeepSizes}
use Rattle.icn_run.specs.AnyOutside.{over_outside, run_over}
use Rattle.icn_control.specs.Machines.{StandsAt}
use Rattle.icn_control.specs.declared.machine.Machine.{Machine}
use Rattle.icn_control.specs.declared.machine.RunState.{RunState}
use Rattle.icn_control.specs.declared.machine.RunState.TheVariants as RunStates
use Rattle.icn_machine.specs.Stepping.{AlwaysOver, IsKept, IsKeptAt, LacksNothing, outside_at}

over_same : (state : State Frames Frames) → over_outside (outside_at state) state ≡ state
over_same (running m st) = refl
over_same (failing m st) = refl
over_same (hopping m st) = refl
over_same (over ending outside) = refl
over_same stuck = refl

-- what always holds holds after a step over the state's own outside
pub always_next : (tables : Tables) (P : State Frames Frames → Type 0) (state : State Frames Frames) → AlwaysOver tables P state
    → AlwaysOver tables P (step flat tables state)
always_next tables P state h outsides =
    subst (λ (s : State Frames Frames). P (run_over tables outsides (step flat tables s))) (over_same state) (h (outside_at state ∷ outsides))

-- a step of failing, and a hop
pub kept_failing : (tables : Tables) → StepsKeepNames → StepsKeepSizes → (m : Frames) (st : Store Frames) → IsKept tables (failing m st)
    → IsKept tables (step flat tables (failing m st))
kept_failing tables names sizes m st k = record {
  always = always_next tables (LacksNothing tables) (failing m st) k.always;
  named = names.failing tables m st k.named.0 k.named.1;
  fits = sizes.failing tables m st k.fits;
}

pub kept_hopping : (tables : Tables) → StepsKeepNames → StepsKeepSizes → (m : Frames) (st : Store Frames) → IsKept tables (hopping m st)
    → IsKept tables (step flat tables (hopping m st))
kept_hopping tables names sizes m st k = record {
  always = always_next tables (LacksNothing tables) (hopping m st) k.always;
  named = names.hops tables m st k.named;
  fits = sizes.hops tables m st k.fits;
}

-- the machine stands for the state that is kept
pub kept_at : {K : Type 0} (tables : Tables) (now : Outside) (state : State Frames Frames) (n : Machine K) (stage : RunState)
    → StandsAt tables now state n stage → IsKept tables state → IsKeptAt tables n stage
kept_at tables now state n RunStates.Running h k = (now, (state, (h, k)))
kept_at tables now state n RunStates.Failing h k = (now, (state, (h, k)))
kept_at tables now state n RunStates.Hopping h k = (now, (state, (h, k)))
kept_at tables now state n RunStates.Over h k = tt
kept_at tables now state n RunStates.AtBound h k = tt

-- it is not stuck after the next step
pub next_lacks_nothing : (tables : Tables) (state : State Frames Frames) → IsKept tables state → step flat tables state ≢ stuck
next_lacks_nothing tables state k = (always_next tables (LacksNothing tables) state k.always []).goes_on

-- it holds over another outside

lacks_over : (tables : Tables) (outside : Outside) (state : State Frames Frames) → LacksNothing tables state → LacksNothing tables (over_outside outside state)
lacks_over tables outside (running m st) h = record {
  goes_on = λ e. absurd (cc);
  variables = h.variables;
  mark = h.mark;
}
lacks_over tables outside (failing m st) h = record {
  goes_on = λ e. absurd (cc);
  variables = h.variables;
  mark = tt;
}
lacks_over tables outside (hopping m st) h = record {
  goes_on = λ e. absurd (cc);
  variables = h.variables;
  mark = tt;
}
lacks_over tables outside (over ending left) h = h
lacks_over tables outside stuck h = h

over_twice : (was now : Outside) (state : State Frames Frames) → over_outside now (over_outside was state) ≡ over_outside now state
over_twice was now (running m st) = refl
over_twice was now (failing m st) = refl
over_twice was now (hopping m st) = refl
over_twice was now (over ending left) = refl
over_twice was now stuck = refl

always_over : (tables : Tables) (outside : Outside) (state : State Frames Frames) → AlwaysOver tables (LacksNothing tables) state
    → AlwaysOver tables (LacksNothing tables) (over_outside outside state)
always_over tables outside state h [] = lacks_over tables outside state (h [])
always_over tables outside state h (next ∷ later) =
    subst (λ (s : State Frames Frames). LacksNothing tables (run_over tables later (step flat tables s))) (sym (over_twice outside next state))
    (h (next ∷ later))

named_over : (names : Names) (outside : Outside) (state : State Frames Frames) → StateNamed names state → StateNamed names (over_outside outside state)
named_over names outside (running m st) h = (h.0, record { world = h.1.world; coexps = h.1.coexps })
named_over names outside (failing m st) h = (h.0, record { world = h.1.world; coexps = h.1.coexps })
named_over names outside (hopping m st) h = record { world = h.world; coexps = h.coexps }
named_over names outside (over ending left) h = h
named_over names outside stuck h = h

fits_over : (tables : Tables) (outside : Outside) (state : State Frames Frames) → StateFits tables state → StateFits tables (over_outside outside state)
fits_over tables outside (running m st) h = h
fits_over tables outside (failing m st) h = h
fits_over tables outside (hopping m st) h = h
fits_over tables outside (over ending left) h = h
fits_over tables outside stuck h = h

pub kept_over : (tables : Tables) (outside : Outside) (state : State Frames Frames) → IsKept tables state → IsKept tables (over_outside outside state)
kept_over tables outside state k = record {
  always = always_over tables outside state k.always;
  named = named_over (all_names tables) outside state k.named;
  fits = fits_over tables outside state k.fits;
}
