-- The outside only grows along the steps of a run on flat stacks.
use Rattle.std.proofs.Common.{ℕ}
use Rattle.icn_code.specs.Codes.{Tables}
use Rattle.icn_defs.specs.Running.{Launch, after_steps}
use Rattle.icn_run.specs.FlatStep as Flat
use Rattle.icn_run.specs.Stacks.{Frames, flat, empty}
use Rattle.icn_run.specs.Step as S
use Rattle.icn_run.specs.Step.{State, running, failing, hopping, over, stuck}
use Rattle.law_outside.specs.Outsides.{ExtendsOutside, HasOutside, StateExtends}
use Rattle.law_outside.proofs.LastingFacts.{Lasting, extends_itself, from_outside}
use Rattle.icn_run.proofs.EveryStep.{StateHolds, start_of, steps}
use Rattle.law_outside.proofs.CodeRuns.{lasting, functions_leave}

module _ (b : Lasting) (tables : Tables) where
  -- the same said of a state in two ways
  has : (s : State Frames Frames) → StateHolds flat tables (lasting tables b) s → HasOutside b.is s
  has (running m st) k = k
  has (failing m st) k = k
  has (hopping m st) k = k
  has (over ending outside) k = k
  has stuck k = tt

  steps_have : (n : ℕ) (s : State Frames Frames) → StateHolds flat tables (lasting tables b) s → HasOutside b.is (after_steps (Flat.step tables) n s)
  steps_have n s k = has (after_steps (Flat.step tables) n s) (steps flat tables (lasting tables b) (functions_leave flat tables b) n s k)

pub steps_extend : (tables : Tables) (state : State Frames Frames) (n : ℕ) → StateExtends state (after_steps (Flat.step tables) n state)
steps_extend tables (running m st) n = steps_have (from_outside st.outside) tables n (running m st) (extends_itself st.outside)
steps_extend tables (failing m st) n = steps_have (from_outside st.outside) tables n (failing m st) (extends_itself st.outside)
steps_extend tables (hopping m st) n = steps_have (from_outside st.outside) tables n (hopping m st) (extends_itself st.outside)
steps_extend tables (over ending outside) n = steps_have (from_outside outside) tables n (over ending outside) (extends_itself outside)
steps_extend tables stuck n = tt

pub reached_extends : (tables : Tables) (launch : Launch) (n : ℕ)
    → HasOutside (ExtendsOutside launch.outside) (after_steps (Flat.step tables) n (Flat.start tables launch))
reached_extends tables launch n = let b = from_outside launch.outside in
    steps_have b tables n (Flat.start tables launch)
    (start_of flat tables (lasting tables b) launch.words empty (S.first_store tables launch) (S.main_of tables) (extends_itself launch.outside))
