-- A step of the run of a code leaves as many globals, statics and notes of `initial` as the tables say.
use Rattle.std.proofs.Common.{Bool, true, false, List, length, ◌∙◌}
use Rattle.std.proofs.lemmas.List.{length-map, length-replicate, length-set}
use Rattle.icn_value.specs.Values.{Null}
use Rattle.icn_value.specs.Store.{Outside, World}
use Rattle.icn_code.specs.Codes.{Tables}
use Rattle.icn_defs.specs.Applying.{again, operation_row}
use Rattle.icn_defs.specs.Rows.{Outcome, Fails, Gives, Suspends, Error, Ends}
use Rattle.icn_defs.specs.Running.{Ending, Launch, words_row}
use Rattle.icn_defs.specs.StepRows.{Function, apply, coexpression_row, list_row, record_row, text_row}
use Rattle.icn_run.specs.Stacks.{Frames, empty, flat}
use Rattle.icn_run.specs.Step as S
use Rattle.icn_run.specs.Step.{State, running, failing, hopping, over, stuck}
use Rattle.icn_run.specs.AnyOutside.{over_outside}
use Rattle.icn_run.specs.InstructionNeeds.{FitTables, HasVariables}
use Rattle.icn_run.proofs.StoreLaws.{StoreLaw, LeavesBy}
use Rattle.icn_run.proofs.EveryStep.{StateHolds, FunctionsLeave, fails, hop, instruction, resumed, start_of, step}
use Rattle.law_steps.specs.KeepingVariables.{KeepVariables, RowsKeepVariables, StateHasVariables, StatesHaveVariables, world_after}

module _ (P : Tables) where
  abbrev Is : World → Outside → List Bool → Type 0
  Is w outside begun = FitTables P (length w.globals) (length w.statics) (length begun)

  abbrev Over : Ending → Outside → Type 0
  Over ending outside = Unit {0}

  kept : (before : World) (o : Outcome) (outside : Outside) (begun : List Bool) → KeepVariables before (world_after o) → Is before outside begun
      → LeavesBy Is Over begun o
  kept before (Fails a) outside begun h k = record { globals = h.globals ∙ k.globals; statics = h.statics ∙ k.statics; begun = k.begun }
  kept before (Gives i a) outside begun h k = record { globals = h.globals ∙ k.globals; statics = h.statics ∙ k.statics; begun = k.begun }
  kept before (Suspends i r a) outside begun h k = record { globals = h.globals ∙ k.globals; statics = h.statics ∙ k.statics; begun = k.begun }
  kept before (Error n v a) outside begun h k = record { globals = h.globals ∙ k.globals; statics = h.statics ∙ k.statics; begun = k.begun }
  kept before (Ends n a) outside begun h k = tt

abbrev variables_law : RowsKeepVariables → (P : Tables) → StoreLaw P
variables_law rows P = record {
  Is = Is P;
  Over = Over P;
  pair = λ pair w outside begun k. k;
  failed = λ n v w outside begun k. k;
  counted = λ id w outside begun k. k;
  noted = λ proc w outside begun k. record { globals = k.globals; statics = k.statics; begun = length-set begun proc true ∙ k.begun };
  report = λ names n v w outside begun k. tt;
  bound = λ w outside begun k. tt;
  done = λ w outside begun k. tt;
  operations = λ op items a begun k. kept P a.world (operation_row op items a) a.outside begun (rows.operations op items a) k;
  resumed = λ r a begun k. kept P a.world (again r a) a.outside begun (rows.resumed r a) k;
  lists = λ vs a begun k. kept P a.world (list_row vs a) a.outside begun (rows.lists vs a) k;
  records = λ kind entry vs a begun e l k. kept P a.world (record_row kind vs a) a.outside begun (rows.records kind vs a) k;
  texts = λ v a begun k. kept P a.world (text_row v a) a.outside begun (rows.texts v a) k;
  words = λ words a begun k. kept P a.world (words_row words a) a.outside begun (rows.words words a) k;
  coexpressions = λ locals a begun k. kept P a.world (coexpression_row locals a) a.outside begun (rows.coexpressions locals a) k;
}

module _ (rows : RowsKeepVariables) (P : Tables) where
  functions : FunctionsLeave flat P (variables_law rows P)
  functions names func xs a begun k = kept P a.world (apply names (Function func) xs a) a.outside begun (rows.functions names func xs a) k

  state_in : (state : State Frames Frames) → StateHasVariables P state → StateHolds flat P (variables_law rows P) state
  state_in (running m st) k = k
  state_in (failing m st) k = k
  state_in (hopping m st) k = k
  state_in (over ending outside) k = tt
  state_in stuck k = tt

  state_out : (state : State Frames Frames) → StateHolds flat P (variables_law rows P) state → StateHasVariables P state
  state_out (running m st) k = k
  state_out (failing m st) k = k
  state_out (hopping m st) k = k
  state_out (over ending outside) k = tt
  state_out stuck k = tt

  elsewhere : (outside : Outside) (state : State Frames Frames) → StateHasVariables P state → StateHasVariables P (over_outside outside state)
  elsewhere outside (running m st) k = k
  elsewhere outside (failing m st) k = k
  elsewhere outside (hopping m st) k = k
  elsewhere outside (over ending left) k = tt
  elsewhere outside stuck k = tt

  first : (launch : Launch) → HasVariables P (S.first_store {K = Frames} P launch)
  first launch = record {
    globals = length-map P.globals (S.global_value P);
    statics = length-replicate (S.static_count P) Null;
    begun = length-replicate (length P.procs) false;
  }

pub states_have_variables : RowsKeepVariables → StatesHaveVariables
states_have_variables rows = record {
  starts = λ P launch.
      state_out rows P _ (start_of flat P (variables_law rows P) launch.words empty (S.first_store P launch) (S.main_of P) (first rows P launch));
  steps = λ P state k. state_out rows P _ (step flat P (variables_law rows P) (functions rows P) state (state_in rows P state k));
  elsewhere = λ P outside state k. elsewhere rows P outside state k;
  instructions = λ P i m st k.
      state_out rows P _ (instruction flat P (variables_law rows P) i m st (λ n e. functions rows P) (λ e. functions rows P) k);
  failures = λ P m st k. state_out rows P _ (fails flat P (variables_law rows P) m st k);
  resuming = λ P why m st k. state_out rows P _ (resumed flat P (variables_law rows P) why m st k);
  hops = λ P m st k. state_out rows P _ (hop flat P (variables_law rows P) m st k);
}
