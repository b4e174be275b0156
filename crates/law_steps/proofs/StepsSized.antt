-- A step of the run of a code leaves a heap whose records are as long as their kinds.
use Rattle.std.proofs.Common.{◌≡◌, ℕ, Bool, List, length, Option, None, Some, ◌∙◌, ap, sym, subst}
use Rattle.std.specs.Prelude.{slice_get}
use Rattle.std.specs.Option.{option_map_or}
use Rattle.icn_value.specs.Values.{Item, Value}
use Rattle.icn_value.specs.Store.{Outside, World}
use Rattle.icn_code.specs.declared.instr.Instr.{Instr}
use Rattle.icn_code.specs.Codes.{RecordType, Tables}
use Rattle.icn_defs.specs.Applying.{again, operation_row}
use Rattle.icn_defs.specs.Rows.{Outcome, Fails, Gives, Suspends, Error, Ends}
use Rattle.icn_defs.specs.Running.{Ending, words_row}
use Rattle.icn_defs.specs.StepRows.{Function, apply, coexpression_row, list_row, record_row, text_row}
use Rattle.law_names.specs.RowSizes.{FitSizes, RowsKeepSizes}
use Rattle.icn_run.specs.Stacks.{Frames, empty, flat}
use Rattle.icn_run.specs.Step as S
use Rattle.icn_run.specs.Step.{State, Store, running, failing, hopping, over, stuck}
use Rattle.icn_run.proofs.StoreLaws.{StoreLaw, LeavesBy}
use Rattle.icn_run.proofs.EveryStep.{StateHolds, CalleeLeaves, fails, hop, instruction, invoked, outcome, start_of, values}
use Rattle.law_steps.specs.KeepingNames.{MayCall}
use Rattle.law_steps.specs.KeepingSizes.{FunctionFits, OutcomeFits, StateFits, StepsKeepSizes, field_count}
use Rattle.law_steps.specs.Starts.{StartsFit}

module _ (P : Tables) where
  abbrev Is : World → Outside → List Bool → Type 0
  Is w outside begun = FitSizes (field_count P) w.heap

  abbrev Over : Ending → Outside → Type 0
  Over ending outside = Unit {0}

  leaves : (o : Outcome) (begun : List Bool) → OutcomeFits P o → LeavesBy Is Over begun o
  leaves (Fails a) begun h = h
  leaves (Gives i a) begun h = h
  leaves (Suspends i r a) begun h = h
  leaves (Error n v a) begun h = h
  leaves (Ends n a) begun h = tt

  -- a kind that is there has as many fields as its entry
  counted_fields : (kind n : ℕ) (entry : RecordType) → slice_get P.records kind ≡ Some entry → n ≡ length entry.fields → n ≡ field_count P kind
  counted_fields kind n entry e l = l ∙ sym (ap (λ (o : Option RecordType). option_map_or (λ (entry : RecordType). length entry.fields) o 0) e)

abbrev sizes_law : RowsKeepSizes → (P : Tables) → StoreLaw P
sizes_law rows P = record {
  Is = Is P;
  Over = Over P;
  pair = λ pair w outside begun k. k;
  failed = λ n v w outside begun k. k;
  counted = λ id w outside begun k. record { fit = k.fit };
  noted = λ proc w outside begun k. k;
  report = λ names n v w outside begun k. tt;
  bound = λ w outside begun k. tt;
  done = λ w outside begun k. tt;
  operations = λ op items a begun k. leaves P (operation_row op items a) begun ((rows.operations (field_count P) op items a).fit k);
  resumed = λ r a begun k. leaves P (again r a) begun ((rows.resumed (field_count P) r a).fit k);
  lists = λ vs a begun k. leaves P (list_row vs a) begun ((rows.lists (field_count P) vs a).fit k);
  records = λ kind entry vs a begun e l k.
      leaves P (record_row kind vs a) begun ((rows.records (field_count P) kind vs a (counted_fields P kind (length vs) entry e l)).fit k);
  texts = λ v a begun k. leaves P (text_row v a) begun ((rows.texts (field_count P) v a).fit k);
  words = λ words a begun k. leaves P (words_row words a) begun ((rows.words (field_count P) words a).fit k);
  coexpressions = λ locals a begun k. leaves P (coexpression_row locals a) begun ((rows.coexpressions (field_count P) locals a).fit k);
}

module _ (rows : RowsKeepSizes) (P : Tables) where
  state_in : (state : State Frames Frames) → StateFits P state → StateHolds flat P (sizes_law rows P) state
  state_in (running m st) k = k
  state_in (failing m st) k = k
  state_in (hopping m st) k = k
  state_in (over ending outside) k = tt
  state_in stuck k = tt

  state_out : (state : State Frames Frames) → StateHolds flat P (sizes_law rows P) state → StateFits P state
  state_out (running m st) k = k
  state_out (failing m st) k = k
  state_out (hopping m st) k = k
  state_out (over ending outside) k = tt
  state_out stuck k = tt

  callee : (f : Value) (xs : List Item) (m : Frames) (st : Store Frames) → FunctionFits P f xs m st → CalleeLeaves flat P (sizes_law rows P) f xs m st
  callee f xs m st fits = λ n func e c. leaves P (apply st.names (Function func) xs (S.here flat m st)) st.begun (fits n func e c)

never : {A : Type 0} (i j : Instr) → (MayCall i → ⊥) → i ≡ j → MayCall j → A
never i j d e h = absurd (d (subst MayCall (sym e) h))

pub steps_sized : RowsKeepSizes → StepsKeepSizes
steps_sized rows = record {
  instructions = λ P i m st d k.
      state_out rows P _ (instruction flat P (sizes_law rows P) i m st (λ n e. never i _ d e tt) (λ e. never i _ d e tt) k);
  failing = λ P m st k. state_out rows P _ (fails flat P (sizes_law rows P) m st k);
  hops = λ P m st k. state_out rows P _ (hop flat P (sizes_law rows P) m st k);
  outcomes = λ P o m st n. state_out rows P _ (outcome flat P (sizes_law rows P) o m st (leaves P o st.begun n));
  values = λ P xs m st go k f. state_out rows P _ (values flat P (sizes_law rows P) xs m st go k (λ vs. state_in rows P (go vs) (f vs)));
  called = λ P f xs m st n k. state_out rows P _ (invoked flat P (sizes_law rows P) f xs m st (callee rows P f xs m st n) k);
}

no_record : {A B : Type 0} (x : A) → None ≡ Some x → B
no_record x is = let none : ⊥ = cc in absurd none

pub starts_sized : RowsKeepSizes → StartsFit
starts_sized rows = λ P launch. state_out rows P _ (start_of flat P (sizes_law rows P) launch.words empty (S.first_store P launch) (S.main_of P)
    (record { fit = λ id structure is. no_record structure is }))
