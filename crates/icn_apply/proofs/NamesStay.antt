-- What is answered names only what has a name, by the law over rows.
use Rattle.std.proofs.Common.{◌≡◌, sym, subst, ◌<◌, List, [], ◌∷◌, length, map, Result, Ok, Err}
use Rattle.std.specs.Prelude.{IsErrAnd}
use Rattle.std.specs.List.{All}
use Rattle.std.specs.Option.{option_map}
use Rattle.std.proofs.lemmas.List.Elements.{All-nil, All-cons, All-head, All-tail, All-weaker}
use Rattle.icn_text.specs.declared.func.Func.{Func}
use Rattle.icn_value.specs.declared.val.Val.{Val}
use Rattle.icn_value.specs.declared.val.Val.TheVariants.{Null as NullVal, Integer as IntegerVal, Text as TextVal, Chars as CharsVal, Std as StdVal, Proc as ProcVal, Rec as RecVal, List as ListVal, Set as SetVal, Table as TableVal, Coexp as CoexpVal}
use Rattle.icn_value.specs.Values.{Value, Item}
use Rattle.icn_value.specs.Store.{Heap, Names, Record, Outside, Setting, bare_outside}
use Rattle.icn_defs.specs.Applying.{function_of}
use Rattle.icn_defs.specs.Arguments.{arg}
use Rattle.icn_defs.specs.ReadAndAssign.{the_values}
use Rattle.icn_defs.specs.Rows.{Row, Fails, Error, Ends, fails}
use Rattle.icn_heap.specs.Extents.{Extent, IsLive, value_in}
use Rattle.icn_heap.specs.Heaps.{extent_of, heap_of}
use Rattle.icn_heap.proofs.StructureNumbers.{record_below}
use Rattle.icn_heap.specs.declared.heap.Heap.{Heap as HeldHeap}
use Rattle.icn_convert.specs.ProgramNames.{AreRecordsNamed, IsNamed}
use Rattle.law_names.specs.RowsNamed.{IsThere, OutcomeNamed}
use Rattle.law_names.specs.NamedSettings.{HeapNamed, ItemNamed, RecordNamed, SettingNamed, ValueNamed}
use Rattle.law_names.proofs.RowsNamed.{rows_keep_names}
use Rattle.icn_vars.specs.Outcomes.{ComesToAnswer, outcome_in}
use Rattle.icn_vars.specs.Stops.{StopsFinding, halt_of}
use Rattle.icn_vars.specs.Worlds.{setting_of}
use Rattle.icn_vars.specs.declared.outcome.Outcome.{Outcome as HeldOutcome}
use Rattle.icn_vars.specs.declared.outcome.Outcome.TheVariants.{Fails as HeldFails, Gives as HeldGives, Suspends as HeldSuspends}
use Rattle.icn_vars.specs.declared.outcome.Halt.{Halt}
use Rattle.icn_vars.specs.declared.outcome.Halt.TheVariants.{Error as ErrorHalt, Ends as EndsHalt, ReadFault, WriteFault, FileFault, NoMemory}
use Rattle.icn_vars.specs.declared.stop.Stop.{Stop}
use Rattle.icn_vars.specs.declared.stop.Stop.TheVariants.{Error as ErrorStop, NoMemory as NoMemoryStop}
use Rattle.icn_vars.specs.declared.world.World.{World}
use Rattle.icn_streams.specs.Answers.{CallState, setting_with}
use Rattle.icn_streams.specs.Applies.{Applies}
use Rattle.icn_streams.proofs.CallSequences.{outside_told, told_so}
use Rattle.icn_apply.specs.NamesAfter.{AnswerNamed}

-- What is named does not ask for the outside

pub elsewhere : (names : Names) (world : World) (locals : List Val) (was now : Outside) → SettingNamed names (setting_of was world locals)
    → SettingNamed names (setting_of now world locals)
elsewhere names world locals was now is = record { world = is.world; locals = is.locals }

outcome_elsewhere : (names : Names) (all : Extent) (world : World) (locals : List Val) (was now : Outside) (outcome : HeldOutcome)
    → OutcomeNamed names (outcome_in all outcome (setting_of was world locals)) → OutcomeNamed names (outcome_in all outcome (setting_of now world locals))
outcome_elsewhere names all world locals was now HeldFails is = elsewhere names world locals was now is
outcome_elsewhere names all world locals was now (HeldGives item) is = (is.0, elsewhere names world locals was now is.1)
outcome_elsewhere names all world locals was now (HeldSuspends item rest) is = (is.0, (is.1.0, elsewhere names world locals was now is.1.1))

-- What a row comes to

module _ (names : Names) (row : Row) (at : Setting) (named : OutcomeNamed names (row at)) (world : World) (locals : List Val) (now : Outside) where
  comes_named : (result : Result HeldOutcome Halt) → ComesToAnswer (extent_of world.heap) row at (setting_of now world locals) result
      → AnswerNamed names world locals result
  comes_named (Ok outcome) is = outcome_elsewhere names (extent_of world.heap) world locals now bare_outside outcome (subst (OutcomeNamed names) is named)
  comes_named (Err (ErrorHalt number offending)) is =
      let both : OutcomeNamed names (Error number (option_map (value_in (extent_of world.heap)) offending) (setting_of now world locals)) =
      subst (OutcomeNamed names) is named in
      (both.0, elsewhere names world locals now bare_outside both.1)
  comes_named (Err (EndsHalt status)) is =
      let after : OutcomeNamed names (Ends status (setting_of now world locals)) = subst (OutcomeNamed names) is named in
      elsewhere names world locals now bare_outside after
  comes_named (Err ReadFault) is = tt
  comes_named (Err WriteFault) is = tt
  comes_named (Err FileFault) is = tt
  comes_named (Err NoMemory) is = tt

-- whatever the input tells
pub applies_named : (names : Names) (row : Row) (before after : CallState) (result : Result HeldOutcome Halt)
    → ((was : Outside) → OutcomeNamed names (row (setting_with was before)))
    → Applies row before after result → AnswerNamed names after.world after.locals result
applies_named names row before after (Ok outcome) named is =
    let was : Outside = outside_told is.meant.had in
    let comes = is.meant.answers was (told_so is.meant.had) in
    comes_named names row (setting_with was before) (named was) after.world after.locals comes.now (Ok outcome) comes.comes
applies_named names row before after (Err (ErrorHalt number offending)) named is =
    let was : Outside = outside_told is.meant.had in
    let comes = is.meant.answers was (told_so is.meant.had) in
    comes_named names row (setting_with was before) (named was) after.world after.locals comes.now (Err (ErrorHalt number offending)) comes.comes
applies_named names row before after (Err (EndsHalt status)) named is =
    let was : Outside = outside_told is.meant.had in
    let comes = is.meant.answers was (told_so is.meant.had) in
    comes_named names row (setting_with was before) (named was) after.world after.locals comes.now (Err (EndsHalt status)) comes.comes
applies_named names row before after (Err ReadFault) named is = tt
applies_named names row before after (Err WriteFault) named is = tt
applies_named names row before after (Err FileFault) named is = tt
applies_named names row before after (Err NoMemory) named is = tt

-- Values of items

pub values_named : (names : Names) (items : List Item) (at : Setting) (values : List Value) → SettingNamed names at → All (ItemNamed names) items
    → ((next : List Value → Row) → the_values items next at ≡ next values at) → All (ValueNamed names) values
values_named names items at values named are found =
    let as_locals : List Value → Row = λ vs s. Fails (record s { locals = vs }) in
    let all : SettingNamed names (record at { locals = values }) =
    subst (OutcomeNamed names) (found as_locals)
    (rows_keep_names.values names items as_locals at named are (λ vs is. record { world = named.world; locals = is })) in
    all.locals

val_named : (names : Names) (all : Extent) (val : Val) → ValueNamed names (value_in all val) → IsNamed names val
val_named names all NullVal is = record { named = tt }
val_named names all (IntegerVal n) is = record { named = tt }
val_named names all (TextVal span) is = record { named = tt }
val_named names all (CharsVal cset) is = record { named = tt }
val_named names all (StdVal file) is = record { named = tt }
val_named names all (ProcVal number) is = record { named = is }
val_named names all (RecVal id) is = record { named = tt }
val_named names all (ListVal id) is = record { named = tt }
val_named names all (SetVal id) is = record { named = tt }
val_named names all (TableVal id) is = record { named = tt }
val_named names all (CoexpVal id) is = record { named = tt }

pub vals_named : (names : Names) (all : Extent) (vals : List Val) → All (ValueNamed names) (map (value_in all) vals) → All (IsNamed names) vals
vals_named names all [] are = All-nil (IsNamed names)
vals_named names all (val ∷ vals) are =
    All-cons (IsNamed names) val vals (val_named names all val (All-head (ValueNamed names) (value_in all val) (map (value_in all) vals) are))
    (vals_named names all vals (All-tail (ValueNamed names) (value_in all val) (map (value_in all) vals) are))

pub records_named : (names : Names) (heap : Heap) → HeapNamed names heap → AreRecordsNamed names heap
records_named names heap named =
    record {
      kinds = All-weaker (RecordNamed names) (λ (structure : Record). structure.kind < length names.records) (λ structure is. is.0) heap.records named.records;
    }

-- Records that are there

live_there : (heap : HeldHeap) (val : Val) → IsLive (extent_of heap) val → IsThere (heap_of heap) (value_in (extent_of heap) val)
live_there heap NullVal is = tt
live_there heap (IntegerVal n) is = tt
live_there heap (TextVal span) is = tt
live_there heap (CharsVal cset) is = tt
live_there heap (StdVal file) is = tt
live_there heap (ProcVal number) is = tt
live_there heap (RecVal id) is = record_below heap id is
live_there heap (ListVal id) is = tt
live_there heap (SetVal id) is = tt
live_there heap (TableVal id) is = tt
live_there heap (CoexpVal id) is = tt

pub first_there : (heap : HeldHeap) (vals : List Val) → All (IsLive (extent_of heap)) vals
    → IsThere (heap_of heap) (arg (map (value_in (extent_of heap)) vals) 0)
first_there heap [] are = tt
first_there heap (val ∷ vals) are = live_there heap val (All-head (IsLive (extent_of heap)) val vals are)

-- Functions

-- of values of a world
pub function_named : (names : Names) (func : Func) (world : World) (locals : List Val) (was : Outside) (vals : List Val)
    → SettingNamed names (setting_of was world locals)
    → All (ValueNamed names) (map (value_in (extent_of world.heap)) vals) → All (IsLive (extent_of world.heap)) vals
    → OutcomeNamed names (function_of names func (map (value_in (extent_of world.heap)) vals) (setting_of was world locals))
function_named names func world locals was vals named are live =
    rows_keep_names.functions names func (map (value_in (extent_of world.heap)) vals) (setting_of was world locals) named are
    (λ is_copy. first_there world.heap vals live)

-- what stopped the reading of items
pub stop_named : (names : Names) (items : List Item) (world : World) (locals : List Val) (stop : Stop) (result : Result HeldOutcome Halt)
    → SettingNamed names (setting_of bare_outside world locals) → All (ItemNamed names) items → IsErrAnd result (λ halt. halt ≡ halt_of stop)
    → ((was : Outside) → StopsFinding (extent_of world.heap) (the_values items) (setting_of was world locals) (setting_of was world locals) stop)
    → AnswerNamed names world locals result
stop_named names items world locals stop (Ok outcome) named are same stops = absurd same
stop_named names items world locals stop (Err halt) named are same stops =
    subst (λ (h : Halt). AnswerNamed names world locals (Err h)) (sym same) (by stop (stops bare_outside))
  where
    by : (stop : Stop)
        → StopsFinding (extent_of world.heap) (the_values items) (setting_of bare_outside world locals) (setting_of bare_outside world locals) stop
        → AnswerNamed names world locals (Err (halt_of stop))
    by (ErrorStop number offending) is =
        subst (OutcomeNamed names) (is (λ values. fails))
        (rows_keep_names.values names items (λ values. fails) (setting_of bare_outside world locals) named are (λ values these. named))
    by NoMemoryStop is = tt
