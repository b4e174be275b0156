-- How the answer of a row, or of a part of one, comes from those of its parts.
use Rattle.std.proofs.Common.{◌≡◌, ◌∙◌, sym, subst, Result, Ok, Err}
use Rattle.std.specs.Prelude.{IfErr, IsErrAnd}
use Rattle.icn_value.specs.Store.{Setting}
use Rattle.icn_defs.specs.Calls.{GoesOn, Passes}
use Rattle.icn_defs.specs.Rows.{Row, Finds}
use Rattle.icn_heap.specs.Extents.{Extent}
use Rattle.icn_vars.specs.declared.outcome.Outcome.{Outcome}
use Rattle.icn_vars.specs.declared.outcome.Halt.{Halt}
use Rattle.icn_vars.specs.declared.outcome.Halt.TheVariants.{Error as ErrorHalt, Ends as EndsHalt, ReadFault, WriteFault, FileFault, NoMemory as NoMemoryHalt}
use Rattle.icn_vars.specs.declared.stop.Stop.{Stop}
use Rattle.icn_vars.specs.declared.stop.Stop.TheVariants.{Error, NoMemory}
use Rattle.icn_vars.specs.declared.outcome.ValueOutcome.{ValueOutcome}
use Rattle.icn_vars.specs.Outcomes.{ComesToAnswer, HaltsRow, IsLiveAnswer, IsLiveHalt, answer_of}
use Rattle.icn_vars.specs.Stops.{IsLiveStop, StopsFinding, StopsPassing, halt_of}
use Rattle.icn_vars.specs.Worlds.{Reach}
use Rattle.icn_args.specs.RowWords.{IsFound, IsPassed}

-- Rows

-- the row goes on as another one, of which this is the answer
pub answer_then : (all : Extent) (row rest : Row) (before between after : Setting) (result : Result Outcome Halt) → row before ≡ rest between
    → ComesToAnswer all rest between after result → ComesToAnswer all row before after result
answer_then all row rest before between after (Ok outcome) same is = same ∙ is
answer_then all row rest before between after (Err (ErrorHalt number offending)) same is = same ∙ is
answer_then all row rest before between after (Err (EndsHalt status)) same is = same ∙ is
answer_then all row rest before between after (Err ReadFault) same is = is
answer_then all row rest before between after (Err WriteFault) same is = is
answer_then all row rest before between after (Err FileFault) same is = is
answer_then all row rest before between after (Err NoMemoryHalt) same is = tt

-- the row is over with what stopped it
stops_row : (all : Extent) (row : Row) (before after : Setting) (stop : Stop) (result : Result Outcome Halt) → IsErrAnd result (λ halt. halt ≡ halt_of stop)
    → HaltsRow all row before after (halt_of stop) → ComesToAnswer all row before after result
stops_row all row before after stop (Ok outcome) same is = absurd same
stops_row all row before after stop (Err halt) same is = subst (HaltsRow all row before after) (sym same) is

finding_halts : {A : Type 0} (all : Extent) (find : Finds A) (next : A → Row) (before after : Setting) (stop : Stop) → StopsFinding all find before after stop
    → HaltsRow all (find next) before after (halt_of stop)
finding_halts all find next before after (Error number offending) is = is next
finding_halts all find next before after NoMemory is = tt

passing_halts : (all : Extent) (part : Row → Row) (next : Row) (before after : Setting) (stop : Stop) → StopsPassing all part before after stop
    → HaltsRow all (part next) before after (halt_of stop)
passing_halts all part next before after (Error number offending) is = is next
passing_halts all part next before after NoMemory is = tt

-- the row stops where a thing is looked for
pub row_stops : {A : Type 0} (all : Extent) (find : Finds A) (next : A → Row) (before after : Setting) (stop : Stop) (result : Result Outcome Halt)
    → IsErrAnd result (λ halt. halt ≡ halt_of stop) → StopsFinding all find before after stop → ComesToAnswer all (find next) before after result
row_stops all find next before after stop result same is =
    stops_row all (find next) before after stop result same (finding_halts all find next before after stop is)

-- the row stops at a part of it
pub row_stops_at : (all : Extent) (part : Row → Row) (next : Row) (before after : Setting) (stop : Stop) (result : Result Outcome Halt)
    → IsErrAnd result (λ halt. halt ≡ halt_of stop) → StopsPassing all part before after stop → ComesToAnswer all (part next) before after result
row_stops_at all part next before after stop result same is =
    stops_row all (part next) before after stop result same (passing_halts all part next before after stop is)

-- what the row stopped with is of the world
pub stop_lives : (reach : Reach) (stop : Stop) (result : Result Outcome Halt) → IsErrAnd result (λ halt. halt ≡ halt_of stop) → IsLiveStop reach.extent stop
    → IsLiveAnswer reach result
stop_lives reach stop (Ok outcome) same is = absurd same
stop_lives reach stop (Err halt) same is = subst (IsLiveHalt reach) (sym same) (lives stop is)
  where
    lives : (stop : Stop) → IsLiveStop reach.extent stop → IsLiveHalt reach (halt_of stop)
    lives (Error number offending) is = is
    lives NoMemory is = tt

-- Rows that give a value at most

-- what such a row stopped with is its answer
pub same_halt : (halt : Halt) (result : Result ValueOutcome Halt) → IsErrAnd result (λ other. other ≡ halt)
    → IsErrAnd (answer_of result) (λ other. other ≡ halt)
same_halt halt (Ok given) same = same
same_halt halt (Err other) same = same

-- it stops where a thing is looked for
pub value_row_stops : {A : Type 0} (all : Extent) (find : Finds A) (next : A → Row) (before after : Setting) (stop : Stop) (result : Result ValueOutcome Halt)
    → IsErrAnd result (λ halt. halt ≡ halt_of stop) → StopsFinding all find before after stop → ComesToAnswer all (find next) before after (answer_of result)
value_row_stops all find next before after stop result same is =
    row_stops all find next before after stop (answer_of result) (same_halt (halt_of stop) result same) is

-- it stops at a part of it
pub value_row_stops_at : (all : Extent) (part : Row → Row) (next : Row) (before after : Setting) (stop : Stop) (result : Result ValueOutcome Halt)
    → IsErrAnd result (λ halt. halt ≡ halt_of stop) → StopsPassing all part before after stop → ComesToAnswer all (part next) before after (answer_of result)
value_row_stops_at all part next before after stop result same is =
    row_stops_at all part next before after stop (answer_of result) (same_halt (halt_of stop) result same) is

-- what it stopped with is of the world
pub value_stop_lives : (reach : Reach) (stop : Stop) (result : Result ValueOutcome Halt) → IsErrAnd result (λ halt. halt ≡ halt_of stop)
    → IsLiveStop reach.extent stop → IsLiveAnswer reach (answer_of result)
value_stop_lives reach stop result same is = stop_lives reach stop (answer_of result) (same_halt (halt_of stop) result same) is

-- what a part of a row stopped with is of the heap
pub stop_lives_on : {B : Type 0} (all : Extent) (stop : Stop) (result : Result B Stop) → IsErrAnd result (λ other. other ≡ stop) → IsLiveStop all stop
    → IfErr result (IsLiveStop all)
stop_lives_on all stop (Ok thing) same is = tt
stop_lives_on all stop (Err other) same is = subst (IsLiveStop all) (sym same) is

-- Parts of rows

-- an error is the answer of a search that stops with it
pub found_stops : {A B : Type 0} (all : Extent) (find : Finds A) (before after : Setting) (shown : B → A) (stop : Stop) (result : Result B Stop)
    → IsErrAnd result (λ other. other ≡ stop)
    → StopsFinding all find before after stop → IsFound all find before after shown result
found_stops all find before after shown stop (Ok thing) same is = absurd same
found_stops all find before after shown stop (Err other) same is = subst (StopsFinding all find before after) (sym same) is

-- where the first thing is not found, the search for both stops
pub stops_within : {A B : Type 0} (all : Extent) (find : Finds A) (rest : A → Finds B) (before after : Setting) (stop : Stop)
    → StopsFinding all find before after stop
    → StopsFinding all (λ next. find (λ thing. rest thing next)) before after stop
stops_within all find rest before after (Error number offending) is = λ next. is (λ thing. rest thing next)
stops_within all find rest before after NoMemory is = tt

-- where the first is found and the second is not, the search for both stops
pub stops_behind : {A B : Type 0} (all : Extent) (find : Finds A) (thing : A) (rest : A → Finds B) (before between after : Setting) (stop : Stop)
    → GoesOn find before thing between
    → StopsFinding all (rest thing) between after stop → StopsFinding all (λ next. find (λ thing. rest thing next)) before after stop
stops_behind all find thing rest before between after (Error number offending) first is = λ next. first (λ thing. rest thing next) ∙ is next
stops_behind all find thing rest before between after NoMemory first is = tt

-- what is looked for first is not found
pub first_stops : {A B C : Type 0} (all : Extent) (find : Finds A) (rest : A → Finds B) (before after : Setting) (shown : C → B) (stop : Stop)
    (result : Result C Stop)
    → IsErrAnd result (λ other. other ≡ stop) → StopsFinding all find before after stop
    → IsFound all (λ next. find (λ thing. rest thing next)) before after shown result
first_stops all find rest before after shown stop result same is =
    found_stops all (λ next. find (λ thing. rest thing next)) before after shown stop result same (stops_within all find rest before after stop is)

-- it is found, and what is looked for then is not
pub then_stops : {A B C : Type 0} (all : Extent) (find : Finds A) (thing : A) (rest : A → Finds B) (before between after : Setting) (shown : C → B)
    (stop : Stop) (result : Result C Stop)
    → IsErrAnd result (λ other. other ≡ stop) → GoesOn find before thing between → StopsFinding all (rest thing) between after stop
    → IsFound all (λ next. find (λ thing. rest thing next)) before after shown result
then_stops all find thing rest before between after shown stop result same first is =
    found_stops all (λ next. find (λ thing. rest thing next)) before after shown stop result same
    (stops_behind all find thing rest before between after stop first is)

-- Parts that are passed

-- an error is the answer of a part that stops with it
pub passed_stops : {B : Type 0} (all : Extent) (part : Row → Row) (before after : Setting) (stop : Stop) (result : Result B Stop)
    → IsErrAnd result (λ other. other ≡ stop)
    → StopsPassing all part before after stop → IsPassed all part before after result
passed_stops all part before after stop (Ok thing) same is = absurd same
passed_stops all part before after stop (Err other) same is = subst (StopsPassing all part before after) (sym same) is

passing_within : (all : Extent) (part rest : Row → Row) (before after : Setting) (stop : Stop) → StopsPassing all part before after stop
    → StopsPassing all (λ next. part (rest next)) before after stop
passing_within all part rest before after (Error number offending) is = λ next. is (rest next)
passing_within all part rest before after NoMemory is = tt

passing_behind : (all : Extent) (part rest : Row → Row) (before between after : Setting) (stop : Stop) → Passes part before between
    → StopsPassing all rest between after stop → StopsPassing all (λ next. part (rest next)) before after stop
passing_behind all part rest before between after (Error number offending) first is = λ next. first (rest next) ∙ is next
passing_behind all part rest before between after NoMemory first is = tt

-- the first part is not passed
pub first_part_stops : {B : Type 0} (all : Extent) (part rest : Row → Row) (before after : Setting) (stop : Stop) (result : Result B Stop)
    → IsErrAnd result (λ other. other ≡ stop)
    → StopsPassing all part before after stop → IsPassed all (λ next. part (rest next)) before after result
first_part_stops all part rest before after stop result same is =
    passed_stops all (λ next. part (rest next)) before after stop result same (passing_within all part rest before after stop is)

-- it is passed, and the next one is not
pub then_part_stops : {B : Type 0} (all : Extent) (part rest : Row → Row) (before between after : Setting) (stop : Stop) (result : Result B Stop)
    → IsErrAnd result (λ other. other ≡ stop)
    → Passes part before between → StopsPassing all rest between after stop → IsPassed all (λ next. part (rest next)) before after result
then_part_stops all part rest before between after stop result same first is =
    passed_stops all (λ next. part (rest next)) before after stop result same (passing_behind all part rest before between after stop first is)
