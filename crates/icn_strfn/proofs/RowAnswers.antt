-- What rows come to, from what their parts come to.
use Rattle.std.proofs.Common.{◌≡◌, sym, ap, subst, ℕ, List, Result, Ok, Err}
use Rattle.std.specs.Prelude.{IsErrAnd}
use Rattle.std.specs.List.{All}
use Rattle.icn_value.specs.declared.item.Pair.{Pair}
use Rattle.icn_value.specs.declared.val.Val.{Val as HeldVal}
use Rattle.icn_value.specs.Values.{Text, Val}
use Rattle.icn_value.specs.Store.{Outside, Setting}
use Rattle.icn_defs.specs.Rows.{Row, Gives as GivesOutcome, gives_value}
use Rattle.icn_heap.specs.declared.heap.Heap.{Heap as HeldHeap}
use Rattle.icn_heap.specs.Extents.{Extent, IsLive, KeepsValues}
use Rattle.icn_heap.specs.Heaps.{extent_of, heap_of}
use Rattle.icn_vars.specs.declared.words.Words.{Words}
use Rattle.icn_vars.specs.WorldFacts.{IsSoundWorld}
use Rattle.icn_vars.specs.declared.stop.Stop.{Stop}
use Rattle.icn_vars.specs.declared.stop.Stop.TheVariants.{Error, NoMemory}
use Rattle.icn_vars.specs.declared.outcome.Halt.{Halt}
use Rattle.icn_vars.specs.declared.outcome.ValueOutcome.{ValueOutcome}
use Rattle.icn_vars.specs.Outcomes.{ComesToAnswer, HaltsRow, answer_of}
use Rattle.icn_vars.specs.Stops.{StopsPassing, halt_of}
use Rattle.icn_vars.proofs.GrowingWorlds.{heap_changed, setting_over}
use Rattle.icn_strfn.specs.Checks.{StopsRow}
use Rattle.icn_args.proofs.RowAnswers.{answer_then, value_row_stops_at}

-- the row goes on as another one, of which this is the answer
pub row_goes_on : (all : Extent) (row rest : Row) (before between after : Setting) (result : Result ValueOutcome Halt) → row before ≡ rest between
    → ComesToAnswer all rest between after (answer_of result) → ComesToAnswer all row before after (answer_of result)
row_goes_on all row rest before between after result same is = answer_then all row rest before between after (answer_of result) same is

-- the row goes on as far as a part, where it stops
pub row_stops_at : (all : Extent) (row : Row) (part : Row → Row) (next : Row) (before between after : Setting) (stop : Stop) (result : Result ValueOutcome Halt)
    → row before ≡ part next between → IsErrAnd result (λ halt. halt ≡ halt_of stop) → StopsPassing all part between after stop
    → ComesToAnswer all row before after (answer_of result)
row_stops_at all row part next before between after stop result reads same is =
    row_goes_on all row (part next) before between after result reads (value_row_stops_at all part next between after stop result same is)

-- a text is given
pub gives_text : (row : Row) (before after : Setting) (bytes made : List ℕ) → row before ≡ gives_value (Text bytes) after → made ≡ bytes
    → row before ≡ GivesOutcome (Val (Text made)) after
gives_text row before after bytes made reads same = rw same reads

-- a text is held, and nothing changes
pub holds_text : (outside : Outside) (old new : HeldHeap) (pair : Pair) (words : Words) (globals statics locals : List HeldVal) (bytes made : List ℕ)
    → KeepsValues (extent_of old) (extent_of new) → heap_of new ≡ heap_of old → IsSoundWorld (extent_of old) pair words globals statics
    → All (IsLive (extent_of old)) locals → made ≡ bytes
    → gives_value (Text bytes) (setting_over outside old pair words globals statics locals)
    ≡ GivesOutcome (Val (Text made)) (setting_over outside new pair words globals statics locals)
holds_text outside old new pair words globals statics locals bytes made keeps same sound live is =
    rw is (ap (gives_value (Text bytes)) (heap_changed outside old new pair words globals statics locals keeps same sound live))

so_stopped : (all : Extent) (row : Row) (setting : Setting) (stop : Stop) → StopsRow all row setting stop → HaltsRow all row setting setting (halt_of stop)
so_stopped all row setting (Error number offending) is = is
so_stopped all row setting NoMemory is = tt

-- a check stopped the row
pub stops_so : (all : Extent) (row : Row) (setting : Setting) (stop : Stop) (result : Result ValueOutcome Halt)
    → IsErrAnd result (λ halt. halt ≡ halt_of stop) → StopsRow all row setting stop → ComesToAnswer all row setting setting (answer_of result)
stops_so all row setting stop (Ok given) same is = absurd same
stops_so all row setting stop (Err halt) same is = subst (HaltsRow all row setting setting) (sym same) (so_stopped all row setting stop is)
