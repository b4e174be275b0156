-- What a call gives and leaves has names, by the law over rows.
use Rattle.std.proofs.Common.{◌≡◌, subst, ℕ, List, [], ◌∷◌, map, Result, Ok, Err}
use Rattle.std.specs.Prelude.{IfOk}
use Rattle.std.specs.List.{All}
use Rattle.std.proofs.lemmas.List.Elements.{All-head}
use Rattle.icn_text.specs.declared.func.Func.{Func}
use Rattle.icn_value.specs.declared.val.Val.{Val}
use Rattle.icn_value.specs.declared.val.Val.TheVariants.{Null as NullVal, Integer as IntegerVal, Text as TextVal, Chars as CharsVal, Std as StdVal, Proc as ProcVal, Rec as RecVal, List as ListVal, Set as SetVal, Table as TableVal, Coexp as CoexpVal}
use Rattle.icn_value.specs.Store.{Names, Setting, bare_outside}
use Rattle.icn_defs.specs.Applying.{function_of}
use Rattle.icn_defs.specs.Arguments.{arg}
use Rattle.icn_defs.specs.Rows.{Row, TableKeys}
use Rattle.icn_defs.specs.Structures.{table_keys_from}
use Rattle.icn_heap.specs.Extents.{Extent, IsLive, value_in}
use Rattle.icn_heap.specs.Heaps.{extent_of, heap_of}
use Rattle.icn_heap.proofs.StructureNumbers.{record_below}
use Rattle.icn_heap.specs.declared.heap.Heap.{Heap as HeldHeap}
use Rattle.law_names.specs.RowsNamed.{IsThere, OutcomeNamed}
use Rattle.law_names.specs.NamedSettings.{ValueNamed}
use Rattle.law_names.proofs.RowsNamed.{rows_keep_names}
use Rattle.icn_vars.specs.declared.outcome.Outcome.{Outcome}
use Rattle.icn_vars.specs.declared.outcome.Halt.{Halt}
use Rattle.icn_vars.specs.Outcomes.{ComesToAnswer, outcome_in}
use Rattle.icn_vars.specs.Worlds.{setting_of}
use Rattle.icn_vars.specs.declared.world.World.{World}
use Rattle.test_rows.specs.Naming.{AllNamed, ComesNamed}
use Rattle.test_values.specs.OneRecord.{one_record}

-- what was answered, where all that the row comes to has a name
pub comes_named : (names : Names) (row : Row) (all : Extent) (before after : Setting) (result : Result Outcome Halt) → OutcomeNamed names (row before)
    → ComesToAnswer all row before after result
    → IfOk result (λ outcome. OutcomeNamed names (outcome_in all outcome after))
comes_named names row all before after (Ok outcome) named is = subst (OutcomeNamed names) is named
comes_named names row all before after (Err halt) named is = tt

live_there : (heap : HeldHeap) (val : Val) → IsLive (extent_of heap) val → IsThere (heap_of heap) (value_in (extent_of heap) val)
live_there heap NullVal is = tt
live_there heap (IntegerVal n) is = tt
live_there heap (TextVal span) is = tt
live_there heap (CharsVal cset) is = tt
live_there heap (StdVal file) is = tt
live_there heap (ProcVal number) is = tt
live_there heap (RecVal id) is = record_below heap id is
live_there heap (ListVal id) is = tt
live_there heap (SetVal id) is = tt
live_there heap (TableVal id) is = tt
live_there heap (CoexpVal id) is = tt

pub first_there : (heap : HeldHeap) (vals : List Val) → All (IsLive (extent_of heap)) vals
    → IsThere (heap_of heap) (arg (map (value_in (extent_of heap)) vals) 0)
first_there heap [] are = tt
first_there heap (val ∷ vals) are = live_there heap val (All-head (IsLive (extent_of heap)) val vals are)

-- a function over structures
pub function_comes : (func : Func) (old new : World) (locals vals : List Val) (result : Result Outcome Halt) → AllNamed old locals
    → All (ValueNamed one_record) (map (value_in (extent_of old.heap)) vals)
    → All (IsLive (extent_of old.heap)) vals
    → ComesToAnswer (extent_of new.heap) (function_of one_record func (map (value_in (extent_of old.heap)) vals)) (setting_of bare_outside old locals)
    (setting_of bare_outside new locals) result
    → IfOk result (ComesNamed new locals)
function_comes func old new locals vals result named are live row =
    comes_named one_record (function_of one_record func (map (value_in (extent_of old.heap)) vals)) (extent_of new.heap) (setting_of bare_outside old locals)
    (setting_of bare_outside new locals) result
    (rows_keep_names.functions one_record func (map (value_in (extent_of old.heap)) vals) (setting_of bare_outside old locals) named are
    (λ is_copy. first_there old.heap vals live)) row

-- a walk over keys that goes on
pub key_comes : (world : World) (locals : List Val) (table place : ℕ) (outcome : Outcome) → AllNamed world locals
    → table_keys_from table place (setting_of bare_outside world locals)
    ≡ outcome_in (extent_of world.heap) outcome (setting_of bare_outside world locals)
    → ComesNamed world locals outcome
key_comes world locals table place outcome named row =
    subst (OutcomeNamed one_record) row
    (rows_keep_names.resumed one_record (TableKeys table place) (setting_of bare_outside world locals) named (record { named = tt }))
