-- The names of the test's program, and heaps whose records have names.
use Rattle.std.proofs.Common.{◌≡◌, ◌∙◌, refl, sym, ap, ℕ, suc, ◌+◌, ◌<◌, nat_le, ℤ, pos, Bool, true, false, List, [], ◌∷◌, ◌++◌, map, length, get_or, Ok, Err}
use Rattle.std.specs.Prelude.{if◌then◌else◌}
use Rattle.std.proofs.lemmas.List.{get_or-map}
use Rattle.std.proofs.lemmas.List.Elements.{All-nil, All-push}
use Rattle.std.proofs.lemmas.Option.{unwrap_or-slice_get}
use Rattle.icn_text.specs.declared.func.Func.{Func}
use Rattle.icn_text.specs.Funcs.{func_name}
use Rattle.icn_value.specs.declared.full.Full.{Full}
use Rattle.icn_value.specs.declared.full.Full.TheVariants.{Cells}
use Rattle.icn_value.specs.Values.{Value}
use Rattle.icn_value.specs.Limited.{Bounds}
use Rattle.icn_value.specs.Store.{Heap, Record}
use Rattle.icn_value.specs.Changes.{ChangedHeap, and_then, charged_cells, having_list, having_record, having_set, having_table, made_list, made_record, made_set, made_table}
use Rattle.icn_defs.specs.Images.{functions, procedure_name}
use Rattle.icn_defs.specs.NamedValues.{arguments_of, function_arguments}
use Rattle.icn_convert.specs.ProgramNames.{AreRecordsNamed}
use Rattle.icn_heap.specs.Heaps.{empty_heap}
use Rattle.test_store.specs.SomeNames.{some_names}

-- a function by its number, behind the procedure and the records
pub function_by : (number place : ℕ) (other : Func) (name : List ℕ) → number ≡ suc (suc (suc place)) → place < length functions
    → name ≡ func_name (get_or functions place other) → name ≡ procedure_name some_names number
function_by number place other name is low named =
    rw is (named ∙ (sym (get_or-map func_name functions place other [] low) ∙ sym (unwrap_or-slice_get (map func_name functions) place [])))

-- how many arguments it takes
pub arguments_by : (number place : ℕ) (other : Func) (count : ℤ) → number ≡ suc (suc (suc place)) → place < length functions
    → count ≡ function_arguments (get_or functions place other) → count ≡ arguments_of some_names number
arguments_by number place other count is low counted =
    rw is (counted ∙ (sym (get_or-map function_arguments functions place other (pos 0) low)
    ∙ sym (unwrap_or-slice_get (map function_arguments functions) place (pos 0))))

-- the records of a heap once a structure is made
records_by : (change : Heap → Heap) (more : List Record → List Record) → ((heap : Heap) → (change heap).records ≡ more heap.records)
    → (t : Bool) (paid made : Heap) (why : Full)
    → and_then (let r : ChangedHeap = if t then Ok paid else Err why in r) (λ heap. let r : ChangedHeap = Ok (change heap) in r) ≡ Ok made
    → made.records ≡ more paid.records
records_by change more keeps true paid made why is =
    let same : change paid ≡ made = cc in
    sym (ap (λ (heap : Heap). heap.records) same) ∙ keeps paid
records_by change more keeps false paid made why is = cc

pub named_by : (old new : Heap) → new.records ≡ old.records → AreRecordsNamed some_names old → AreRecordsNamed some_names new
named_by old new same is = record { kinds = rw same is.kinds }

-- an equal heap has its records named
pub same_named : (old new : Heap) → new ≡ old → AreRecordsNamed some_names old → AreRecordsNamed some_names new
same_named old new same is = rw same is

pub none_named : (bounds : Bounds) (heap : Heap) → heap ≡ empty_heap bounds → AreRecordsNamed some_names heap
none_named bounds heap is = rw is (record { kinds = All-nil (λ (structure : Record). structure.kind < length some_names.records) })

pub list_named : (heap made : Heap) (items : List Value) → made_list heap items ≡ Ok made → AreRecordsNamed some_names heap → AreRecordsNamed some_names made
unfolding charged_cells
list_named heap made items step is =
    named_by heap made
    (records_by (having_list items) (λ records. records) (λ heap. refl) (nat_le (heap.cells + (1 + length items)) heap.bounds.cells)
    (record heap { cells = heap.cells + (1 + length items) }) made (Cells heap.cells heap.bounds.cells) step)
    is

pub set_named : (heap made : Heap) → made_set heap ≡ Ok made → AreRecordsNamed some_names heap → AreRecordsNamed some_names made
unfolding charged_cells
set_named heap made step is =
    named_by heap made
    (records_by having_set (λ records. records) (λ heap. refl) (nat_le (heap.cells + 1) heap.bounds.cells) (record heap { cells = heap.cells + 1 }) made
    (Cells heap.cells heap.bounds.cells) step)
    is

pub table_named : (heap made : Heap) (default : Value) → made_table heap default ≡ Ok made → AreRecordsNamed some_names heap → AreRecordsNamed some_names made
unfolding charged_cells
table_named heap made default step is =
    named_by heap made
    (records_by (having_table default) (λ records. records) (λ heap. refl) (nat_le (heap.cells + 1) heap.bounds.cells)
    (record heap { cells = heap.cells + 1 }) made (Cells heap.cells heap.bounds.cells) step)
    is

pub record_named : (heap made : Heap) (kind : ℕ) (fields : List Value) → kind < length some_names.records → made_record heap kind fields ≡ Ok made
    → AreRecordsNamed some_names heap → AreRecordsNamed some_names made
unfolding charged_cells
record_named heap made kind fields known step is =
    let one : Record = record { kind = kind; fields = fields } in
    record {
      kinds = rw (records_by (having_record kind fields) (λ records. records ++ one ∷ []) (λ heap. refl) (nat_le (heap.cells + (1 + length fields))
          heap.bounds.cells) (record heap { cells = heap.cells + (1 + length fields) }) made (Cells heap.cells heap.bounds.cells) step)
          (All-push (λ (structure : Record). structure.kind < length some_names.records) heap.records one is.kinds known);
    }
