-- The changes of a heap, each charged or refused as a whole, and what they leave.
use Rattle.std.specs.Prelude.{◌≡◌, ℕ, ◌+◌, Bool, true, false, not, nat_le, List, [], ◌∷◌, ◌++◌, length, filter, min, slice_set, Option, is_some, Result, Ok, Err, ◌⊎◌, if◌then◌else◌}
use Rattle.icn_structs.specs.Numbered.{with_left, with_right}
use Rattle.icn_structs.specs.PairLists.{value_of, with_value_of, without}
use Rattle.icn_value.specs.Values.{Value, AList, ASet, ATable, ARecord, ACoexp, Std, Opened}
use Rattle.icn_value.specs.Store.{Heap, OpenedFile, new_list, list_at, set_at, table_at, record_at, count_at, file_at, with_list, with_set, with_table, with_record, with_opened}
use Rattle.icn_value.specs.Sameness.{same, has_value, with_member}
use Rattle.icn_value.specs.declared.mode.FileMode.{FileMode}
use Rattle.icn_value.specs.declared.full.Full.{Full}
use Rattle.icn_value.specs.declared.full.Full.TheVariants.{Strings, Cells, NoMemory}

-- the heap once a change is made, or why it is not
abbrev pub ChangedHeap : Type 0
ChangedHeap = Result Heap Full

-- one step after another, as far as none is refused
abbrev pub and_then : {A B : Type 0} → Result A Full → (A → Result B Full) → Result B Full
and_then (Ok a) next = next a
and_then (Err full) next = Err full

-- the change was refused so, or memory was wanting
abbrev pub Refuses : {A : Type 0} → Result A Full → Full → Type 0
Refuses change full = (full ≡ NoMemory) ⊎ (change ≡ Err full)

-- where a limit refuses the change, that is the answer, and no want of memory
abbrev pub LimitsFirst : {A B : Type 0} → Result A Full → Result B Full → Type 0
LimitsFirst change result = (full : Full) → change ≡ Err full → result ≡ Err full

-- Charges

-- string bytes, where the sum stays within the limit
unfoldable pub charged_strings : Heap → ℕ → ChangedHeap
charged_strings heap count =
    if nat_le (heap.strings + count) heap.bounds.strings
    then Ok (record heap { strings = heap.strings + count })
    else Err (Strings heap.strings heap.bounds.strings)

-- cells, where the sum stays within the limit
unfoldable pub charged_cells : Heap → ℕ → ChangedHeap
charged_cells heap count =
    if nat_le (heap.cells + count) heap.bounds.cells then Ok (record heap { cells = heap.cells + count })
    else Err (Cells heap.cells heap.bounds.cells)

-- a cell for what is new
abbrev pub charged_unless : Bool → Heap → ChangedHeap
charged_unless true heap = Ok heap
charged_unless false heap = charged_cells heap 1

-- New structures: each goes behind those of its type, and costs a cell and one more for each element

-- a list of these items goes behind the others, without a charge
abbrev pub having_list : List Value → Heap → Heap
having_list items heap = record heap { lists = heap.lists ++ new_list items ∷ [] }

-- a list of these items is charged and made, or refused
abbrev pub made_list : Heap → List Value → ChangedHeap
made_list heap items = and_then (charged_cells heap (1 + length items)) (λ paid. Ok (having_list items paid))

-- an empty set goes behind the others, without a charge
abbrev pub having_set : Heap → Heap
having_set heap = record heap { sets = heap.sets ++ [] ∷ [] }

-- an empty set is charged and made, or refused
abbrev pub made_set : Heap → ChangedHeap
made_set heap = and_then (charged_cells heap 1) (λ paid. Ok (having_set paid))

-- a table without pairs, with this default, goes behind the others, without a charge
abbrev pub having_table : Value → Heap → Heap
having_table default heap =
    record heap { tables = heap.tables ++ record { default = default; pairs = [] } ∷ [] }

-- an empty table with this default is charged and made, or refused
abbrev pub made_table : Heap → Value → ChangedHeap
made_table heap default = and_then (charged_cells heap 1) (λ paid. Ok (having_table default paid))

-- a record of this kind with these fields goes behind the others, without a charge
abbrev pub having_record : ℕ → List Value → Heap → Heap
having_record kind fields heap =
    record heap { records = heap.records ++ record { kind = kind; fields = fields } ∷ [] }

-- a record of this kind with these fields is charged and made, or refused
abbrev pub made_record : Heap → ℕ → List Value → ChangedHeap
made_record heap kind fields =
    and_then (charged_cells heap (1 + length fields)) (λ paid. Ok (having_record kind fields paid))

-- a co-expression that has given nothing goes behind the others, without a charge
abbrev pub having_coexp : Heap → Heap
having_coexp heap = record heap { coexps = heap.coexps ++ 0 ∷ [] }

-- a co-expression that has given nothing, which costs a cell and one more for each of its parameters and locals
abbrev pub made_coexp : Heap → ℕ → ChangedHeap
made_coexp heap locals = and_then (charged_cells heap (1 + locals)) (λ paid. Ok (having_coexp paid))

-- an opened file of which nothing is read yet
abbrev pub new_file : List ℕ → FileMode → List ℕ → OpenedFile
new_file name mode content =
    record { name = name; mode = mode; content = content; place = 0; closed = false }

-- an opened file goes behind the others, without a charge
abbrev pub having_file : OpenedFile → Heap → Heap
having_file file heap = record heap { files = heap.files ++ file ∷ [] }

-- a file is opened that holds this, which costs a cell, or it is refused
abbrev pub made_file : Heap → List ℕ → FileMode → List ℕ → ChangedHeap
made_file heap name mode content =
    and_then (charged_cells heap 1) (λ paid. Ok (having_file (new_file name mode content) paid))

-- the value of the structure of each type that is made next
abbrev pub next_list : Heap → Value
next_list heap = AList (length heap.lists)

-- the set that will be made next
abbrev pub next_set : Heap → Value
next_set heap = ASet (length heap.sets)

-- the table that will be made next
abbrev pub next_table : Heap → Value
next_table heap = ATable (length heap.tables)

-- the record that will be made next
abbrev pub next_record : Heap → Value
next_record heap = ARecord (length heap.records)

-- the co-expression that will be made next
abbrev pub next_coexp : Heap → Value
next_coexp heap = ACoexp (length heap.coexps)

-- the file that will be opened next
abbrev pub next_file : Heap → Value
next_file heap = Std (Opened (length heap.files))

-- Opened files

-- these bytes go behind what an opened file holds, without a charge
abbrev pub added_to : ℕ → List ℕ → Heap → Heap
added_to number bytes heap =
    with_opened number (record (file_at heap number) { content = (file_at heap number).content ++ bytes })
    heap

-- so many bytes more of an opened file are read, or all that are left where these are fewer
abbrev pub read_on : ℕ → ℕ → Heap → Heap
read_on number count heap = with_opened number
    (record (file_at heap number) {
      place = min ((file_at heap number).place + count) (length (file_at heap number).content);
    }) heap

-- an opened file is closed, and holds nothing any more
abbrev pub shut : ℕ → Heap → Heap
shut number heap = with_opened number
    (record (file_at heap number) { content = []; place = 0; closed = true }) heap

-- Elements

-- a list with one more item at the right, or at the left, which costs a cell
abbrev pub put_on : Heap → ℕ → Value → ChangedHeap
put_on heap id value =
    and_then (charged_cells heap 1) (λ paid. Ok (with_list id (with_right (list_at paid id) value) paid))

-- a value is charged and put at the left end of a list, or refused
abbrev pub pushed_on : Heap → ℕ → Value → ChangedHeap
pushed_on heap id value =
    and_then (charged_cells heap 1) (λ paid. Ok (with_list id (with_left (list_at paid id) value) paid))

-- the value at a key of a table, if the key is there
abbrev pub value_at_key : Heap → ℕ → Value → Option Value
value_at_key heap id key = value_of same (table_at heap id).pairs key

-- a table with a value at a key, without a charge: a key that is there keeps its place, a new one goes last
abbrev pub with_pair : ℕ → Value → Value → Heap → Heap
with_pair id key value heap =
    with_table id
    (record (table_at heap id) { pairs = with_value_of same (table_at heap id).pairs key value }) heap

-- a table with a value at a key; a new key costs a cell
abbrev pub stored_in : Heap → ℕ → Value → Value → ChangedHeap
stored_in heap id key value = and_then (charged_unless (is_some (value_at_key heap id key)) heap)
    (λ paid. Ok (with_pair id key value paid))

-- a set with a member, without a charge: a new one goes last
abbrev pub having_member : ℕ → Value → Heap → Heap
having_member id value heap = with_set id (with_member (set_at heap id) value) heap

-- a set with a member; a new one costs a cell
abbrev pub added_in : Heap → ℕ → Value → ChangedHeap
added_in heap id value = and_then (charged_unless (has_value (set_at heap id) value) heap)
    (λ paid. Ok (having_member id value paid))

-- whether a set or a table has a member or a key
abbrev pub has_key : Heap → Value → Value → Bool
has_key heap (ASet id) key = has_value (set_at heap id) key
has_key heap (ATable id) key = is_some (value_at_key heap id key)
has_key heap other key = false

-- a set or a table without a member or a key
abbrev pub without_key : Value → Value → Heap → Heap
without_key (ASet id) key heap = with_set id (filter (λ member. not (same key member)) (set_at heap id)) heap
without_key (ATable id) key heap =
    with_table id (record (table_at heap id) { pairs = without same (table_at heap id).pairs key }) heap
without_key other key heap = heap

-- a field of a record has another value
abbrev pub with_field : ℕ → ℕ → Value → Heap → Heap
with_field id place value heap = with_record id
    (record (record_at heap id) { fields = slice_set (record_at heap id).fields place value }) heap

-- one more result of a co-expression
abbrev pub with_result : ℕ → Heap → Heap
with_result id heap = record heap { coexps = slice_set heap.coexps id (count_at heap id + 1) }
