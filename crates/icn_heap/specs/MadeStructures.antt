-- Sets and tables that are made with their elements.
use Rattle.std.specs.Prelude.{◌+◌, Bool, true, false, not, List, [], ◌∷◌, ◌++◌, length, filter, Ok}
use Rattle.icn_structs.specs.PairLists.{with_value_of}
use Rattle.icn_value.specs.Values.{Value}
use Rattle.icn_value.specs.Sameness.{same, has_value}
use Rattle.icn_value.specs.Store.{Heap, Table}
use Rattle.icn_value.specs.Changes.{ChangedHeap, and_then, charged_cells}

-- a set of these members goes behind the others, without a charge
abbrev pub having_members : List Value → Heap → Heap
having_members members heap = record heap { sets = heap.sets ++ members ∷ [] }

-- a set of these members, which are all different: it costs a cell, and one more for each
abbrev pub made_set_of : Heap → List Value → ChangedHeap
made_set_of heap members =
    and_then (charged_cells heap (1 + length members)) (λ paid. Ok (having_members members paid))

-- this table goes behind the others, without a charge
abbrev pub having_table_of : Table → Heap → Heap
having_table_of table heap = record heap { tables = heap.tables ++ table ∷ [] }

-- a table like this one, whose keys are all different: it costs a cell, and one more for each pair
abbrev pub made_table_of : Heap → Table → ChangedHeap
made_table_of heap table =
    and_then (charged_cells heap (1 + length table.pairs)) (λ paid. Ok (having_table_of table paid))

-- whether a value is in a set, or whether it is not
abbrev pub stands : Bool → List Value → Value → Bool
stands true members value = has_value members value
stands false members value = not (has_value members value)

-- the members of a set that are in another
abbrev pub intersection : List Value → List Value → List Value
intersection members others = filter (stands true others) members

-- the members of a set that are not in another
abbrev pub difference : List Value → List Value → List Value
difference members others = filter (stands false others) members

-- the pairs with one more, or with another value at a key that is there
abbrev pub with_stored : List (Value × Value) → Value × Value → List (Value × Value)
with_stored pairs pair = with_value_of same pairs pair.0 pair.1
