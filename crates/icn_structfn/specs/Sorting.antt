-- Parts of the row of `sort`: a list of what a structure holds, in order.
use Rattle.std.specs.Prelude.{ℕ, zero, suc, ℤ, pos, List, [], ◌∷◌, ◌++◌, flat_map, unwrap_or, slice_get, Some}
use Rattle.icn_value.specs.Values.{Value, Null, Integer, Text, Chars, Std, Procedure, ARecord, AList, ASet, ATable, ACoexp}
use Rattle.icn_value.specs.Store.{Heap, Names, list_at, set_at, table_at, record_at}
use Rattle.icn_defs.specs.Conversions.{sort_list}
use Rattle.icn_defs.specs.Images.{value_cmp}
use Rattle.icn_defs.specs.Rows.{◌>>=◌, Finds, here, new_list_of, wrong}
use Rattle.icn_defs.specs.Structures.{entry_cmp, key_cmp, pair_lists}
use Rattle.icn_structfn.specs.declared.sorting.TableOrder.{TableOrder}
use Rattle.icn_structfn.specs.declared.sorting.TableOrder.TheVariants.{ListsByKey, ListsByValue, TurnByKey, TurnByValue, Unknown}

-- the pair at a place, which is one of nulls where it is missing
abbrev pub pair_at : List (Value × Value) → ℕ → Value × Value
pair_at pairs place = unwrap_or (slice_get pairs place) (Null, Null)

-- keys and values in turn
abbrev pub in_turn : List (Value × Value) → List Value
in_turn pairs = flat_map (λ (pair : Value × Value). pair.0 ∷ pair.1 ∷ []) pairs

-- lists of two of the pairs that are left, behind those that were made
abbrev pub pair_lists_behind : List Value → List (Value × Value) → Finds (List Value)
pair_lists_behind done rest next = pair_lists rest (λ more. next (done ++ more))

-- a new list of lists of two
abbrev pub list_of_pairs : List (Value × Value) → Finds Value
list_of_pairs pairs next = do
  lists ← pair_lists pairs
  list ← new_list_of lists
  next list

-- what a number asks of a sorted table
abbrev pub order_of : ℤ → TableOrder
order_of (pos (suc zero)) = ListsByKey
order_of (pos (suc (suc zero))) = ListsByValue
order_of (pos (suc (suc (suc zero)))) = TurnByKey
order_of (pos (suc (suc (suc (suc zero))))) = TurnByValue
order_of n = Unknown

-- a new list of what a table holds, in an order: 205 for what is none
abbrev pub sorted_pairs : Names → Heap → List (Value × Value) → TableOrder → Value → Finds Value
sorted_pairs names heap pairs ListsByKey chosen next =
    list_of_pairs (sort_list (key_cmp names heap) pairs) next
sorted_pairs names heap pairs ListsByValue chosen next =
    list_of_pairs (sort_list (entry_cmp names heap) pairs) next
sorted_pairs names heap pairs TurnByKey chosen next =
    new_list_of (in_turn (sort_list (key_cmp names heap) pairs)) next
sorted_pairs names heap pairs TurnByValue chosen next =
    new_list_of (in_turn (sort_list (entry_cmp names heap) pairs)) next
sorted_pairs names heap pairs Unknown chosen next = wrong 205 (Some chosen)

-- a new list of what a structure holds, in order: 115 for other values
abbrev pub sorted_value : Names → ℤ → Value → Value → Finds Value
sorted_value names n chosen (AList id) next = do
  setting ← here
  list ← new_list_of (sort_list (value_cmp names setting.world.heap) (list_at setting.world.heap id).items)
  next list
sorted_value names n chosen (ASet id) next = do
  setting ← here
  list ← new_list_of (sort_list (value_cmp names setting.world.heap) (set_at setting.world.heap id))
  next list
sorted_value names n chosen (ARecord id) next = do
  setting ← here
  list ← new_list_of (sort_list (value_cmp names setting.world.heap) (record_at setting.world.heap id).fields)
  next list
sorted_value names n chosen (ATable id) next = do
  setting ← here
  list ← sorted_pairs names setting.world.heap (table_at setting.world.heap id).pairs (order_of n) chosen
  next list
sorted_value names n chosen Null next = wrong 115 (Some Null)
sorted_value names n chosen (Integer i) next = wrong 115 (Some (Integer i))
sorted_value names n chosen (Text bytes) next = wrong 115 (Some (Text bytes))
sorted_value names n chosen (Chars bytes) next = wrong 115 (Some (Chars bytes))
sorted_value names n chosen (Std file) next = wrong 115 (Some (Std file))
sorted_value names n chosen (Procedure number) next = wrong 115 (Some (Procedure number))
sorted_value names n chosen (ACoexp id) next = wrong 115 (Some (ACoexp id))
