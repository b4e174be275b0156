-- Values, lists, structures and settings as a law over rows has them: each fact as a record, so that it is found by its name.
use Rattle.std.proofs.Common.{◌≡◌, ℕ, zero, suc, ◌+◌, Bool, true, false, List, [], ◌∷◌, ◌++◌, Option, Some, None, if◌then◌else◌}
use Rattle.std.specs.Prelude.{ℤ, pos, negsuc, slice_get, slice_set, unwrap_or, take, drop, filter, fold, replicate, flat_map, cond}
use Rattle.std.specs.declared.cmp.Ordering.{Ordering}
use Rattle.std.specs.Ordering.{is_lt}
use Rattle.icn_structs.specs.Numbered.{NumberedList, item_at, items_with, after_first, with_left, with_right}
use Rattle.icn_structs.specs.PairLists.{with_value_of}
use Rattle.icn_value.specs.Limited.{Bounds}
use Rattle.icn_value.specs.Values.{Value, Null, Integer, Text, Chars, Std, ARecord, AList, ASet, ATable, File, Global, Static, Local, Element, Field, Key, Keyword, KeywordVariable, Variable, Whole, Part, Item, Val, Var}
use Rattle.icn_value.specs.Store.{Table, Record, KeptError, Outside, Setting, new_list, value_at}
use Rattle.icn_defs.specs.Conversions.{same, has_value, with_member, sorted_in, sorted_onto, sort_list}
use Rattle.icn_defs.specs.Rows.{Outcome, Residual}
use Rattle.icn_defs.specs.Elements.{part_of}
use Rattle.icn_defs.specs.Structures.{or_null}
use Rattle.law_rows.proofs.EachOfList.{Each, none_is_not_some, each_get, each_append, each_replicate, each_take, each_drop, each_set}
use Rattle.law_rows.proofs.RowLaws.{RowLaw, OptionBy, VariableBy, ItemBy, PairBy, ResidualBy, SettingBy}

abbrev pub ValueBy : RowLaw → Value → Type 0
ValueBy law = law.parts.values.Is

pub record ValueIn (law : RowLaw) (v : Value) : Type 0 where
  pub is : ValueBy law v

pub record VariableIn (law : RowLaw) (x : Variable) : Type 0 where
  pub is : VariableBy (ValueBy law) x

pub record ItemIn (law : RowLaw) (x : Item) : Type 0 where
  pub is : ItemBy (ValueBy law) x

-- a value that may be there
pub record OptionIn (law : RowLaw) (v : Option Value) : Type 0 where
  pub is : OptionBy (ValueBy law) v

pub record ValuesIn (law : RowLaw) (vs : List Value) : Type 0 where
  pub is : Each (ValueBy law) vs

pub record PairsIn (law : RowLaw) (ps : List (Value × Value)) : Type 0 where
  pub is : Each (PairBy (ValueBy law)) ps

-- the parts of a setting

pub record StringsIn (law : RowLaw) (n : ℕ) : Type 0 where
  pub is : law.parts.strings.Is n

pub record CellsIn (law : RowLaw) (n : ℕ) : Type 0 where
  pub is : law.parts.cells.Is n

pub record BoundsIn (law : RowLaw) (bounds : Bounds) : Type 0 where
  pub is : law.parts.BoundsAre bounds

pub record CountsIn (law : RowLaw) (counts : List ℕ) : Type 0 where
  pub is : law.parts.CountsAre counts

pub record ListsIn (law : RowLaw) (xs : List (NumberedList Value)) : Type 0 where
  pub is : law.parts.lists.Is xs

pub record SetsIn (law : RowLaw) (xs : List (List Value)) : Type 0 where
  pub is : law.parts.sets.Is xs

pub record TablesIn (law : RowLaw) (xs : List Table) : Type 0 where
  pub is : law.parts.tables.Is xs

pub record RecordsIn (law : RowLaw) (xs : List Record) : Type 0 where
  pub is : law.parts.records.Is xs

pub record GlobalsIn (law : RowLaw) (vs : List Value) : Type 0 where
  pub is : law.parts.globals.Is vs

pub record StaticsIn (law : RowLaw) (vs : List Value) : Type 0 where
  pub is : law.parts.statics.Is vs

pub record LocalsIn (law : RowLaw) (vs : List Value) : Type 0 where
  pub is : law.parts.locals.Is vs

pub record KeptIn (law : RowLaw) (kept : Option KeptError) : Type 0 where
  pub is : law.parts.KeptIs kept

pub record OutsideIn (law : RowLaw) (outside : Outside) : Type 0 where
  pub is : law.parts.outside.Is outside

-- a setting as the law has it
pub record SettingIn (law : RowLaw) (a : Setting) : Type 0 where
  pub is : SettingBy law.parts a

-- one in which the row may still come to an error of any number
pub record EnteredIn (law : RowLaw) (a : Setting) : Type 0 where
  pub is : law.Entered a

pub record ResidualIn (law : RowLaw) (r : Residual) : Type 0 where
  pub is : ResidualBy (ValueBy law) r

pub record OutcomeIn (law : RowLaw) (o : Outcome) : Type 0 where
  pub is : law.Comes o

module _ (law : RowLaw) where
  -- Values, variables and items

  pub value_null : ValueIn law Null
  value_null = record { is = law.parts.values.null }

  pub value_integer : (x : ℤ) → ValueIn law (Integer x)
  value_integer x = record { is = law.parts.values.integer x }

  pub value_text : (x : List ℕ) → ValueIn law (Text x)
  value_text x = record { is = law.parts.values.text x }

  pub value_chars : (x : List ℕ) → ValueIn law (Chars x)
  value_chars x = record { is = law.parts.values.chars x }

  pub value_file : (x : File) → ValueIn law (Std x)
  value_file x = record { is = law.parts.values.file x }

  pub value_record : (x : ℕ) → ValueIn law (ARecord x)
  value_record x = record { is = law.parts.values.structure x }

  pub value_list : (x : ℕ) → ValueIn law (AList x)
  value_list x = record { is = law.parts.values.list x }

  pub value_set : (x : ℕ) → ValueIn law (ASet x)
  value_set x = record { is = law.parts.values.set x }

  pub value_table : (x : ℕ) → ValueIn law (ATable x)
  value_table x = record { is = law.parts.values.table x }

  pub value_if : (b : Bool) (v w : Value) → ValueIn law v → ValueIn law w → ValueIn law (if b then v else w)
  value_if true v w h g = h
  value_if false v w h g = g

  pub optional_none : OptionIn law None
  optional_none = record { is = tt }

  pub optional_some : (v : Value) → ValueIn law v → OptionIn law (Some v)
  optional_some v h = record { is = h.is }

  pub variable_element : (id : ℕ) (k : ℤ) → VariableIn law (Whole (Element id k))
  variable_element id k = record { is = tt }

  pub variable_field : (id k : ℕ) → VariableIn law (Whole (Field id k))
  variable_field id k = record { is = tt }

  pub variable_key : (id : ℕ) (v : Value) → ValueIn law v → VariableIn law (Whole (Key id v))
  variable_key id v h = record { is = h.is }

  pub part_global : (k a b : ℕ) → VariableIn law (Part (Global k) a b)
  part_global k a b = record { is = tt }

  pub part_static : (k a b : ℕ) → VariableIn law (Part (Static k) a b)
  part_static k a b = record { is = tt }

  pub part_local : (k a b : ℕ) → VariableIn law (Part (Local k) a b)
  part_local k a b = record { is = tt }

  pub part_field : (id k a b : ℕ) → VariableIn law (Part (Field id k) a b)
  part_field id k a b = record { is = tt }

  pub part_word : (word : KeywordVariable) (a b : ℕ) → VariableIn law (Part (Keyword word) a b)
  part_word word a b = record { is = tt }

  pub variable_part : (x : Variable) (a b : ℕ) → VariableIn law x → VariableIn law (part_of x a b)
  variable_part (Whole root) a b h = record { is = h.is }
  variable_part (Part root c d) a b h = record { is = h.is }

  pub item_val : (v : Value) → ValueIn law v → ItemIn law (Val v)
  item_val v h = record { is = h.is }

  pub item_var : (x : Variable) → VariableIn law x → ItemIn law (Var x)
  item_var x h = record { is = h.is }

  -- Lists of values

  pub values_nil : ValuesIn law []
  values_nil = record { is = tt }

  pub values_cons : (v : Value) (vs : List Value) → ValueIn law v → ValuesIn law vs → ValuesIn law (v ∷ vs)
  values_cons v vs h g = record { is = (h.is, g.is) }

  pub values_append : (vs ws : List Value) → ValuesIn law vs → ValuesIn law ws → ValuesIn law (vs ++ ws)
  values_append vs ws h g = record { is = each_append (ValueBy law) vs ws h.is g.is }

  pub values_set : (vs : List Value) (k : ℕ) (v : Value) → ValuesIn law vs → ValueIn law v → ValuesIn law (slice_set vs k v)
  values_set vs k v h g = record { is = each_set (ValueBy law) vs k v h.is g.is }

  pub values_take : (k : ℕ) (vs : List Value) → ValuesIn law vs → ValuesIn law (take k vs)
  values_take k vs h = record { is = each_take (ValueBy law) k vs h.is }

  pub values_drop : (k : ℕ) (vs : List Value) → ValuesIn law vs → ValuesIn law (drop k vs)
  values_drop k vs h = record { is = each_drop (ValueBy law) k vs h.is }

  pub values_replicate : (k : ℕ) (v : Value) → ValueIn law v → ValuesIn law (replicate k v)
  values_replicate k v h = record { is = each_replicate (ValueBy law) k v h.is }

  each_filter : (test : Value → Bool) (vs : List Value) → Each (ValueBy law) vs → Each (ValueBy law) (filter test vs)
  each_filter test [] h = tt
  each_filter test (v ∷ vs) h = by (test v) (each_filter test vs h.1)
    where
      by : (b : Bool) → Each (ValueBy law) (filter test vs) → Each (ValueBy law) (cond b (v ∷ filter test vs) (filter test vs))
      by true g = (h.0, g)
      by false g = g

  pub values_filter : (test : Value → Bool) (vs : List Value) → ValuesIn law vs → ValuesIn law (filter test vs)
  values_filter test vs h = record { is = each_filter test vs h.is }

  pub values_after : (vs : List Value) (k : ℤ) → ValuesIn law vs → ValuesIn law (after_first vs k).items
  values_after [] k h = record { is = tt }
  values_after (v ∷ vs) k h = record { is = h.is.1 }

  pub values_with : (vs : List Value) (k : ℤ) (v : Value) → ValuesIn law vs → ValueIn law v → ValuesIn law (items_with vs k v)
  values_with vs (pos k) v h g = values_set vs k v h g
  values_with vs (negsuc k) v h g = h

  pub values_or_null : (vs : List Value) → ValuesIn law vs → ValuesIn law (or_null vs)
  values_or_null [] h = record { is = (law.parts.values.null, tt) }
  values_or_null (v ∷ vs) h = h

  pub values_member : (vs : List Value) (v : Value) → ValuesIn law vs → ValueIn law v → ValuesIn law (with_member vs v)
  values_member vs v h g = by (has_value vs v)
    where
      by : (b : Bool) → ValuesIn law (if b then vs else (vs ++ v ∷ []))
      by true = h
      by false = values_append vs (v ∷ []) h (values_cons v [] g values_nil)

  pub values_members : (vs added : List Value) → ValuesIn law vs → ValuesIn law added → ValuesIn law (fold with_member vs added)
  values_members vs [] h g = h
  values_members vs (v ∷ added) h g = values_members (with_member vs v) added (values_member vs v h (record { is = g.is.0 })) (record { is = g.is.1 })

  pub values_left : (list : NumberedList Value) (added : List Value) → ValuesIn law list.items → ValuesIn law added
      → ValuesIn law (fold with_left list added).items
  values_left list [] h g = h
  values_left list (v ∷ added) h g = values_left (with_left list v) added (record { is = (g.is.0, h.is) }) (record { is = g.is.1 })

  pub values_right : (list : NumberedList Value) (added : List Value) → ValuesIn law list.items → ValuesIn law added
      → ValuesIn law (fold with_right list added).items
  values_right list [] h g = h
  values_right list (v ∷ added) h g =
      values_right (with_right list v) added (values_append list.items (v ∷ []) h (record { is = (g.is.0, tt) })) (record { is = g.is.1 })

  each_in : {A : Type 0} (P : A → Type 0) (cmp : A → A → Ordering) (x : A) (xs : List A) → P x → Each P xs → Each P (sorted_in cmp x xs)
  each_in P cmp x [] h g = (h, tt)
  each_in P cmp x (y ∷ ys) h g = by (is_lt (cmp x y)) (each_in P cmp x ys h g.1)
    where
      by : (b : Bool) → Each P (sorted_in cmp x ys) → Each P (if b then x ∷ (y ∷ ys) else y ∷ sorted_in cmp x ys)
      by true q = (h, g)
      by false q = (g.0, q)

  each_onto : {A : Type 0} (P : A → Type 0) (cmp : A → A → Ordering) (xs ys : List A) → Each P xs → Each P ys → Each P (sorted_onto cmp xs ys)
  each_onto P cmp xs [] h g = h
  each_onto P cmp xs (y ∷ ys) h g = each_onto P cmp (sorted_in cmp y xs) ys (each_in P cmp y xs g.0 h) g.1

  pub values_sorted : (cmp : Value → Value → Ordering) (vs : List Value) → ValuesIn law vs → ValuesIn law (sort_list cmp vs)
  values_sorted cmp vs h = record { is = each_onto (ValueBy law) cmp [] vs tt h.is }

  pub pairs_sorted : (cmp : Value × Value → Value × Value → Ordering) (ps : List (Value × Value)) → PairsIn law ps → PairsIn law (sort_list cmp ps)
  pairs_sorted cmp ps h = record { is = each_onto (PairBy (ValueBy law)) cmp [] ps tt h.is }

  each_pairs : (ps : List (Value × Value)) → Each (PairBy (ValueBy law)) ps → Each (ValueBy law) (flat_map (λ (pair : Value × Value). pair.0 ∷ pair.1 ∷ []) ps)
  each_pairs [] h = tt
  each_pairs (p ∷ ps) h = (h.0.0, (h.0.1, each_pairs ps h.1))

  pub values_pairs : (ps : List (Value × Value)) → PairsIn law ps → ValuesIn law (flat_map (λ (pair : Value × Value). pair.0 ∷ pair.1 ∷ []) ps)
  values_pairs ps h = record { is = each_pairs ps h.is }

  -- What is read

  each_value : (vs : List Value) (k : ℕ) → Each (ValueBy law) vs → ValueBy law (value_at vs k)
  each_value [] k h = law.parts.values.null
  each_value (v ∷ vs) zero h = h.0
  each_value (v ∷ vs) (suc k) h = each_value vs k h.1

  pub value_at_index : (vs : List Value) (k : ℕ) → ValuesIn law vs → ValueIn law (value_at vs k)
  value_at_index vs k h = record { is = each_value vs k h.is }

  pub value_got_there : (vs : List Value) (k : ℕ) (v : Value) → slice_get vs k ≡ Some v → ValuesIn law vs → ValueIn law v
  value_got_there vs k v e h = record { is = each_get (ValueBy law) vs k v h.is e }

  pub value_key : (ps : List (Value × Value)) (k : ℕ) (p : Value × Value) → slice_get ps k ≡ Some p → PairsIn law ps → ValueIn law p.0
  value_key ps k p e h = record { is = (each_get (PairBy (ValueBy law)) ps k p h.is e).0 }

  pub value_numbered : (vs : List Value) (k : ℤ) (v : Value) → item_at vs k ≡ Some v → ValuesIn law vs → ValueIn law v
  value_numbered vs (pos k) v e h = value_got_there vs k v e h
  value_numbered vs (negsuc k) v e h = none_is_not_some v e

  -- Pairs

  each_stored : (ps : List (Value × Value)) (k v : Value) → ValueBy law k → ValueBy law v → Each (PairBy (ValueBy law)) ps
      → Each (PairBy (ValueBy law)) (with_value_of same ps k v)
  each_stored [] k v g q h = ((g, q), tt)
  each_stored (p ∷ ps) k v g q h = by (same k p.0) (each_stored ps k v g q h.1)
    where
      by : (b : Bool) → Each (PairBy (ValueBy law)) (with_value_of same ps k v)
          → Each (PairBy (ValueBy law)) (if b then (p.0, v) ∷ ps else p ∷ with_value_of same ps k v)
      by true z = ((h.0.0, q), h.1)
      by false z = (h.0, z)

  pub pairs_stored : (ps : List (Value × Value)) (k v : Value) → PairsIn law ps → ValueIn law k → ValueIn law v
      → PairsIn law (with_value_of same ps k v)
  pairs_stored ps k v h g q = record { is = each_stored ps k v g.is q.is h.is }

  -- Structures by their numbers

  pub items_at : (xs : List (NumberedList Value)) (id : ℕ) → ListsIn law xs → ValuesIn law (unwrap_or (slice_get xs id) (new_list [])).items
  items_at xs id h = record { is = law.parts.lists.at xs id h.is }

  pub members_at : (xs : List (List Value)) (id : ℕ) → SetsIn law xs → ValuesIn law (unwrap_or (slice_get xs id) [])
  members_at xs id h = record { is = law.parts.sets.at xs id h.is }

  pub pairs_at : (xs : List Table) (id : ℕ) → TablesIn law xs → PairsIn law (unwrap_or (slice_get xs id) (record { default = Null; pairs = [] })).pairs
  pairs_at xs id h = record { is = (law.parts.tables.at xs id h.is).1 }

  pub default_at : (xs : List Table) (id : ℕ) → TablesIn law xs → ValueIn law (unwrap_or (slice_get xs id) (record { default = Null; pairs = [] })).default
  default_at xs id h = record { is = (law.parts.tables.at xs id h.is).0 }

  pub fields_at : (xs : List Record) (id : ℕ) → RecordsIn law xs → ValuesIn law (unwrap_or (slice_get xs id) (record { kind = 0; fields = [] })).fields
  fields_at xs id h = record { is = law.parts.records.fields xs id h.is }

  -- Structures changed and added

  pub lists_set : (xs : List (NumberedList Value)) (id : ℕ) (x : NumberedList Value) → ListsIn law xs → ValuesIn law x.items → ListsIn law (slice_set xs id x)
  lists_set xs id x h g = record { is = law.parts.lists.set xs id x h.is g.is }

  pub lists_more : (xs : List (NumberedList Value)) (x : NumberedList Value) → ListsIn law xs → ValuesIn law x.items → ListsIn law (xs ++ x ∷ [])
  lists_more xs x h g = record { is = law.parts.lists.more xs x h.is g.is }

  pub sets_set : (xs : List (List Value)) (id : ℕ) (x : List Value) → SetsIn law xs → ValuesIn law x → SetsIn law (slice_set xs id x)
  sets_set xs id x h g = record { is = law.parts.sets.set xs id x h.is g.is }

  pub sets_more : (xs : List (List Value)) (x : List Value) → SetsIn law xs → ValuesIn law x → SetsIn law (xs ++ x ∷ [])
  sets_more xs x h g = record { is = law.parts.sets.more xs x h.is g.is }

  pub tables_set : (xs : List Table) (id : ℕ) (x : Table) → TablesIn law xs → ValueIn law x.default → PairsIn law x.pairs → TablesIn law (slice_set xs id x)
  tables_set xs id x h g q = record { is = law.parts.tables.set xs id x h.is (g.is, q.is) }

  pub tables_more : (xs : List Table) (x : Table) → TablesIn law xs → ValueIn law x.default → PairsIn law x.pairs → TablesIn law (xs ++ x ∷ [])
  tables_more xs x h g q = record { is = law.parts.tables.more xs x h.is (g.is, q.is) }

  pub records_set : (xs : List Record) (id place : ℕ) (v : Value) → RecordsIn law xs → ValueIn law v
      → RecordsIn law (slice_set xs id (record (unwrap_or (slice_get xs id) (record { kind = 0; fields = [] }))
      { fields = slice_set (unwrap_or (slice_get xs id) (record { kind = 0; fields = [] })).fields place v }))
  records_set xs id place v h g = record { is = law.parts.records.set xs id place v h.is g.is }

  pub records_more : (xs : List Record) (x : Record) → RecordsIn law xs → law.parts.records.New x → RecordsIn law (xs ++ x ∷ [])
  records_more xs x h g = record { is = law.parts.records.more xs x h.is g }

  pub records_copied : (xs : List Record) (id : ℕ) → law.parts.records.There xs id → RecordsIn law xs
      → RecordsIn law (xs ++ unwrap_or (slice_get xs id) (record { kind = 0; fields = [] }) ∷ [])
  records_copied xs id t h = record { is = law.parts.records.copy xs id t h.is }

  -- Sums, variables and the outside

  pub strings_more : (n k : ℕ) → StringsIn law n → StringsIn law (n + k)
  strings_more n k h = record { is = law.parts.strings.more n k h.is }

  pub cells_more : (n k : ℕ) → CellsIn law n → CellsIn law (n + k)
  cells_more n k h = record { is = law.parts.cells.more n k h.is }

  pub globals_set : (vs : List Value) (place : ℕ) (v : Value) → GlobalsIn law vs → ValueIn law v → GlobalsIn law (slice_set vs place v)
  globals_set vs place v h g = record { is = law.parts.globals.set vs place v h.is g.is }

  pub statics_set : (vs : List Value) (place : ℕ) (v : Value) → StaticsIn law vs → ValueIn law v → StaticsIn law (slice_set vs place v)
  statics_set vs place v h g = record { is = law.parts.statics.set vs place v h.is g.is }

  pub locals_set : (vs : List Value) (place : ℕ) (v : Value) → LocalsIn law vs → ValueIn law v → LocalsIn law (slice_set vs place v)
  locals_set vs place v h g = record { is = law.parts.locals.set vs place v h.is g.is }

  pub none_kept : KeptIn law None
  none_kept = record { is = law.parts.none_kept }

  -- Settings

  pub of_strings : (a : Setting) → SettingIn law a → StringsIn law a.world.heap.strings
  of_strings a h = record { is = h.is.strings }

  pub of_cells : (a : Setting) → SettingIn law a → CellsIn law a.world.heap.cells
  of_cells a h = record { is = h.is.cells }

  pub of_bounds : (a : Setting) → SettingIn law a → BoundsIn law a.world.heap.bounds
  of_bounds a h = record { is = h.is.bounds }

  pub of_counts : (a : Setting) → SettingIn law a → CountsIn law a.world.heap.coexps
  of_counts a h = record { is = h.is.counts }

  pub of_lists : (a : Setting) → SettingIn law a → ListsIn law a.world.heap.lists
  of_lists a h = record { is = h.is.lists }

  pub of_sets : (a : Setting) → SettingIn law a → SetsIn law a.world.heap.sets
  of_sets a h = record { is = h.is.sets }

  pub of_tables : (a : Setting) → SettingIn law a → TablesIn law a.world.heap.tables
  of_tables a h = record { is = h.is.tables }

  pub of_records : (a : Setting) → SettingIn law a → RecordsIn law a.world.heap.records
  of_records a h = record { is = h.is.records }

  pub of_globals : (a : Setting) → SettingIn law a → GlobalsIn law a.world.globals
  of_globals a h = record { is = h.is.globals }

  pub of_statics : (a : Setting) → SettingIn law a → StaticsIn law a.world.statics
  of_statics a h = record { is = h.is.statics }

  pub of_locals : (a : Setting) → SettingIn law a → LocalsIn law a.locals
  of_locals a h = record { is = h.is.locals }

  pub of_kept : (a : Setting) → SettingIn law a → KeptIn law a.world.kept
  of_kept a h = record { is = h.is.kept }

  pub of_outside : (a : Setting) → SettingIn law a → OutsideIn law a.outside
  of_outside a h = record { is = h.is.outside }

  pub setting : (a : Setting) → StringsIn law a.world.heap.strings → CellsIn law a.world.heap.cells → BoundsIn law a.world.heap.bounds
      → CountsIn law a.world.heap.coexps → ListsIn law a.world.heap.lists → SetsIn law a.world.heap.sets → TablesIn law a.world.heap.tables
      → RecordsIn law a.world.heap.records → GlobalsIn law a.world.globals → StaticsIn law a.world.statics → LocalsIn law a.locals
      → KeptIn law a.world.kept → OutsideIn law a.outside → SettingIn law a
  setting a strings cells bounds counts lists sets tables records globals statics locals kept outside = record {
    is = record {
      strings = strings.is;
      cells = cells.is;
      bounds = bounds.is;
      counts = counts.is;
      lists = lists.is;
      sets = sets.is;
      tables = tables.is;
      records = records.is;
      globals = globals.is;
      statics = statics.is;
      locals = locals.is;
      kept = kept.is;
      outside = outside.is;
    };
  }
