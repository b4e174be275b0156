-- All rows, one after the other, for any law: each word that rows are made of, and one line a row.
use Rattle.std.proofs.Common.{◌≡◌, ℕ, zero, suc, refl, sym, ap, subst, arith, ◌∙◌, Bool, true, false, true≢false, List, [], ◌∷◌, ◌++◌, ◌+◌, ◌-◌, length, Option, Some, None, inl, inr}
use Rattle.std.specs.Prelude.{ℤ, pos, negsuc, Result, Ok, Err, unwrap_or, cond, option_map, drop, take, take_while, not, nat_lt, nat_le, is_some, slice_get, ◌==◌}
use Rattle.std.specs.Map.{lookup, remove_entry}
use Rattle.std.proofs.lemmas.List.{drop_min, length-take}
use Rattle.std.proofs.lemmas.Bool.{ltb-false}
use Rattle.std.proofs.Math.Seq.{drop-nil}
use Rattle.icn_structs.specs.Numbered.{item_numbered, with_numbered}
use Rattle.icn_text.specs.declared.arithmetic.Arith.{Arith}
use Rattle.icn_text.specs.declared.arithmetic.Arith.TheVariants as Ariths
use Rattle.icn_text.specs.declared.op.Op.{Op}
use Rattle.icn_text.specs.declared.op.Op.TheVariants as Ops
use Rattle.icn_text.specs.declared.func.Func.{Func}
use Rattle.icn_text.specs.declared.func.Func.TheVariants as Funcs
use Rattle.icn_value.specs.declared.mode.FileMode.{FileMode}
use Rattle.icn_value.specs.declared.mode.FileMode.TheVariants.{ToRead, ToWrite, ToAdd}
use Rattle.icn_value.specs.Values.{Value, Null, Integer, Text, Chars, Std, Procedure, ARecord, AList, ASet, ATable, ACoexp, File, Input, Output, Errout, Opened, Root, Global, Static, Local, Element, Field, Key, Keyword, KeywordVariable, Subject, Position, Random, ErrorCount, Variable, Whole, Part, Item, Val, Var}
use Rattle.icn_value.specs.Store.{Setting, Heap, Record, Names, OpenedFile, Outside, Request, ALine, SomeBytes, file_at, with_file_reading, with_opened, with_reading, having_left, having_position, having_heap, new_list, list_at, table_at, record_at, value_at, with_list}
use Rattle.icn_defs.specs.Conversions.{same, group_of, integer_of, text_of, form_of, text_made, position_of, held_text, is_null, ValueGroup, Textual, Listed, Collected, Tabled, Recorded, Filed, Activated, Single}
use Rattle.icn_defs.specs.RowFacts.{is_error_number}
use Rattle.icn_defs.specs.Rows.{Row, Fails, Gives, Suspends, Error, Ends, Residual, TextBytes, VariableBytes, ListItems, SetMembers, TableValues, TableKeys, RecordFields, FileLines, UndoAssign, UndoExchange, UndoPosition, Counting, Sequence, Balanced, Found, Among, Mover, Neither, Left, Right, check, present, number_or_error, fails_unless, thing_or_failure, natural, costs_made, costs_text, costs_bytes, arithmetic_error, gives_value, suspends, ends}
use Rattle.icn_defs.specs.ReadAndAssign.{the_value, the_values, the_variable, assigns_keyword, assigns_root, assigns_or, assigns_both, move_part, moved_by_left, moved_by_right, costs_unless, stores, reads, reads_root, reads_text, root_value, with_part}
use Rattle.icn_defs.specs.Arguments.{Keeper, SetKeeper, TableKeeper, file_of, arg, arg_or}
use Rattle.icn_defs.specs.Arithmetic.{count_from}
use Rattle.icn_defs.specs.Operations.{sets_or_csets}
use Rattle.icn_defs.specs.Elements.{text_elements, text_variable, part_item, elements_of, random_number, random_of, random_by}
use Rattle.icn_defs.specs.Variables.{subscript_of, section_of}
use Rattle.icn_defs.specs.Structures.{copy_of, new_record_of, new_set_by, inserts, without_key, pair_lists, table_sorted, sorted_of}
use Rattle.icn_profile.specs.Numbers.{most_bytes_of_opened}
use Rattle.icn_value.specs.Changes.{having_file, new_file, read_on}
use Rattle.icn_defs.specs.InputOutput.{WriteArgument, Puts, Selects, line_put, pieces, put_on, put_pieces, puts_line, read_row, reads_row, write_row, writes_row, stop_row, newline, last_of}
use Rattle.icn_defs.specs.OpenFiles.{Readable, FromInput, FromOpened, closed_in, is_open_to_write, left_in, readable, readable_of, written_out}
use Rattle.icn_defs.specs.Files.{close_row, content_by, new_file_of, open_row}
use Rattle.icn_defs.specs.NamedValues.{proc_row, procedure_of}
use Rattle.icn_defs.specs.Lines.{bytes_from, line_from, lines_row, next_line, next_bytes, next_opened_bytes, next_opened_line}
use Rattle.icn_defs.specs.Interruptions.{asked_of}
use Rattle.icn_defs.specs.Applying.{operation_on, operation_row, operand, function_of, again}
use Rattle.icn_defs.specs.StepRows.{list_row, record_row, coexpression_row, text_row}
use Rattle.icn_defs.specs.Running.{text_values, words_row}
use Rattle.law_rows.specs.Unchanged.{is_exchange, undoes_exchange}
use Rattle.law_rows.proofs.EachOfList.{Each, some_injective}
use Rattle.law_rows.proofs.RowLaws.{RowLaw, PairBy, ItemBy, ResidualBy, MayCopy, MayName, IsOne}
use Rattle.law_rows.proofs.ValuesInRows.{ValueBy, ValueIn, VariableIn, ItemIn, OptionIn, ValuesIn, PairsIn, CountsIn, RecordsIn, OutsideIn, SettingIn, EnteredIn, ResidualIn, OutcomeIn, value_null, value_integer, value_text, value_chars, value_file, value_record, value_list, value_set, value_table, value_if, optional_none, optional_some, variable_element, variable_field, variable_key, part_global, part_static, part_local, part_field, part_word, variable_part, item_val, item_var, values_nil, values_cons, values_append, values_set, values_take, values_drop, values_replicate, values_filter, values_after, values_with, values_or_null, values_member, values_members, values_left, values_right, values_sorted, pairs_sorted, values_pairs, value_at_index, value_got_there, value_key, value_numbered, pairs_stored, items_at, members_at, pairs_at, default_at, fields_at, lists_set, lists_more, sets_set, sets_more, tables_set, tables_more, records_set, records_more, records_copied, strings_more, cells_more, globals_set, statics_set, locals_set, none_kept, of_strings, of_cells, of_bounds, of_counts, of_lists, of_sets, of_tables, of_records, of_globals, of_statics, of_locals, of_kept, of_outside, setting}

module _ (law : RowLaw) where
  -- Ends

  o_error : (k : ℕ) (v : Option Value) (s : Setting) → is_error_number k ≡ true → EnteredIn law s → OptionIn law v → OutcomeIn law (Error k v s)
  o_error k v s e h g = record { is = law.error k v s e g.is h.is }

  o_strings : (s : Setting) → SettingIn law s → OutcomeIn law (Error 306 None s)
  o_strings s h = record { is = law.limit 306 s refl (inl refl) h.is }

  o_cells : (s : Setting) → SettingIn law s → OutcomeIn law (Error 307 None s)
  o_cells s h = record { is = law.limit 307 s refl (inr refl) h.is }

  o_ends : (k : ℕ) (s : Setting) → SettingIn law s → OutcomeIn law (Ends k s)
  o_ends k s h = record { is = law.ending k s h.is }

  o_gives : (i : Item) (s : Setting) → ItemIn law i → SettingIn law s → OutcomeIn law (Gives i s)
  o_gives i s h g = record { is = law.gift i s h.is g.is }

  o_suspends : (i : Item) (r : Residual) (s : Setting) → ItemIn law i → ResidualIn law r → SettingIn law s → OutcomeIn law (Suspends i r s)
  o_suspends i r s h q g = record { is = law.suspension i r s h.is q.is g.is }

  o_fails : (s : Setting) → SettingIn law s → OutcomeIn law (Fails s)
  o_fails s h = record { is = law.failure s h.is }

  -- Residuals

  r_text : (t : List ℕ) (k : ℕ) → ResidualIn law (TextBytes t k)
  r_text t k = record { is = tt }

  r_bytes : (x : Variable) (k : ℕ) → VariableIn law x → ResidualIn law (VariableBytes x k)
  r_bytes x k h = record { is = h.is }

  r_items : (id k : ℕ) → ResidualIn law (ListItems id k)
  r_items id k = record { is = tt }

  r_members : (id k : ℕ) → ResidualIn law (SetMembers id k)
  r_members id k = record { is = tt }

  r_values : (id k : ℕ) → ResidualIn law (TableValues id k)
  r_values id k = record { is = tt }

  r_keys : (id k : ℕ) → ResidualIn law (TableKeys id k)
  r_keys id k = record { is = tt }

  r_fields : (id k : ℕ) → ResidualIn law (RecordFields id k)
  r_fields id k = record { is = tt }

  r_lines : (file : File) → ResidualIn law (FileLines file)
  r_lines file = record { is = tt }

  r_assign : (x : Variable) (v : Value) → VariableIn law x → ValueIn law v → ResidualIn law (UndoAssign x v)
  r_assign x v h g = record { is = (h.is, g.is) }

  r_exchange : (m : Mover) (x y : Variable) (v w : Value) → VariableIn law x → VariableIn law y → ValueIn law v → ValueIn law w
      → ResidualIn law (UndoExchange m x y v w)
  r_exchange m x y v w h g q u = record { is = (h.is, (g.is, (q.is, u.is))) }

  r_position : (k : ℕ) → ResidualIn law (UndoPosition k)
  r_position k = record { is = tt }

  r_counting : (a b c : ℤ) → ResidualIn law (Counting a b c)
  r_counting a b c = record { is = tt }

  r_sequence : (a b : ℤ) → ResidualIn law (Sequence a b)
  r_sequence a b = record { is = tt }

  r_balanced : (a b c d : List ℕ) (e f : ℕ) → ResidualIn law (Balanced a b c d e f)
  r_balanced a b c d e f = record { is = tt }

  r_found : (a b : List ℕ) (c d : ℕ) → ResidualIn law (Found a b c d)
  r_found a b c d = record { is = tt }

  r_among : (a b : List ℕ) (c d : ℕ) → ResidualIn law (Among a b c d)
  r_among a b c d = record { is = tt }

  -- Words

  w_check : (t : Bool) (k : ℕ) (v : Option Value) (next : Row) (a : Setting) → OutcomeIn law (Error k v a) → OutcomeIn law (next a)
      → OutcomeIn law (check t k v next a)
  w_check true k v next a e f = f
  w_check false k v next a e f = e

  w_present : {A : Type 0} (o : Option A) (k : ℕ) (v : Option Value) (next : A → Row) (a : Setting) → OutcomeIn law (Error k v a)
      → ((x : A) → o ≡ Some x → OutcomeIn law (next x a)) → OutcomeIn law (present o k v next a)
  w_present (Some x) k v next a e f = f x refl
  w_present None k v next a e f = e

  arithmetic_known : (k : Arith) → is_error_number (arithmetic_error k) ≡ true
  arithmetic_known Ariths.DivideByZero = refl
  arithmetic_known Ariths.RemainderByZero = refl
  arithmetic_known Ariths.Overflow = refl

  w_computed : (o : Result ℤ Arith) (next : ℤ → Row) (a : Setting) → EnteredIn law a → ((x : ℤ) → OutcomeIn law (next x a))
      → OutcomeIn law (number_or_error o next a)
  w_computed (Ok x) next a e f = f x
  w_computed (Err k) next a e f = o_error (arithmetic_error k) None a (arithmetic_known k) e (optional_none law)

  w_passing : (t : Bool) (next : Row) (a : Setting) → SettingIn law a → OutcomeIn law (next a) → OutcomeIn law (fails_unless t next a)
  w_passing true next a h f = f
  w_passing false next a h f = o_fails a h

  w_found : {A : Type 0} (o : Option A) (next : A → Row) (a : Setting) → SettingIn law a → ((x : A) → o ≡ Some x → OutcomeIn law (next x a))
      → OutcomeIn law (thing_or_failure o next a)
  w_found (Some x) next a h f = f x refl
  w_found None next a h f = o_fails a h

  w_natural : (k : ℤ) (v : Value) (next : ℕ → Row) (a : Setting) → EnteredIn law a → ValueIn law v → ((x : ℕ) → OutcomeIn law (next x a))
      → OutcomeIn law (natural k v next a)
  w_natural (pos k) v next a e g f = f k
  w_natural (negsuc k) v next a e g f = o_error 205 (Some v) a refl e (optional_some law v g)

ruleset outcomes = (refl, o_strings, o_cells, o_error, o_ends, o_gives, o_suspends, o_fails)

ruleset residuals = (
  r_text,
  r_bytes,
  r_items,
  r_members,
  r_values,
  r_keys,
  r_fields,
  r_lines,
  r_assign,
  r_exchange,
  r_position,
  r_counting,
  r_sequence,
  r_balanced,
  r_found,
  r_among,
)

ruleset values = (
  optional_none,
  optional_some,
  value_if,
  value_null,
  value_integer,
  value_text,
  value_chars,
  value_file,
  value_record,
  value_list,
  value_set,
  value_table,
  value_at_index,
  value_got_there,
  value_key,
  variable_element,
  variable_field,
  variable_key,
  variable_part,
  item_val,
  item_var,
)

ruleset lists = (
  values_nil,
  values_cons,
  values_append,
  values_set,
  values_take,
  values_drop,
  values_replicate,
  values_filter,
  values_after,
  values_with,
  values_or_null,
  values_member,
  values_members,
  values_left,
  values_right,
  values_sorted,
  pairs_sorted,
  values_pairs,
  items_at,
  members_at,
  pairs_at,
  default_at,
  fields_at,
)

ruleset settings = (
  setting,
  strings_more,
  cells_more,
  lists_set,
  lists_more,
  sets_set,
  sets_more,
  tables_set,
  tables_more,
  records_set,
  globals_set,
  statics_set,
  locals_set,
  none_kept,
  of_strings,
  of_cells,
  of_bounds,
  of_counts,
  of_lists,
  of_sets,
  of_tables,
  of_records,
  of_globals,
  of_statics,
  of_locals,
  of_kept,
  of_outside,
)

ruleset parts = (part_global, part_static, part_local, part_field, part_word)

ruleset words = (outcomes, residuals, values, lists, settings, w_check, w_present, w_computed, w_passing, w_found, w_natural)

module _ (law : RowLaw) where
  w_made : (o : Option (List ℕ)) (next : Row) (a : Setting) → SettingIn law a → ((s : Setting) → SettingIn law s → OutcomeIn law (next s))
      → OutcomeIn law (costs_made o next a)
  w_made None next a h f = f a h
  w_made (Some text) next a h f = search (words, f)

  w_unless : (t : Bool) (next : Row) (a : Setting) → SettingIn law a → ((s : Setting) → SettingIn law s → OutcomeIn law (next s))
      → OutcomeIn law (costs_unless t next a)
  w_unless true next a h f = f a h
  w_unless false next a h f = search (words, f)

module _ (law : RowLaw) where
  -- Reading variables

  same_v : (v w : Value) → ValueIn law v → Some v ≡ Some w → ValueIn law w
  same_v v w h e = let z : v ≡ w = some_injective e in rw (← z) h

  looked : (test : Value → Bool) (ps : List (Value × Value)) (d : Value) → Each (PairBy (ValueBy law)) ps → ValueBy law d
      → ValueBy law (unwrap_or (lookup test ps) d)
  looked test [] d h g = g
  looked test (p ∷ ps) d h g = by (test p.0) (looked test ps d h.1 g)
    where
      by : (b : Bool) → ValueBy law (unwrap_or (lookup test ps) d) → ValueBy law (unwrap_or (cond b (Some p.1) (lookup test ps)) d)
      by true q = h.0.1
      by false q = q

  root_v : (a : Setting) (root : Root) (v : Value) → SettingIn law a → root_value a root ≡ Some v → ValueIn law v
  root_v a (Global k) v h e = same_v _ v (record { is = law.parts.globals.at a.world.globals k h.is.globals }) e
  root_v a (Static k) v h e = same_v _ v (record { is = law.parts.statics.at a.world.statics k h.is.statics }) e
  root_v a (Local k) v h e = same_v _ v (record { is = law.parts.locals.at a.locals k h.is.locals }) e
  root_v a (Element id k) v h e = value_numbered law (list_at a.world.heap id).items _ v e (items_at law a.world.heap.lists id (of_lists law a h))
  root_v a (Field id k) v h e =
      same_v _ v (value_at_index law (record_at a.world.heap id).fields k (fields_at law a.world.heap.records id (of_records law a h))) e
  root_v a (Key id key) v h e =
      let t = table_at a.world.heap id in
      same_v _ v (record {
        is = looked (same key) t.pairs t.default (pairs_at law a.world.heap.tables id (of_tables law a h)).is
            (default_at law a.world.heap.tables id (of_tables law a h)).is;
      }) e
  root_v a (Keyword Subject) v h e = same_v _ v (value_text law a.world.subject) e
  root_v a (Keyword Position) v h e = same_v _ v (value_integer law (pos a.world.position)) e
  root_v a (Keyword Random) v h e = same_v _ v (value_integer law (pos a.world.random)) e
  root_v a (Keyword ErrorCount) v h e = same_v _ v (value_integer law a.world.error) e

  w_root : (root : Root) (next : Value → Row) (a : Setting) → EnteredIn law a → SettingIn law a
      → ((v : Value) → ValueIn law v → OutcomeIn law (next v a)) → OutcomeIn law (reads_root root next a)
  w_root root next a e h f =
      w_present law (root_value a root) 205 None next a (o_error law 205 None a refl e (optional_none law)) (λ v is. f v (root_v a root v h is))

  w_reads : (x : Variable) (next : Value → Row) (a : Setting) → EnteredIn law a → SettingIn law a
      → ((v : Value) → ValueIn law v → OutcomeIn law (next v a)) → OutcomeIn law (reads x next a)
  w_reads (Whole root) next a e h f = w_root root next a e h f
  w_reads (Part root place size) next a e h f = search (words, w_root, f) depth 12

  w_value : (x : Item) (next : Value → Row) (a : Setting) → EnteredIn law a → SettingIn law a → ItemIn law x
      → ((v : Value) → ValueIn law v → OutcomeIn law (next v a)) → OutcomeIn law (the_value x next a)
  w_value (Val v) next a e h i f = f v (record { is = i.is })
  w_value (Var x) next a e h i f = w_reads x next a e h f

  w_values : (xs : List Item) (next : List Value → Row) (a : Setting) → EnteredIn law a → SettingIn law a → Each (ItemBy (ValueBy law)) xs
      → ((vs : List Value) → ValuesIn law vs → OutcomeIn law (next vs a)) → OutcomeIn law (the_values xs next a)
  w_values [] next a e h i f = f [] (values_nil law)
  w_values (x ∷ xs) next a e h i f = w_value x (λ v. the_values xs (λ vs. next (v ∷ vs))) a e h (record { is = i.0 })
      (λ v g. w_values xs (λ vs. next (v ∷ vs)) a e h i.1 (λ vs q. f (v ∷ vs) (values_cons law v vs g q)))

  w_variable : (x : Item) (next : Variable → Row) (a : Setting) → EnteredIn law a → ItemIn law x
      → ((y : Variable) → VariableIn law y → OutcomeIn law (next y a)) → OutcomeIn law (the_variable x next a)
  w_variable (Val v) next a e i f = o_error law 111 (Some v) a refl e (record { is = i.is })
  w_variable (Var x) next a e i f = f x (record { is = i.is })

  -- Assigning

  w_stores : (id : ℕ) (key value : Value) (next : Row) (a : Setting) → SettingIn law a → ValueIn law key → ValueIn law value
      → ((s : Setting) → SettingIn law s → OutcomeIn law (next s)) → OutcomeIn law (stores id key value next a)
  w_stores id key value next a h g q f = search (words, w_unless, pairs_stored, f) depth 12

  having_place : (a : Setting) (place : ℕ) → SettingIn law a → SettingIn law (having_position place a)
  having_place a place h = search settings

  w_keyword : (refused : Row) (word : KeywordVariable) (value : Value) (next : Row) (a : Setting) → EnteredIn law a → SettingIn law a → ValueIn law value
      → OutcomeIn law (refused a) → ((s : Setting) → SettingIn law s → OutcomeIn law (next s)) → OutcomeIn law (assigns_keyword refused word value next a)
  w_keyword refused Subject value next a e h g r f = search (words, w_made, f)
  w_keyword refused Position value next a e h q r f = by_number (integer_of value) refl
    where
      by_place : (k : ℤ) → integer_of value ≡ Some k → (o : Option ℕ) → position_of k (length a.world.subject) ≡ o
          → OutcomeIn law (assigns_keyword refused Position value next a)
      by_place k is None g = rw is (rw g r)
      by_place k is (Some place) g = rw is (rw g (f (having_position place a) (having_place a place h)))

      by_number : (o : Option ℤ) → integer_of value ≡ o → OutcomeIn law (assigns_keyword refused Position value next a)
      by_number None is = rw is (o_error law 101 (Some value) a refl e (optional_some law value q))
      by_number (Some k) is = by_place k is (position_of k (length a.world.subject)) refl
  w_keyword refused Random value next a e h g r f = search (words, f)
  w_keyword refused ErrorCount value next a e h g r f = search (words, f)

  w_assigns_root : (refused : Row) (root : Root) (value : Value) (next : Row) (a : Setting) → EnteredIn law a → SettingIn law a
      → VariableIn law (Whole root) → ValueIn law value → OutcomeIn law (refused a) → ((s : Setting) → SettingIn law s → OutcomeIn law (next s))
      → OutcomeIn law (assigns_root refused root value next a)
  w_assigns_root refused (Global place) value next a e h x g r f = search (words, f)
  w_assigns_root refused (Static place) value next a e h x g r f = search (words, f)
  w_assigns_root refused (Local place) value next a e h x g r f = search (words, f)
  w_assigns_root refused (Element id number) value next a e h x g r f = search (words, f) depth 12
  w_assigns_root refused (Field id place) value next a e h x g r f = search (words, f)
  w_assigns_root refused (Key table key) value next a e h x g r f = w_stores table key value next a h (record { is = x.is }) g f
  w_assigns_root refused (Keyword word) value next a e h x g r f = w_keyword refused word value next a e h g r f

  -- what a charge for bytes leaves: the lists are as they were
  w_bytes_kept : (n : ℕ) (next : Row) (a : Setting) → SettingIn law a
      → ((s : Setting) → SettingIn law s → s.world.heap.lists ≡ a.world.heap.lists → OutcomeIn law (next s)) → OutcomeIn law (costs_bytes n next a)
  w_bytes_kept n next a h f = by (nat_le (a.world.heap.strings + n) a.world.heap.bounds.strings) refl
    where
      charged : Setting
      charged = having_heap (λ heap. record heap { strings = heap.strings + n }) a

      kept : SettingIn law charged
      kept = search settings

      by : (t : Bool) → nat_le (a.world.heap.strings + n) a.world.heap.bounds.strings ≡ t → OutcomeIn law (costs_bytes n next a)
      by true is = rw is (f charged kept refl)
      by false is = rw is (o_strings law a h)

  w_made_kept : (o : Option (List ℕ)) (next : Row) (a : Setting) → SettingIn law a
      → ((s : Setting) → SettingIn law s → s.world.heap.lists ≡ a.world.heap.lists → OutcomeIn law (next s)) → OutcomeIn law (costs_made o next a)
  w_made_kept None next a h f = f a h refl
  w_made_kept (Some text) next a h f = w_bytes_kept (length text) next a h f

  w_met : (t : Bool) (k : ℕ) (v : Option Value) (next : Row) (a : Setting) → t ≡ true → OutcomeIn law (next a) → OutcomeIn law (check t k v next a)
  w_met true k v next a is f = f
  w_met false k v next a is f = absurd (true≢false (sym is))

  -- so the element that a part was read of is still there when the part is assigned
  w_element : (b s : Setting) (refused : Row) (id : ℕ) (number : ℤ) (held value : Value) (next : Row)
      → item_numbered (list_at b.world.heap id) number ≡ Some held → s.world.heap.lists ≡ b.world.heap.lists → SettingIn law s → ValueIn law value
      → ((t : Setting) → SettingIn law t → OutcomeIn law (next t)) → OutcomeIn law (assigns_root refused (Element id number) value next s)
  w_element b s refused id number held value next is same h g f =
      w_met _ 205 None _ s (ap (λ lists. is_some (item_numbered (unwrap_or (slice_get lists id) (new_list [])) number)) same ∙ ap is_some is)
      (f (having_heap (with_list id (with_numbered (list_at s.world.heap id) number value)) s) assigned)
    where
      assigned : SettingIn law (having_heap (with_list id (with_numbered (list_at s.world.heap id) number value)) s)
      assigned = search (settings, values_with, items_at) depth 12

  w_element_by : (a : Setting) (refused : Row) (id : ℕ) (number : ℤ) (place size : ℕ) (value : Value) (next : Variable → Row)
      → EnteredIn law a → SettingIn law a
      → ((y : Variable) (s : Setting) → VariableIn law y → SettingIn law s → OutcomeIn law (next y s))
      → (new : List ℕ) (o : Option Value) → item_numbered (list_at a.world.heap id) number ≡ o
      → OutcomeIn law (reads_text (Element id number) place size (λ text. costs_text value (costs_bytes (length (with_part text place size new))
      (assigns_root refused (Element id number) (Text (with_part text place size new)) (next (Part (Element id number) place (length new)))))) a)
  w_element_by a refused id number place size value next e h f new None is = rw is (o_error law 205 None a refl e (optional_none law))
  w_element_by a refused id number place size value next e h f new (Some held) is =
      let seen : ValueIn law held = root_v a (Element id number) held h is in
      rw is (w_present law (held_text held) 103 (Some held) _ a (o_error law 103 (Some held) a refl e (optional_some law held seen))
      (λ text there. let whole : List ℕ = with_part text place size new in
      let end : Row = next (Part (Element id number) place (length new)) in
      let put : Row = assigns_root refused (Element id number) (Text whole) end in
      w_check law (nat_le (place - 1 + size) (length text)) 205 None (costs_text value (costs_bytes (length whole) put)) a
      (o_error law 205 None a refl e (optional_none law))
      (w_made_kept (text_made (form_of value)) (costs_bytes (length whole) put) a h
      (λ s k same. w_bytes_kept (length whole) put s k
      (λ t l again. w_element a t refused id number held (Text whole) end is (again ∙ same) l (value_text law whole)
      (λ u m. f (Part (Element id number) place (length new)) u (record { is = tt }) m))))))

  w_assigns : (refused : Row) (x : Variable) (value : Value) (next : Variable → Row) (a : Setting) → EnteredIn law a → SettingIn law a
      → VariableIn law x → ValueIn law value → OutcomeIn law (refused a)
      → ((y : Variable) (s : Setting) → VariableIn law y → SettingIn law s → OutcomeIn law (next y s))
      → OutcomeIn law (assigns_or refused x value next a)
  w_assigns refused (Whole root) value next a e h x g r f =
      w_assigns_root refused root value (next (Whole root)) a e h x g r (λ s z. f (Whole root) s x z)
  w_assigns refused (Part (Global at) place size) value next a e h x g r f = search (words, w_made, w_root, parts, f) depth 14
  w_assigns refused (Part (Static at) place size) value next a e h x g r f = search (words, w_made, w_root, parts, f) depth 14
  w_assigns refused (Part (Local at) place size) value next a e h x g r f = search (words, w_made, w_root, parts, f) depth 14
  w_assigns refused (Part (Element id number) place size) value next a e h x g r f =
      w_present law (text_of value) 103 (Some value) _ a (o_error law 103 (Some value) a refl e (optional_some law value g))
      (λ new is. w_element_by a refused id number place size value next e h f new (item_numbered (list_at a.world.heap id) number) refl)
  w_assigns refused (Part (Field id at) place size) value next a e h x g r f = search (words, w_made, w_root, parts, f) depth 14
  w_assigns refused (Part (Key table key) place size) value next a e h x g r f =
      let whole : ValueIn law key = record { is = x.is } in
      let part : (c d : ℕ) → VariableIn law (Part (Key table key) c d) = λ c d. record { is = x.is } in
      search (words, w_made, w_root, w_stores, part, f) depth 14
  w_assigns refused (Part (Keyword Subject) place size) value next a e h x g r f = search (words, w_made, w_root, parts, f) depth 14
  w_assigns refused (Part (Keyword Position) place size) value next a e h x g r f = search (words, w_root) depth 14
  w_assigns refused (Part (Keyword Random) place size) value next a e h x g r f = search (words, w_root) depth 14
  w_assigns refused (Part (Keyword ErrorCount) place size) value next a e h x g r f = search (words, w_root) depth 14

  -- Exchanging, where a law has the same of settings before and behind a charge

  w_moved : (old new : ℕ) (x : Variable) (next : Variable → Row) (a : Setting) → EnteredIn law a → VariableIn law x
      → ((y : Variable) → VariableIn law y → OutcomeIn law (next y a)) → OutcomeIn law (move_part old new x next a)
  w_moved old new (Whole root) next a e x f = f (Whole root) x
  w_moved old new (Part root place size) next a e x f =
      let part : (c d : ℕ) → VariableIn law (Part root c d) = λ c d. record { is = x.is } in search (words, part, f)

  w_moved_left : (m : Mover) (old new : ℕ) (x : Variable) (next : Variable → Row) (a : Setting) → EnteredIn law a → VariableIn law x
      → ((y : Variable) → VariableIn law y → OutcomeIn law (next y a)) → OutcomeIn law (moved_by_left m old new x next a)
  w_moved_left Neither old new x next a e h f = f x h
  w_moved_left Left old new x next a e h f = w_moved old new x next a e h f
  w_moved_left Right old new x next a e h f = f x h

  w_moved_right : (m : Mover) (old new : ℕ) (x : Variable) (next : Variable → Row) (a : Setting) → EnteredIn law a → VariableIn law x
      → ((y : Variable) → VariableIn law y → OutcomeIn law (next y a)) → OutcomeIn law (moved_by_right m old new x next a)
  w_moved_right Neither old new x next a e h f = f x h
  w_moved_right Left old new x next a e h f = f x h
  w_moved_right Right old new x next a e h f = w_moved old new x next a e h f

  w_both : ((s : Setting) → SettingIn law s → EnteredIn law s) → (refused : Row) (m : Mover) (x y : Variable) (v w : Value)
      (next : Variable × Variable → Row) (a : Setting) → SettingIn law a → VariableIn law x → VariableIn law y → ValueIn law v → ValueIn law w
      → ((s : Setting) → SettingIn law s → OutcomeIn law (refused s))
      → ((p : Variable × Variable) (s : Setting) → VariableIn law p.0 → VariableIn law p.1 → SettingIn law s → OutcomeIn law (next p s))
      → OutcomeIn law (assigns_both refused m x y v w next a)
  w_both again refused m x y v w next a h gx gy gv gw r f =
      w_assigns refused x v _ a (again a h) h gx gv (r a h) (λ now s q z. w_moved_left m _ _ y _ s (again s z) gy
      (λ y' q'. w_assigns refused y' w _ s (again s z) z q' gw (r s z)
      (λ now' s' u z'. w_moved_right m _ _ now _ s' (again s' z') q (λ x' u'. f (x', now') s' u' u z'))))

  -- Reading and writing

  with_outside : (a : Setting) (outside : Outside) → SettingIn law a → OutsideIn law outside → SettingIn law (record a { outside = outside })
  with_outside a outside h g = search settings

  -- a reading at the end of the input takes nothing
  at_end : (asked : Request) (o : Outside) → nat_lt 0 (length o.left) ≡ false → law.parts.outside.Is o → law.parts.outside.Is (with_reading asked o)
  at_end asked o is h = subst law.parts.outside.Is (ap (λ l. record (with_reading asked o) { left = l }) (nothing o.left is)) (law.parts.outside.read o asked h)
    where
      nothing : (left : List ℕ) → nat_lt 0 (length left) ≡ false → drop (asked_of asked left) left ≡ left
      nothing [] is = drop-nil (asked_of asked [])
      nothing (x ∷ left) is = let le = ltb-false 0 (suc (length left)) is in absurd (omega arith)

  w_bytes : (n : ℕ) (next : Row) (a : Setting) → SettingIn law a → ((s : Setting) → SettingIn law s → OutcomeIn law (next s))
      → OutcomeIn law (costs_bytes n next a)
  w_bytes n next a h f = w_bytes_kept n next a h (λ s k same. f s k)

  w_line : (next : List ℕ → Row) (a : Setting) → SettingIn law a
      → ((line : List ℕ) (s : Setting) → SettingIn law s → OutcomeIn law (next line s)) → OutcomeIn law (next_line next a)
  w_line next a h f = by (nat_lt 0 (length a.outside.left)) refl
    where
      line : List ℕ
      line = take_while (λ byte. not (byte == 10)) a.outside.left

      read : Setting
      read = record a { outside = with_reading ALine a.outside }

      by : (t : Bool) → nat_lt 0 (length a.outside.left) ≡ t → OutcomeIn law (next_line next a)
      by false is = rw is (o_fails law read (with_outside a _ h (record { is = at_end ALine a.outside is h.is.outside })))
      by true is = rw is (w_bytes (length line) (next line) (having_left (drop (length line + 1) a.outside.left) read)
          (with_outside a _ h (record { is = law.parts.outside.read a.outside ALine h.is.outside })) (f line))

  w_some_bytes : (count : ℕ) (next : List ℕ → Row) (a : Setting) → SettingIn law a
      → ((bytes : List ℕ) (s : Setting) → SettingIn law s → OutcomeIn law (next bytes s)) → OutcomeIn law (next_bytes count next a)
  w_some_bytes count next a h f = by (nat_lt 0 (length bytes)) refl
    where
      bytes : List ℕ
      bytes = take count a.outside.left

      read : Setting
      read = record a { outside = with_reading (SomeBytes count) a.outside }

      taken : drop count a.outside.left ≡ drop (length bytes) a.outside.left
      taken = sym (drop_min count a.outside.left) ∙ ap (λ n. drop n a.outside.left) (sym (length-take count a.outside.left))

      none_taken : nat_lt 0 (length bytes) ≡ false → drop (length bytes) a.outside.left ≡ a.outside.left
      none_taken is = ap (λ n. drop n a.outside.left) (no_bytes (length bytes) is)
        where
          no_bytes : (n : ℕ) → nat_lt 0 n ≡ false → n ≡ 0
          no_bytes n is = let le = ltb-false 0 n is in omega arith

      left_so : (left : List ℕ) → drop count a.outside.left ≡ left → law.parts.outside.Is (record (with_reading (SomeBytes count) a.outside) { left = left })
      left_so left same = subst law.parts.outside.Is (ap (λ l. record (with_reading (SomeBytes count) a.outside) { left = l }) same)
          (law.parts.outside.read a.outside (SomeBytes count) h.is.outside)

      by : (t : Bool) → nat_lt 0 (length bytes) ≡ t → OutcomeIn law (next_bytes count next a)
      by false is = rw is (o_fails law read (with_outside a _ h (record { is = left_so a.outside.left (taken ∙ none_taken is) })))
      by true is = rw is (w_bytes (length bytes) (next bytes) (having_left (drop (length bytes) a.outside.left) read)
          (with_outside a _ h (record { is = left_so (drop (length bytes) a.outside.left) taken })) (f bytes))

  -- Opened files: a law says nothing of them

  with_other_file : (a : Setting) (n : ℕ) (file : OpenedFile) → SettingIn law a → SettingIn law (having_heap (with_opened n file) a)
  with_other_file a n file h = search settings

  with_new_file : (a : Setting) (file : OpenedFile) → SettingIn law a → SettingIn law (having_heap (having_file file) a)
  with_new_file a file h = search settings

  w_readable : (file : File) (v : Value) (next : Readable → Row) (a : Setting) → EnteredIn law a → ValueIn law v
      → ((from : Readable) → OutcomeIn law (next from a)) → OutcomeIn law (readable file v next a)
  w_readable file v next a e g f = w_present law (readable_of a.world.heap file) 212 (Some v) next a
      (o_error law 212 (Some v) a refl e (optional_some law v g)) (λ from is. f from)

  w_opened_line : (n : ℕ) (next : List ℕ → Row) (a : Setting) → SettingIn law a
      → ((line : List ℕ) (s : Setting) → SettingIn law s → OutcomeIn law (next line s)) → OutcomeIn law (next_opened_line n next a)
  w_opened_line n next a h f = by (nat_lt 0 (length left)) refl
    where
      left : List ℕ
      left = left_in (file_at a.world.heap n)

      line : List ℕ
      line = take_while (λ byte. not (byte == 10)) left

      by : (t : Bool) → nat_lt 0 (length left) ≡ t → OutcomeIn law (next_opened_line n next a)
      by false is = rw is (o_fails law a h)
      by true is = rw is (w_bytes (length line) (next line) (having_heap (read_on n (length line + 1)) a) (with_other_file a n _ h) (f line))

  w_opened_bytes : (n count : ℕ) (next : List ℕ → Row) (a : Setting) → SettingIn law a
      → ((bytes : List ℕ) (s : Setting) → SettingIn law s → OutcomeIn law (next bytes s)) → OutcomeIn law (next_opened_bytes n count next a)
  w_opened_bytes n count next a h f = by (nat_lt 0 (length bytes)) refl
    where
      bytes : List ℕ
      bytes = take count (left_in (file_at a.world.heap n))

      by : (t : Bool) → nat_lt 0 (length bytes) ≡ t → OutcomeIn law (next_opened_bytes n count next a)
      by false is = rw is (o_fails law a h)
      by true is = rw is (w_bytes (length bytes) (next bytes) (having_heap (read_on n (length bytes)) a) (with_other_file a n _ h) (f bytes))

  w_line_from : (from : Readable) (next : List ℕ → Row) (a : Setting) → SettingIn law a
      → ((line : List ℕ) (s : Setting) → SettingIn law s → OutcomeIn law (next line s)) → OutcomeIn law (line_from from next a)
  w_line_from FromInput next a h f = w_line next a h f
  w_line_from (FromOpened n) next a h f = w_opened_line n next a h f

  w_bytes_from : (count : ℕ) (from : Readable) (next : List ℕ → Row) (a : Setting) → SettingIn law a
      → ((bytes : List ℕ) (s : Setting) → SettingIn law s → OutcomeIn law (next bytes s)) → OutcomeIn law (bytes_from count from next a)
  w_bytes_from count FromInput next a h f = w_some_bytes count next a h f
  w_bytes_from count (FromOpened n) next a h f = w_opened_bytes n count next a h f

  w_lines : (file : File) (a : Setting) → EnteredIn law a → SettingIn law a → OutcomeIn law (lines_row file a)
  w_lines file a e h =
      let next : List ℕ → Row = λ line. suspends (Val (Text line)) (FileLines file) in
      w_readable file (Std file) (λ from. line_from from next) a e (value_file law file) (λ from. w_line_from from next a h
      (λ line s k. o_suspends law (Val (Text line)) (FileLines file) s (record { is = law.parts.values.text line }) (record { is = tt }) k))

  put_in : (file : File) (text : List ℕ) (a : Setting) → SettingIn law a → SettingIn law (put_on file text a)
  put_in Input text a h = h
  put_in Output text a h = with_outside a _ h (record { is = law.parts.outside.output a.outside text h.is.outside })
  put_in Errout text a h = with_outside a _ h (record { is = law.parts.outside.errors a.outside text h.is.outside })
  put_in (Opened n) text a h = with_other_file a n _ h

  put_all : (between : List ℕ) (is_first : Bool) (ps : List WriteArgument) (file : File) (a : Setting) → SettingIn law a
      → SettingIn law (put_pieces between is_first ps file a).1
  put_all between is_first [] file a h = h
  put_all between is_first (Puts text ∷ ps) file a h = put_all between false ps file (put_on file text a) (put_in file text a h)
  put_all between is_first (Selects other ∷ ps) file a h = put_all between false ps other (put_on file _ a) (put_in file _ a h)

  line_in : (line_end : List ℕ) (ps : List WriteArgument) (file : File) (a : Setting) → SettingIn law a → SettingIn law (line_put line_end true ps file a)
  line_in line_end ps file a h = put_in _ line_end _ (put_all line_end true ps file a h)

  written_in : (file : OpenedFile) (o : Outside) → law.parts.outside.Is o → law.parts.outside.Is (written_out file o)
  written_in file o h = by (is_open_to_write file) refl
    where
      by : (t : Bool) → is_open_to_write file ≡ t → law.parts.outside.Is (written_out file o)
      by true is = rw is (law.parts.outside.written o file.name file.content h)
      by false is = rw is h

  closing_in : (file : File) (a : Setting) → SettingIn law a → SettingIn law (closed_in file a)
  closing_in Input a h = h
  closing_in Output a h = h
  closing_in Errout a h = h
  closing_in (Opened n) a h = with_other_file _ n _
      (with_outside a _ h (record { is = written_in (file_at a.world.heap n) a.outside h.is.outside }))

  w_content : (mode : FileMode) (name : List ℕ) (next : List ℕ → Row) (a : Setting) → SettingIn law a
      → ((content : List ℕ) (s : Setting) → SettingIn law s → OutcomeIn law (next content s)) → OutcomeIn law (content_by mode name next a)
  w_content mode name next a h f = by mode
    where
      found : Setting
      found = record a { outside = with_file_reading name a.outside }

      found_so : SettingIn law found
      found_so = with_outside a _ h (record { is = law.parts.outside.found a.outside name h.is.outside })

      within : (content : List ℕ) → OutcomeIn law (fails_unless (nat_le (length content) most_bytes_of_opened) (next content) found)
      within content = w_passing law (nat_le (length content) most_bytes_of_opened) (next content) found found_so (f content found found_so)

      by : (m : FileMode) → OutcomeIn law (content_by m name next a)
      by ToRead = w_found law (a.outside.files name)
          (λ content. fails_unless (nat_le (length content) most_bytes_of_opened) (next content)) found found_so (λ content is. within content)
      by ToWrite = f [] a h
      by ToAdd = within (unwrap_or (a.outside.files name) [])

ruleset changes = (words, w_made, w_unless, w_reads, w_value, w_variable, w_stores, pairs_stored)

module _ (law : RowLaw) where
  -- Rows by what they take

  w_count : (last step : ℤ) (o : Option ℤ) (a : Setting) → SettingIn law a → OutcomeIn law (count_from last step o a)
  w_count last step None a h = o_fails law a h
  w_count last step (Some k) a h = search words

  w_sets : (f : List Value → List Value → List Value) (g : Bool → Bool → Bool) (v w : Value) (o : Option (ℕ × ℕ)) (a : Setting) → EnteredIn law a
      → SettingIn law a
      → ValueIn law v → ValueIn law w
      → ((xs ys : List Value) → ValuesIn law xs → ValuesIn law ys → ValuesIn law (f xs ys)) → OutcomeIn law (sets_or_csets f g v w o a)
  w_sets f g v w (Some ids) a e h p r q = search (words, q) depth 12
  w_sets f g v w None a e h p r q = search words

  -- the part of a text, or of the variable that holds it
  i_part_of : (x : Variable) (o : Option (List ℕ)) (text : List ℕ) (c d : ℕ) → VariableIn law x → ItemIn law (part_item (option_map (λ t. x) o) text c d)
  i_part_of x None text c d h = item_val law _ (value_text law _)
  i_part_of x (Some t) text c d h = item_var law _ (variable_part law x c d h)

  i_part : (x : Item) (v : Value) (text : List ℕ) (c d : ℕ) → ItemIn law x → ItemIn law (part_item (text_variable x v) text c d)
  i_part (Val u) v text c d h = item_val law _ (value_text law _)
  i_part (Var x) v text c d h = i_part_of x (held_text v) text c d (record { is = h.is })

  w_text_of : (x : Variable) (o : Option (List ℕ)) (v : Value) (text : List ℕ) (a : Setting) → EnteredIn law a → SettingIn law a → ValueIn law v
      → VariableIn law x
      → OutcomeIn law (text_elements (option_map (λ t. x) o) v text a)
  w_text_of x None v text a e h p g = search (words, w_made) depth 12
  w_text_of x (Some t) v text a e h p g = search (words, w_reads) depth 12

  w_text_elements : (x : Item) (v : Value) (text : List ℕ) (a : Setting) → EnteredIn law a → SettingIn law a → ValueIn law v → ItemIn law x
      → OutcomeIn law (text_elements (text_variable x v) v text a)
  w_text_elements (Val u) v text a e h p i = search (words, w_made) depth 12
  w_text_elements (Var x) v text a e h p i = w_text_of x (held_text v) v text a e h p (record { is = i.is })

  w_elements : (x : Item) (v : Value) (g : ValueGroup) (a : Setting) → EnteredIn law a → SettingIn law a → ValueIn law v → ItemIn law x
      → OutcomeIn law (elements_of x v g a)
  w_elements x v (Textual text) a e h p i = w_text_elements x v text a e h p i
  w_elements x v (Listed id) a e h p i = search words depth 12
  w_elements x v (Collected id) a e h p i = search words depth 12
  w_elements x v (Tabled id) a e h p i = search words depth 12
  w_elements x v (Recorded id) a e h p i = search words depth 12
  w_elements x v (Filed file) a e h p i = w_lines law file a e h
  w_elements x v (Activated id) a e h p i = search words depth 12
  w_elements x v Single a e h p i = search words depth 12

  w_random_of : (x : Item) (v : Value) (g : ValueGroup) (a : Setting) → EnteredIn law a → SettingIn law a → ValueIn law v → ItemIn law x
      → OutcomeIn law (random_of x v g a)
  w_random_of x v (Textual text) a e h p i = search (words, w_made, i_part) depth 12
  w_random_of x v (Listed id) a e h p i = search words depth 12
  w_random_of x v (Collected id) a e h p i = search words depth 12
  w_random_of x v (Tabled id) a e h p i = search words depth 12
  w_random_of x v (Recorded id) a e h p i = search words depth 12
  w_random_of x v (Filed file) a e h p i = search words depth 12
  w_random_of x v (Activated id) a e h p i = search words depth 12
  w_random_of x v Single a e h p i = search words depth 12

  w_random_number : (v : Value) (k : ℤ) (a : Setting) → EnteredIn law a → SettingIn law a → ValueIn law v → OutcomeIn law (random_number v k a)
  w_random_number v (pos k) a e h p = search words depth 12
  w_random_number v (negsuc k) a e h p = o_error law 205 (Some v) a refl e (optional_some law v p)

  w_random_by : (x : Item) (v : Value) (o : Option ℤ) (a : Setting) → EnteredIn law a → SettingIn law a → ValueIn law v → ItemIn law x
      → OutcomeIn law (random_by x v o a)
  w_random_by x v (Some k) a e h p i = w_random_number v k a e h p
  w_random_by x v None a e h p i = search w_random_of

  w_subscript : (x : Item) (v w : Value) (g : ValueGroup) (a : Setting) → EnteredIn law a → SettingIn law a → ItemIn law x → ValueIn law v → ValueIn law w
      → OutcomeIn law (subscript_of x v w g a)
  w_subscript x v w (Textual text) a e h i p q = search (words, w_made, i_part) depth 12
  w_subscript x v w (Listed id) a e h i p q = search words depth 12
  w_subscript x v w (Collected id) a e h i p q = search words depth 12
  w_subscript x v w (Tabled id) a e h i p q = search words depth 12
  w_subscript x v w (Recorded id) a e h i p q = search words depth 12
  w_subscript x v w (Filed file) a e h i p q = search words depth 12
  w_subscript x v w (Activated id) a e h i p q = search words depth 12
  w_subscript x v w Single a e h i p q = search words depth 12

  w_section : (f : ℤ → ℤ → Result ℤ Arith) (x : Item) (v u w : Value) (g : ValueGroup) (a : Setting) → EnteredIn law a → SettingIn law a → ItemIn law x
      → ValueIn law v
      → ValueIn law u → ValueIn law w
      → OutcomeIn law (section_of f x v u w g a)
  w_section f x v u w (Textual text) a e h i p q r = search (words, w_made, i_part) depth 14
  w_section f x v u w (Listed id) a e h i p q r = search words depth 14
  w_section f x v u w (Collected id) a e h i p q r = search words depth 12
  w_section f x v u w (Tabled id) a e h i p q r = search words depth 12
  w_section f x v u w (Recorded id) a e h i p q r = search words depth 12
  w_section f x v u w (Filed file) a e h i p q r = search words depth 12
  w_section f x v u w (Activated id) a e h i p q r = search words depth 12
  w_section f x v u w Single a e h i p q r = search words depth 12

  -- a copy of a record that is there
  w_copied : (id : ℕ) (a : Setting) → SettingIn law a → law.parts.records.There a.world.heap.records id
      → OutcomeIn law (new_record_of (record_at a.world.heap id) (λ copy. gives_value copy) a)
  w_copied id a h t =
      let more : RecordsIn law (a.world.heap.records ++ record_at a.world.heap id ∷ []) =
      records_copied law a.world.heap.records id t (of_records law a h) in
      search (words, more) depth 12

  w_copy : (v : Value) (a : Setting) → SettingIn law a → ValueIn law v → MayCopy law a.world.heap v → OutcomeIn law (copy_of v (group_of v) a)
  w_copy Null a h q t = search words depth 12
  w_copy (Integer n) a h q t = search words depth 12
  w_copy (Text text) a h q t = search words depth 12
  w_copy (Chars bytes) a h q t = search words depth 12
  w_copy (Std file) a h q t = search words depth 12
  w_copy (Procedure number) a h q t = search words depth 12
  w_copy (ARecord id) a h q t = w_copied id a h t
  w_copy (AList id) a h q t = search words depth 12
  w_copy (ASet id) a h q t = search words depth 12
  w_copy (ATable id) a h q t = search words depth 12
  w_copy (ACoexp id) a h q t = search words depth 12

  w_new_set : (v : Value) (o : Option ℕ) (a : Setting) → EnteredIn law a → SettingIn law a → ValueIn law v → OutcomeIn law (new_set_by v o a)
  w_new_set v (Some id) a e h p = search words depth 12
  w_new_set v None a e h p = search words depth 12

  w_inserts : (c : Keeper) (x y : Value) (next : Row) (a : Setting) → SettingIn law a → ValueIn law x → ValueIn law y
      → ((s : Setting) → SettingIn law s → OutcomeIn law (next s))
      → OutcomeIn law (inserts c x y next a)
  w_inserts (SetKeeper id) x y next a h q u f = search (words, w_unless, f) depth 12
  w_inserts (TableKeeper id) x y next a h q u f = w_stores law id x y next a h q u f

  each_removed : (test : Value → Bool) (ps : List (Value × Value)) → Each (PairBy (ValueBy law)) ps → Each (PairBy (ValueBy law)) (remove_entry test ps)
  each_removed test [] h = tt
  each_removed test (p ∷ ps) h = by (test p.0) (each_removed test ps h.1)
    where
      by : (b : Bool) → Each (PairBy (ValueBy law)) (remove_entry test ps) → Each (PairBy (ValueBy law)) (cond b ps (p ∷ remove_entry test ps))
      by true q = h.1
      by false q = (h.0, q)

  ps_removed : (test : Value → Bool) (ps : List (Value × Value)) → PairsIn law ps → PairsIn law (remove_entry test ps)
  ps_removed test ps h = record { is = each_removed test ps h.is }

  s_without : (a : Setting) (c : Keeper) (x : Value) → SettingIn law a → SettingIn law (having_heap (without_key c x) a)
  s_without a (SetKeeper id) x h = search (words) depth 12
  s_without a (TableKeeper id) x h = search (words, ps_removed) depth 12

  w_pairs : (ps : List (Value × Value)) (next : List Value → Row) (a : Setting) → SettingIn law a → PairsIn law ps
      → ((vs : List Value) (s : Setting) → ValuesIn law vs → SettingIn law s → OutcomeIn law (next vs s)) → OutcomeIn law (pair_lists ps next a)
  w_pairs [] next a h g f = f [] a (values_nil law) h
  w_pairs (p ∷ ps) next a h g f =
      let first : ValueIn law p.0 = record { is = g.is.0.0 } in
      let second : ValueIn law p.1 = record { is = g.is.0.1 } in
      let others : PairsIn law ps = record { is = g.is.1 } in
      search (words, w_pairs ps, f) depth 14

  w_pieces : (heap : Heap) (vs : List Value) (next : List WriteArgument → Row) (a : Setting) → EnteredIn law a → SettingIn law a → ValuesIn law vs
      → ((ps : List WriteArgument) → OutcomeIn law (next ps a)) → OutcomeIn law (pieces heap vs next a)
  w_pieces heap [] next a e h g f = f []
  w_pieces heap (v ∷ vs) next a e h g f =
      let first : ValueIn law v = record { is = g.is.0 } in
      let others : ValuesIn law vs = record { is = g.is.1 } in
      search (words, w_pieces heap vs, f)

  w_puts : (line_end : List ℕ) (file : File) (vs : List Value) (next : Row) (a : Setting) → EnteredIn law a → SettingIn law a → ValuesIn law vs
      → ((s : Setting) → SettingIn law s → OutcomeIn law (next s)) → OutcomeIn law (puts_line line_end file vs next a)
  w_puts line_end file vs next a e h g f =
      w_pieces a.world.heap vs (λ ps s. next (line_put line_end true ps file s)) a e h g (λ ps. f _ (line_in law line_end ps file a h))

module _ (law : RowLaw) where
  w_read : (vs : List Value) (a : Setting) → EnteredIn law a → SettingIn law a → ValuesIn law vs → OutcomeIn law (read_row vs a)
  w_read vs a e h g =
      let v = arg_or (Std Input) vs 0 in
      let next : List ℕ → Row = λ line. gives_value (Text line) in
      let given : ValueIn law (arg vs 0) = value_at_index law vs 0 g in
      let from_file : ValueIn law v = value_if law (is_null (arg vs 0)) (Std Input) (arg vs 0) (value_file law Input) given in
      w_present law (file_of v) 105 (Some v) (λ named. readable named (arg vs 0) (λ from. line_from from next)) a
      (o_error law 105 (Some v) a refl e (optional_some law v from_file)) (λ named is.
      w_readable law named (arg vs 0) (λ from. line_from from next) a e given (λ from.
      w_line_from law from next a h (λ line s k. o_gives law (Val (Text line)) s (item_val law (Text line) (value_text law line)) k)))

  w_reads_row : (vs : List Value) (a : Setting) → EnteredIn law a → SettingIn law a → ValuesIn law vs → OutcomeIn law (reads_row vs a)
  w_reads_row vs a e h g =
      let v = arg_or (Std Input) vs 0 in
      let w = arg_or (Integer (pos 1)) vs 1 in
      let next : List ℕ → Row = λ bytes. gives_value (Text bytes) in
      let read : File → ℕ → Row = λ named count. readable named (arg vs 0) (λ from. bytes_from count from next) in
      let test : File → ℕ → Row = λ named count. check (nat_lt 0 count) 205 (Some (arg vs 1)) (read named count) in
      let first : ValueIn law (arg vs 0) = value_at_index law vs 0 g in
      let second : ValueIn law (arg vs 1) = value_at_index law vs 1 g in
      let from_file : ValueIn law v = value_if law (is_null (arg vs 0)) (Std Input) (arg vs 0) (value_file law Input) first in
      let many : ValueIn law w = value_if law (is_null (arg vs 1)) (Integer (pos 1)) (arg vs 1) (value_integer law (pos 1)) second in
      w_present law (file_of v) 105 (Some v) (λ named. present (integer_of w) 101 (Some w) (λ n. natural n (arg vs 1) (test named))) a
      (o_error law 105 (Some v) a refl e (optional_some law v from_file)) (λ named is.
      w_present law (integer_of w) 101 (Some w) (λ n. natural n (arg vs 1) (test named)) a
      (o_error law 101 (Some w) a refl e (optional_some law w many)) (λ n is.
      w_natural law n (arg vs 1) (test named) a e second (λ count.
      w_check law (nat_lt 0 count) 205 (Some (arg vs 1)) (read named count) a
      (o_error law 205 (Some (arg vs 1)) a refl e (optional_some law (arg vs 1) second))
      (w_readable law named (arg vs 0) (λ from. bytes_from count from next) a e first (λ from.
      w_bytes_from law count from next a h
      (λ bytes s k. o_gives law (Val (Text bytes)) s (item_val law (Text bytes) (value_text law bytes)) k))))))

  last_value : (vs : List Value) → ValuesIn law vs → ItemIn law (Val (last_of vs))
  last_value vs g = item_val law (last_of vs) (value_at_index law vs (length vs - 1) g)

  w_write : (vs : List Value) (a : Setting) → EnteredIn law a → SettingIn law a → ValuesIn law vs → OutcomeIn law (write_row vs a)
  w_write vs a e h g = w_puts law newline Output vs (gives_value (last_of vs)) a e h g (λ s k. o_gives law (Val (last_of vs)) s (last_value vs g) k)

  w_writes : (vs : List Value) (a : Setting) → EnteredIn law a → SettingIn law a → ValuesIn law vs → OutcomeIn law (writes_row vs a)
  w_writes vs a e h g = w_puts law [] Output vs (gives_value (last_of vs)) a e h g (λ s k. o_gives law (Val (last_of vs)) s (last_value vs g) k)

  w_stop : (vs : List Value) (a : Setting) → EnteredIn law a → SettingIn law a → ValuesIn law vs → OutcomeIn law (stop_row vs a)
  w_stop vs a e h g = w_puts law newline Errout vs (ends 1) a e h g (λ s k. o_ends law 1 s k)

  w_proc : (names : Names) (vs : List Value) (a : Setting) → SettingIn law a → MayName law names (value_at vs 0) → OutcomeIn law (proc_row names vs a)
  w_proc names vs a h p = w_found law (procedure_of names (arg vs 0)) (λ number. gives_value (Procedure number)) a h
      (λ number is. o_gives law (Val (Procedure number)) a (item_val law (Procedure number) (record { is = p number is })) h)

  w_close : (vs : List Value) (a : Setting) → EnteredIn law a → SettingIn law a → ValuesIn law vs → OutcomeIn law (close_row vs a)
  w_close vs a e h g =
      let v = arg vs 0 in
      let given : ValueIn law v = value_at_index law vs 0 g in
      w_present law (file_of v) 105 (Some v) (λ file s. gives_value (Std file) (closed_in file s)) a
      (o_error law 105 (Some v) a refl e (optional_some law v given)) (λ file is.
      o_gives law (Val (Std file)) (closed_in file a) (item_val law (Std file) (value_file law file)) (closing_in law file a h))

  w_new_file : (file : OpenedFile) (next : Value → Row) (a : Setting) → SettingIn law a
      → ((n : ℕ) (s : Setting) → SettingIn law s → OutcomeIn law (next (Std (Opened n)) s)) → OutcomeIn law (new_file_of file next a)
  w_new_file file next a h f = by (nat_le (a.world.heap.cells + 1) a.world.heap.bounds.cells) refl
    where
      paid : Setting
      paid = having_heap (λ heap. record heap { cells = heap.cells + 1 }) a

      paid_so : SettingIn law paid
      paid_so = search settings

      by : (t : Bool) → nat_le (a.world.heap.cells + 1) a.world.heap.bounds.cells ≡ t → OutcomeIn law (new_file_of file next a)
      by false is = rw is (o_cells law a h)
      by true is = rw is (f (length a.world.heap.files) (having_heap (having_file file) paid) (with_new_file law paid file paid_so))

  w_opens : (mode : FileMode) (name : List ℕ) (a : Setting) → SettingIn law a
      → OutcomeIn law (content_by mode name (λ content. new_file_of (new_file name mode content) (λ opened. gives_value opened)) a)
  w_opens mode name a h = w_content law mode name (λ content. new_file_of (new_file name mode content) (λ opened. gives_value opened)) a h
      (λ content s k. w_new_file (new_file name mode content) (λ opened. gives_value opened) s k
      (λ n now q. o_gives law (Val (Std (Opened n))) now (item_val law (Std (Opened n)) (value_file law (Opened n))) q))

  w_open : (vs : List Value) (a : Setting) → EnteredIn law a → SettingIn law a → ValuesIn law vs → OutcomeIn law (open_row vs a)
  w_open vs a e h g = search (changes, w_opens) depth 16

  w_table_sorted : (names : Names) (heap : Heap) (ps : List (Value × Value)) (k : ℤ) (v : Value) (a : Setting) → EnteredIn law a → SettingIn law a
      → ValueIn law v
      → PairsIn law ps
      → OutcomeIn law (table_sorted names heap ps k v a)
  w_table_sorted names heap ps (pos (suc zero)) v a e h p g = search (words, w_pairs) depth 12
  w_table_sorted names heap ps (pos (suc (suc zero))) v a e h p g = search (words, w_pairs) depth 12
  w_table_sorted names heap ps (pos (suc (suc (suc zero)))) v a e h p g = search words depth 12
  w_table_sorted names heap ps (pos (suc (suc (suc (suc zero))))) v a e h p g = search words depth 12
  w_table_sorted names heap ps k v a e h p g = o_error law 205 (Some v) a refl e (optional_some law v p)

  w_sorted : (names : Names) (v : Value) (k : ℤ) (w : Value) (g : ValueGroup) (a : Setting) → EnteredIn law a → SettingIn law a → ValueIn law v → ValueIn law w
      → OutcomeIn law (sorted_of names v k w g a)
  w_sorted names v k w (Textual text) a e h p q = search words depth 12
  w_sorted names v k w (Listed id) a e h p q = search words depth 12
  w_sorted names v k w (Collected id) a e h p q = search words depth 12
  w_sorted names v k w (Tabled id) a e h p q = search (words, w_table_sorted) depth 12
  w_sorted names v k w (Recorded id) a e h p q = search words depth 12
  w_sorted names v k w (Filed file) a e h p q = search words depth 12
  w_sorted names v k w (Activated id) a e h p q = search words depth 12
  w_sorted names v k w Single a e h p q = search words depth 12

ruleset rows =
    (changes, w_assigns, w_count, w_sets, i_part, w_elements, w_random_by, w_subscript, w_section, w_new_set, w_inserts, s_without, w_sorted, w_pieces)

module _ (law : RowLaw) where
  w_operation : (op : Op) (x y z : Item) (a : Setting) → (is_exchange op ≡ true → IsOne law) → EnteredIn law a → SettingIn law a → ItemIn law x → ItemIn law y
      → ItemIn law z → OutcomeIn law (operation_on op x y z a)
  w_operation Ops.IsNull x y z a o e h i j k = search rows depth 16
  w_operation Ops.IsNotNull x y z a o e h i j k = search rows depth 16
  w_operation Ops.Dereference x y z a o e h i j k = search rows depth 16
  w_operation Ops.Number x y z a o e h i j k = search rows depth 16
  w_operation Ops.Negate x y z a o e h i j k = search rows depth 16
  w_operation Ops.Size x y z a o e h i j k = search rows depth 16
  w_operation Ops.Complement x y z a o e h i j k = search rows depth 16
  w_operation Ops.Elements x y z a o e h i j k = search rows depth 16
  w_operation Ops.Random x y z a o e h i j k = search rows depth 16
  w_operation Ops.TabMatch x y z a o e h i j k = search rows depth 16
  w_operation Ops.Refresh x y z a o e h i j k = search rows depth 16
  w_operation Ops.Add x y z a o e h i j k = search rows depth 16
  w_operation Ops.Subtract x y z a o e h i j k = search rows depth 16
  w_operation Ops.Multiply x y z a o e h i j k = search rows depth 16
  w_operation Ops.Divide x y z a o e h i j k = search rows depth 16
  w_operation Ops.Remainder x y z a o e h i j k = search rows depth 16
  w_operation Ops.Power x y z a o e h i j k = search rows depth 16
  w_operation Ops.Less x y z a o e h i j k = search rows depth 16
  w_operation Ops.LessOrEqual x y z a o e h i j k = search rows depth 16
  w_operation Ops.Equal x y z a o e h i j k = search rows depth 16
  w_operation Ops.GreaterOrEqual x y z a o e h i j k = search rows depth 16
  w_operation Ops.Greater x y z a o e h i j k = search rows depth 16
  w_operation Ops.NotEqual x y z a o e h i j k = search rows depth 16
  w_operation Ops.LexicallyLess x y z a o e h i j k = search rows depth 16
  w_operation Ops.LexicallyLessOrEqual x y z a o e h i j k = search rows depth 16
  w_operation Ops.LexicallyEqual x y z a o e h i j k = search rows depth 16
  w_operation Ops.LexicallyGreaterOrEqual x y z a o e h i j k = search rows depth 16
  w_operation Ops.LexicallyGreater x y z a o e h i j k = search rows depth 16
  w_operation Ops.LexicallyNotEqual x y z a o e h i j k = search rows depth 16
  w_operation Ops.Equivalent x y z a o e h i j k = search rows depth 16
  w_operation Ops.NotEquivalent x y z a o e h i j k = search rows depth 16
  w_operation Ops.Concatenate x y z a o e h i j k = search rows depth 16
  w_operation Ops.ConcatenateLists x y z a o e h i j k = search rows depth 16
  w_operation Ops.Union x y z a o e h i j k = search rows depth 16
  w_operation Ops.Difference x y z a o e h i j k = search rows depth 16
  w_operation Ops.Intersection x y z a o e h i j k = search rows depth 16
  w_operation Ops.Assign x y z a o e h i j k = search rows depth 16
  w_operation Ops.Swap x y z a o e h i j k =
      let both = w_both law (λ s k. record { is = o refl s k.is }) in search (rows, both) depth 16
  w_operation Ops.ReversibleAssign x y z a o e h i j k = search rows depth 16
  w_operation Ops.ReversibleSwap x y z a o e h i j k =
      let both = w_both law (λ s k. record { is = o refl s k.is }) in search (rows, both) depth 16
  w_operation Ops.Subscript x y z a o e h i j k = search rows depth 16
  w_operation Ops.Section x y z a o e h i j k = search rows depth 16
  w_operation Ops.SectionPlus x y z a o e h i j k = search rows depth 16
  w_operation Ops.SectionMinus x y z a o e h i j k = search rows depth 16
  w_operation Ops.ToBy x y z a o e h i j k = search rows depth 16

  w_function : (names : Names) (f : Func) (vs : List Value) (a : Setting) → EnteredIn law a → SettingIn law a → ValuesIn law vs
      → (f ≡ Funcs.Copy → MayCopy law a.world.heap (value_at vs 0)) → (f ≡ Funcs.Proc → MayName law names (value_at vs 0))
      → OutcomeIn law (function_of names f vs a)
  w_function names Funcs.Abs vs a e h g t p = search rows depth 16
  w_function names Funcs.Any vs a e h g t p = search rows depth 16
  w_function names Funcs.Bal vs a e h g t p = search rows depth 16
  w_function names Funcs.Center vs a e h g t p = search rows depth 16
  w_function names Funcs.Char vs a e h g t p = search rows depth 16
  w_function names Funcs.Copy vs a e h g t p = w_copy law (value_at vs 0) a h (value_at_index law vs 0 g) (t refl)
  w_function names Funcs.Cset vs a e h g t p = search rows depth 16
  w_function names Funcs.Delete vs a e h g t p = search rows depth 16
  w_function names Funcs.Exit vs a e h g t p = search rows depth 16
  w_function names Funcs.Find vs a e h g t p = search rows depth 16
  w_function names Funcs.Get vs a e h g t p = search rows depth 16
  w_function names Funcs.Iand vs a e h g t p = search rows depth 16
  w_function names Funcs.Icom vs a e h g t p = search rows depth 16
  w_function names Funcs.Image vs a e h g t p = search rows depth 16
  w_function names Funcs.Insert vs a e h g t p = search rows depth 16
  w_function names Funcs.Integer vs a e h g t p = search rows depth 16
  w_function names Funcs.Ior vs a e h g t p = search rows depth 16
  w_function names Funcs.Ishift vs a e h g t p = search rows depth 16
  w_function names Funcs.Ixor vs a e h g t p = search rows depth 16
  w_function names Funcs.Key vs a e h g t p = search rows depth 16
  w_function names Funcs.Left vs a e h g t p = search rows depth 16
  w_function names Funcs.List vs a e h g t p = search rows depth 16
  w_function names Funcs.Many vs a e h g t p = search rows depth 16
  w_function names Funcs.Map vs a e h g t p = search rows depth 16
  w_function names Funcs.Match vs a e h g t p = search rows depth 16
  w_function names Funcs.Member vs a e h g t p = search rows depth 16
  w_function names Funcs.Move vs a e h g t p = search rows depth 16
  w_function names Funcs.Numeric vs a e h g t p = search rows depth 16
  w_function names Funcs.Ord vs a e h g t p = search rows depth 16
  w_function names Funcs.Pop vs a e h g t p = search rows depth 16
  w_function names Funcs.Pos vs a e h g t p = search rows depth 16
  w_function names Funcs.Pull vs a e h g t p = search rows depth 16
  w_function names Funcs.Push vs a e h g t p = search rows depth 16
  w_function names Funcs.Put vs a e h g t p = search rows depth 16
  w_function names Funcs.Read vs a e h g t p = w_read law vs a e h g
  w_function names Funcs.Reads vs a e h g t p = w_reads_row law vs a e h g
  w_function names Funcs.Repl vs a e h g t p = search rows depth 16
  w_function names Funcs.Reverse vs a e h g t p = search rows depth 16
  w_function names Funcs.Right vs a e h g t p = search rows depth 16
  w_function names Funcs.Seq vs a e h g t p = search rows depth 16
  w_function names Funcs.Set vs a e h g t p = search rows depth 16
  w_function names Funcs.Sort vs a e h g t p = search rows depth 16
  w_function names Funcs.Stop vs a e h g t p = w_stop law vs a e h g
  w_function names Funcs.String vs a e h g t p = search rows depth 16
  w_function names Funcs.Tab vs a e h g t p = search rows depth 16
  w_function names Funcs.Table vs a e h g t p = search rows depth 16
  w_function names Funcs.Trim vs a e h g t p = search rows depth 16
  w_function names Funcs.TypeOf vs a e h g t p = search rows depth 16
  w_function names Funcs.Upto vs a e h g t p = search rows depth 16
  w_function names Funcs.Write vs a e h g t p = w_write law vs a e h g
  w_function names Funcs.Writes vs a e h g t p = w_writes law vs a e h g
  w_function names Funcs.ErrorClear vs a e h g t p = search rows depth 16
  w_function names Funcs.Open vs a e h g t p = w_open law vs a e h g
  w_function names Funcs.Close vs a e h g t p = w_close law vs a e h g
  w_function names Funcs.Proc vs a e h g t p = w_proc law names vs a h (p refl)
  w_function names Funcs.Args vs a e h g t p = search rows depth 16

  w_again : (r : Residual) (a : Setting) → (undoes_exchange r ≡ true → IsOne law) → EnteredIn law a → SettingIn law a → ResidualIn law r
      → OutcomeIn law (again r a)
  w_again (TextBytes text place) a o e h g = search rows depth 16
  w_again (VariableBytes x place) a o e h g = let xs : VariableIn law x = record { is = g.is } in search rows depth 16
  w_again (ListItems id place) a o e h g = search rows depth 16
  w_again (SetMembers id place) a o e h g = search rows depth 16
  w_again (TableValues id place) a o e h g = search rows depth 16
  w_again (TableKeys id place) a o e h g = search rows depth 16
  w_again (RecordFields id place) a o e h g = search rows depth 16
  w_again (FileLines file) a o e h g = w_lines law file a e h
  w_again (UndoAssign x old) a o e h g =
      let xs : VariableIn law x = record { is = g.is.0 } in
      let vs : ValueIn law old = record { is = g.is.1 } in
      search rows depth 16
  w_again (UndoExchange m x y v w) a o e h g =
      let xs : VariableIn law x = record { is = g.is.0 } in
      let ys : VariableIn law y = record { is = g.is.1.0 } in
      let vs : ValueIn law v = record { is = g.is.1.1.0 } in
      let ws : ValueIn law w = record { is = g.is.1.1.1 } in
      let back : (s : Setting) → SettingIn law s → EnteredIn law s = λ s k. record { is = o refl s k.is } in
      let both = w_both law back in
      search (rows, both, back) depth 16
  w_again (UndoPosition old) a o e h g = search rows depth 16
  w_again (Counting k last step) a o e h g = search rows depth 16
  w_again (Sequence k step) a o e h g = search rows depth 16
  w_again (Balanced c d b text place last) a o e h g = search rows depth 16
  w_again (Found wanted text place last) a o e h g = search rows depth 16
  w_again (Among bytes text place last) a o e h g = search rows depth 16

  -- operands that are missing are null
  i_operand : (xs : List Item) (k : ℕ) → Each (ItemBy (ValueBy law)) xs → ItemIn law (operand xs k)
  i_operand [] k h = record { is = law.parts.values.null }
  i_operand (x ∷ xs) zero h = record { is = h.0 }
  i_operand (x ∷ xs) (suc k) h = i_operand xs k h.1

  vs_texts : (words : List (List ℕ)) → ValuesIn law (text_values words)
  vs_texts [] = record { is = tt }
  vs_texts (word ∷ words) = record { is = (law.parts.values.text word, (vs_texts words).is) }

  w_list : (vs : List Value) (a : Setting) → SettingIn law a → ValuesIn law vs → OutcomeIn law (list_row vs a)
  w_list vs a h g = search rows depth 12

  w_record : (kind : ℕ) (vs : List Value) (a : Setting) → SettingIn law a → law.parts.records.New (record { kind = kind; fields = vs })
      → OutcomeIn law (record_row kind vs a)
  w_record kind vs a h l =
      let made : Record = record { kind = kind; fields = vs } in
      let more : RecordsIn law (a.world.heap.records ++ made ∷ []) = records_more law a.world.heap.records made (of_records law a h) l in
      search (words, more) depth 12

  w_text : (v : Value) (a : Setting) → EnteredIn law a → SettingIn law a → ValueIn law v → OutcomeIn law (text_row v a)
  w_text v a e h g = search rows depth 12

  w_words : (words : List (List ℕ)) (a : Setting) → SettingIn law a → OutcomeIn law (words_row words a)
  w_words words a h = search (rows, vs_texts) depth 14

  w_coexpression : (locals : ℕ) (a : Setting) → SettingIn law a → ValueIn law (ACoexp (length a.world.heap.coexps))
      → CountsIn law (a.world.heap.coexps ++ zero ∷ []) → OutcomeIn law (coexpression_row locals a)
  w_coexpression locals a h made more = search words depth 12

  -- each row, as the law has it

  pub operation_comes : (op : Op) (items : List Item) (a : Setting) → (is_exchange op ≡ true → IsOne law) → law.Entered a
      → Each (ItemBy (ValueBy law)) items → law.Comes (operation_row op items a)
  operation_comes op items a o e g =
      (w_operation op (operand items 0) (operand items 1) (operand items 2) a o (record { is = e }) (record { is = law.entered a e }) (i_operand items 0 g)
      (i_operand items 1 g) (i_operand items 2 g)).is

  pub values_come : (items : List Item) (next : List Value → Row) (a : Setting) → law.Entered a → Each (ItemBy (ValueBy law)) items
      → ((vs : List Value) → Each (ValueBy law) vs → law.Comes (next vs a)) → law.Comes (the_values items next a)
  values_come items next a e g f =
      (w_values law items next a (record { is = e }) (record { is = law.entered a e }) g (λ vs q. record { is = f vs q.is })).is

  pub function_comes : (names : Names) (f : Func) (vs : List Value) (a : Setting) → law.Entered a → Each (ValueBy law) vs
      → (f ≡ Funcs.Copy → MayCopy law a.world.heap (value_at vs 0)) → (f ≡ Funcs.Proc → MayName law names (value_at vs 0))
      → law.Comes (function_of names f vs a)
  function_comes names f vs a e g t p = (w_function names f vs a (record { is = e }) (record { is = law.entered a e }) (record { is = g }) t p).is

  pub resumed_comes : (r : Residual) (a : Setting) → (undoes_exchange r ≡ true → IsOne law) → law.Entered a → ResidualBy (ValueBy law) r → law.Comes (again r a)
  resumed_comes r a o e g = (w_again r a o (record { is = e }) (record { is = law.entered a e }) (record { is = g })).is

  pub list_comes : (vs : List Value) (a : Setting) → law.Entered a → Each (ValueBy law) vs → law.Comes (list_row vs a)
  list_comes vs a e g = (w_list vs a (record { is = law.entered a e }) (record { is = g })).is

  pub record_comes : (kind : ℕ) (vs : List Value) (a : Setting) → law.Entered a → law.parts.records.New (record { kind = kind; fields = vs })
      → law.Comes (record_row kind vs a)
  record_comes kind vs a e l = (w_record kind vs a (record { is = law.entered a e }) l).is

  pub text_comes : (v : Value) (a : Setting) → law.Entered a → ValueBy law v → law.Comes (text_row v a)
  text_comes v a e g = (w_text v a (record { is = e }) (record { is = law.entered a e }) (record { is = g })).is

  pub words_come : (words : List (List ℕ)) (a : Setting) → law.Entered a → law.Comes (words_row words a)
  words_come words a e = (w_words words a (record { is = law.entered a e })).is

  pub coexpression_comes : (locals : ℕ) (a : Setting) → law.Entered a → ValueBy law (ACoexp (length a.world.heap.coexps))
      → law.parts.CountsAre (a.world.heap.coexps ++ zero ∷ []) → law.Comes (coexpression_row locals a)
  coexpression_comes locals a e made more = (w_coexpression locals a (record { is = law.entered a e }) (record { is = made }) (record { is = more })).is
