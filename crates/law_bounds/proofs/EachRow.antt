-- No row looks at the bound of turns: one line a row.
use Rattle.std.proofs.Common.{ℕ, zero, suc, Bool, List, [], ◌∷◌, Option, Some, None, refl, ap}
use Rattle.std.specs.Prelude.{ℤ, pos, negsuc, Result}
use Rattle.icn_text.specs.declared.arithmetic.Arith.{Arith}
use Rattle.icn_text.specs.declared.op.Op.{Op}
use Rattle.icn_text.specs.declared.op.Op.TheVariants as Ops
use Rattle.icn_text.specs.declared.func.Func.{Func}
use Rattle.icn_text.specs.declared.func.Func.TheVariants as Funcs
use Rattle.icn_value.specs.Values.{Value, Integer, Text, Variable, Item}
use Rattle.icn_value.specs.Store.{Heap, Names, Record, Table, list_at, record_at, set_at, table_at}
use Rattle.icn_defs.specs.Applying.{again, function_of, function_row, operand, operation_on, operation_row}
use Rattle.icn_defs.specs.Arguments.{Keeper, SetKeeper, TableKeeper, arg, keeper_of}
use Rattle.icn_defs.specs.Arithmetic.{count_from}
use Rattle.icn_defs.specs.Conversions.{ValueGroup, Textual, Listed, Collected, Tabled, Recorded, Filed, Activated, Single, group_of}
use Rattle.icn_defs.specs.Elements.{elements_of, picks, random_by, random_number, random_of, text_elements, text_variable}
use Rattle.icn_defs.specs.Operations.{new_set_of, sets_or_csets, size_row}
use Rattle.icn_defs.specs.Rows.{Row, Residual, TextBytes, VariableBytes, ListItems, SetMembers, TableValues, TableKeys, RecordFields, FileLines, UndoAssign, UndoExchange, UndoPosition, Counting, Sequence, Balanced, Found, Among, builds, fails_unless, gives_list, gives_value, present}
use Rattle.icn_defs.specs.Running.{words_row}
use Rattle.icn_defs.specs.Scanning.{SearchedText, ends_of, region_from, tabs_to}
use Rattle.icn_defs.specs.StepRows.{coexpression_row, list_row, record_row, text_row, value_row}
use Rattle.icn_defs.specs.Strings.{image_row, type_row}
use Rattle.icn_defs.specs.Structures.{copy_of, delete_row, inserts, member_row, new_record_of, new_set_by, new_table_of, pair_lists, sorted_of, table_sorted}
use Rattle.icn_defs.specs.Variables.{element_position, places, positions, section_of, subscript_of}
use Rattle.law_bounds.proofs.HeapViews.{has_alike, image_alike, size_alike, table_alike, type_alike, values_alike, without_alike}
use Rattle.law_bounds.proofs.RowWords.{Overlooks, words, o_fails, o_value, w_builds, w_heap, w_here, w_list, w_passing, w_present, w_stores, w_unless, w_value, w_values}

module _ (b : ℕ) where
  -- What rows go on with

  w_count : (last step : ℤ) (o : Option ℤ) → Overlooks b (count_from last step o)
  w_count last step None = o_fails b
  w_count last step (Some n) = search words

  w_new_set : (items : List Value) (next : Value → Row) → ((v : Value) → Overlooks b (next v)) → Overlooks b (new_set_of items next)
  w_new_set items next f = search (words, f) depth 12

  w_new_table : (table : Table) (next : Value → Row) → ((v : Value) → Overlooks b (next v)) → Overlooks b (new_table_of table next)
  w_new_table table next f = search (words, f) depth 12

  w_new_record : (structure : Record) (next : Value → Row) → ((v : Value) → Overlooks b (next v)) → Overlooks b (new_record_of structure next)
  w_new_record structure next f = search (words, f) depth 12

  w_picks : (size : ℕ) (next : ℕ → Row) → ((k : ℕ) → Overlooks b (next k)) → Overlooks b (picks size next)
  w_picks size next f = search (words, f) depth 12

  w_element_position : (n : ℤ) (size : ℕ) (next : ℕ → Row) → ((k : ℕ) → Overlooks b (next k)) → Overlooks b (element_position n size next)
  w_element_position n size next f = search (words, f)

  w_places : (m n : ℤ) (size : ℕ) (next : ℕ × ℕ → Row) → ((p : ℕ × ℕ) → Overlooks b (next p)) → Overlooks b (places m n size next)
  w_places m n size next f = search (words, f)

  w_positions : (second : ℤ → ℤ → Result ℤ Arith) (u w : Value) (next : ℤ × ℤ → Row) → ((p : ℤ × ℤ) → Overlooks b (next p))
      → Overlooks b (positions second u w next)
  w_positions second u w next f = search (words, f) depth 12

  w_region : (vs : List Value) (n : ℕ) (next : SearchedText → Row) → ((s : SearchedText) → Overlooks b (next s)) → Overlooks b (region_from vs n next)
  w_region vs n next f = search (words, f) depth 14

  w_ends : (s : SearchedText) (next : ℕ × ℕ → Row) → ((p : ℕ × ℕ) → Overlooks b (next p)) → Overlooks b (ends_of s next)
  w_ends s next f = w_places s.first s.last _ _ f

  w_tabs : (place : ℕ) → Overlooks b (tabs_to place)
  w_tabs place = search words depth 12

  w_inserts : (c : Keeper) (key value : Value) (next : Row) → Overlooks b next → Overlooks b (inserts c key value next)
  w_inserts (SetKeeper id) key value next f = w_here b _ (λ a. refl) (λ a. w_unless b _ _ (w_heap b _ _ (λ h. refl) f))
  w_inserts (TableKeeper id) key value next f = w_stores b id key value next f

  w_pairs : (pairs : List (Value × Value)) (next : List Value → Row) → ((vs : List Value) → Overlooks b (next vs)) → Overlooks b (pair_lists pairs next)
  w_pairs [] next f = f []
  w_pairs (pair ∷ pairs) next f = search (words, w_pairs pairs, f) depth 12

  -- Rows that look at the heap as a whole

  w_size : (x : Item) → Overlooks b (size_row x)
  w_size x = w_value b x _ (λ v. w_here b _
      (λ a. ap (λ (o : Option ℕ). present o 112 (Some v) (λ size. gives_value (Integer (pos size)))) (size_alike b a.world.heap v))
      (λ a. w_present b _ _ _ _ (λ size. o_value b _)))

  w_image : (names : Names) (vs : List Value) → Overlooks b (image_row names vs)
  w_image names vs = w_here b _ (λ a. ap builds (image_alike b names a.world.heap (arg vs 0))) (λ a. w_builds b _)

  w_type : (names : Names) (vs : List Value) → Overlooks b (type_row names vs)
  w_type names vs =
      w_here b _ (λ a. ap (λ (text : List ℕ). gives_value (Text text)) (type_alike b names a.world.heap (arg vs 0))) (λ a. o_value b _)

  w_member : (vs : List Value) → Overlooks b (member_row vs)
  w_member vs = w_present b (keeper_of (arg vs 0)) 122 (Some (arg vs 0)) _ (λ kept. w_here b _
      (λ a. ap (λ (t : Bool). fails_unless t (gives_value (arg vs 1))) (has_alike b a.world.heap kept (arg vs 1)))
      (λ a. w_passing b _ _ (o_value b _)))

  w_delete : (vs : List Value) → Overlooks b (delete_row vs)
  w_delete vs = w_present b (keeper_of (arg vs 0)) 122 (Some (arg vs 0)) _ (λ kept. w_heap b _ _ (λ h. without_alike b kept (arg vs 1) h) (o_value b _))

  w_table_sorted : (names : Names) (heap : Heap) (pairs : List (Value × Value)) (n : ℤ) (chosen : Value)
      → Overlooks b (table_sorted names heap pairs n chosen)
  w_table_sorted names heap pairs (pos zero) chosen = search words
  w_table_sorted names heap pairs (pos (suc zero)) chosen = search (words, w_pairs)
  w_table_sorted names heap pairs (pos (suc (suc zero))) chosen = search (words, w_pairs)
  w_table_sorted names heap pairs (pos (suc (suc (suc zero)))) chosen = search words
  w_table_sorted names heap pairs (pos (suc (suc (suc (suc zero))))) chosen = search words
  w_table_sorted names heap pairs (pos (suc (suc (suc (suc (suc n)))))) chosen = search words
  w_table_sorted names heap pairs (negsuc n) chosen = search words

  w_sorted : (names : Names) (v : Value) (n : ℤ) (chosen : Value) (g : ValueGroup) → Overlooks b (sorted_of names v n chosen g)
  w_sorted names v n chosen (Textual text) = search words
  w_sorted names v n chosen (Listed id) =
      w_here b _ (λ a. ap gives_list (values_alike b names a.world.heap (list_at a.world.heap id).items)) (λ a. w_list b _)
  w_sorted names v n chosen (Collected id) =
      w_here b _ (λ a. ap gives_list (values_alike b names a.world.heap (set_at a.world.heap id))) (λ a. w_list b _)
  w_sorted names v n chosen (Tabled id) =
      w_here b _ (λ a. table_alike b names a.world.heap (table_at a.world.heap id).pairs n chosen)
      (λ a. w_table_sorted names a.world.heap (table_at a.world.heap id).pairs n chosen)
  w_sorted names v n chosen (Recorded id) =
      w_here b _ (λ a. ap gives_list (values_alike b names a.world.heap (record_at a.world.heap id).fields)) (λ a. w_list b _)
  w_sorted names v n chosen (Filed file) = search words
  w_sorted names v n chosen (Activated id) = search words
  w_sorted names v n chosen Single = search words

  -- Rows by what a value is

  w_sets : (f : List Value → List Value → List Value) (g : Bool → Bool → Bool) (v w : Value) (o : Option (ℕ × ℕ)) → Overlooks b (sets_or_csets f g v w o)
  w_sets f g v w (Some ids) = search (words, w_new_set) depth 14
  w_sets f g v w None = search words depth 14

  w_text_elements : (o : Option Variable) (v : Value) (text : List ℕ) → Overlooks b (text_elements o v text)
  w_text_elements (Some x) v text = search words depth 12
  w_text_elements None v text = search words depth 12

  w_elements : (x : Item) (v : Value) (g : ValueGroup) → Overlooks b (elements_of x v g)
  w_elements x v (Textual text) = w_text_elements (text_variable x v) v text
  w_elements x v (Listed id) = search words depth 12
  w_elements x v (Collected id) = search words depth 12
  w_elements x v (Tabled id) = search words depth 12
  w_elements x v (Recorded id) = search words depth 12
  w_elements x v (Filed file) = search words depth 12
  w_elements x v (Activated id) = search words depth 12
  w_elements x v Single = search words depth 12

  w_random_number : (v : Value) (n : ℤ) → Overlooks b (random_number v n)
  w_random_number v (pos n) = search (words, w_picks) depth 12
  w_random_number v (negsuc n) = search words

  w_random_of : (x : Item) (v : Value) (g : ValueGroup) → Overlooks b (random_of x v g)
  w_random_of x v (Textual text) = search (words, w_picks) depth 14
  w_random_of x v (Listed id) = search (words, w_picks) depth 14
  w_random_of x v (Collected id) = search (words, w_picks) depth 14
  w_random_of x v (Tabled id) = search (words, w_picks) depth 14
  w_random_of x v (Recorded id) = search (words, w_picks) depth 14
  w_random_of x v (Filed file) = search words
  w_random_of x v (Activated id) = search words
  w_random_of x v Single = search words

  w_random : (x : Item) (v : Value) (o : Option ℤ) → Overlooks b (random_by x v o)
  w_random x v (Some n) = w_random_number v n
  w_random x v None = w_random_of x v (group_of v)

  w_subscript : (x : Item) (v w : Value) (g : ValueGroup) → Overlooks b (subscript_of x v w g)
  w_subscript x v w (Textual text) = search (words, w_element_position) depth 14
  w_subscript x v w (Listed id) = search (words, w_element_position) depth 14
  w_subscript x v w (Collected id) = search words
  w_subscript x v w (Tabled id) = search words
  w_subscript x v w (Recorded id) = search (words, w_element_position) depth 14
  w_subscript x v w (Filed file) = search words
  w_subscript x v w (Activated id) = search words
  w_subscript x v w Single = search words

  w_section : (second : ℤ → ℤ → Result ℤ Arith) (x : Item) (v u w : Value) (g : ValueGroup) → Overlooks b (section_of second x v u w g)
  w_section second x v u w (Textual text) = search (words, w_positions, w_places) depth 16
  w_section second x v u w (Listed id) = search (words, w_positions, w_places) depth 16
  w_section second x v u w (Collected id) = search words
  w_section second x v u w (Tabled id) = search words
  w_section second x v u w (Recorded id) = search words
  w_section second x v u w (Filed file) = search words
  w_section second x v u w (Activated id) = search words
  w_section second x v u w Single = search words

  w_copy : (v : Value) (g : ValueGroup) → Overlooks b (copy_of v g)
  w_copy v (Textual text) = search words
  w_copy v (Listed id) = search words depth 12
  w_copy v (Collected id) = search (words, w_new_set) depth 12
  w_copy v (Tabled id) = search (words, w_new_table) depth 12
  w_copy v (Recorded id) = search (words, w_new_record) depth 12
  w_copy v (Filed file) = search words
  w_copy v (Activated id) = search words
  w_copy v Single = search words

  w_set : (v : Value) (o : Option ℕ) → Overlooks b (new_set_by v o)
  w_set v (Some id) = search (words, w_new_set) depth 14
  w_set v None = search (words, w_new_set) depth 14

ruleset rows = (
  words,
  w_count,
  w_new_set,
  w_new_table,
  w_new_record,
  w_picks,
  w_region,
  w_ends,
  w_tabs,
  w_inserts,
  w_size,
  w_image,
  w_type,
  w_member,
  w_delete,
  w_sorted,
  w_sets,
  w_elements,
  w_random,
  w_subscript,
  w_section,
  w_copy,
  w_set,
)

module _ (b : ℕ) where
  each_operation : (op : Op) (x y z : Item) → Overlooks b (operation_on op x y z)
  each_operation Ops.IsNull x y z = search rows depth 16
  each_operation Ops.IsNotNull x y z = search rows depth 16
  each_operation Ops.Dereference x y z = search rows depth 16
  each_operation Ops.Number x y z = search rows depth 16
  each_operation Ops.Negate x y z = search rows depth 16
  each_operation Ops.Size x y z = search rows depth 16
  each_operation Ops.Complement x y z = search rows depth 16
  each_operation Ops.Elements x y z = search rows depth 16
  each_operation Ops.Random x y z = search rows depth 16
  each_operation Ops.TabMatch x y z = search rows depth 16
  each_operation Ops.Refresh x y z = search rows depth 16
  each_operation Ops.Add x y z = search rows depth 16
  each_operation Ops.Subtract x y z = search rows depth 16
  each_operation Ops.Multiply x y z = search rows depth 16
  each_operation Ops.Divide x y z = search rows depth 16
  each_operation Ops.Remainder x y z = search rows depth 16
  each_operation Ops.Power x y z = search rows depth 16
  each_operation Ops.Less x y z = search rows depth 16
  each_operation Ops.LessOrEqual x y z = search rows depth 16
  each_operation Ops.Equal x y z = search rows depth 16
  each_operation Ops.GreaterOrEqual x y z = search rows depth 16
  each_operation Ops.Greater x y z = search rows depth 16
  each_operation Ops.NotEqual x y z = search rows depth 16
  each_operation Ops.LexicallyLess x y z = search rows depth 16
  each_operation Ops.LexicallyLessOrEqual x y z = search rows depth 16
  each_operation Ops.LexicallyEqual x y z = search rows depth 16
  each_operation Ops.LexicallyGreaterOrEqual x y z = search rows depth 16
  each_operation Ops.LexicallyGreater x y z = search rows depth 16
  each_operation Ops.LexicallyNotEqual x y z = search rows depth 16
  each_operation Ops.Equivalent x y z = search rows depth 16
  each_operation Ops.NotEquivalent x y z = search rows depth 16
  each_operation Ops.Concatenate x y z = search rows depth 16
  each_operation Ops.ConcatenateLists x y z = search rows depth 16
  each_operation Ops.Union x y z = search rows depth 16
  each_operation Ops.Difference x y z = search rows depth 16
  each_operation Ops.Intersection x y z = search rows depth 16
  each_operation Ops.Assign x y z = search rows depth 16
  each_operation Ops.Swap x y z = search rows depth 16
  each_operation Ops.ReversibleAssign x y z = search rows depth 16
  each_operation Ops.ReversibleSwap x y z = search rows depth 16
  each_operation Ops.Subscript x y z = search rows depth 16
  each_operation Ops.Section x y z = search rows depth 16
  each_operation Ops.SectionPlus x y z = search rows depth 16
  each_operation Ops.SectionMinus x y z = search rows depth 16
  each_operation Ops.ToBy x y z = search rows depth 16

  each_function : (names : Names) (f : Func) (vs : List Value) → Overlooks b (function_of names f vs)
  each_function names Funcs.Abs vs = search rows depth 18
  each_function names Funcs.Any vs = search rows depth 18
  each_function names Funcs.Bal vs = search rows depth 18
  each_function names Funcs.Center vs = search rows depth 18
  each_function names Funcs.Char vs = search rows depth 18
  each_function names Funcs.Copy vs = search rows depth 18
  each_function names Funcs.Cset vs = search rows depth 18
  each_function names Funcs.Delete vs = search rows depth 18
  each_function names Funcs.Exit vs = search rows depth 18
  each_function names Funcs.Find vs = search rows depth 18
  each_function names Funcs.Get vs = search rows depth 18
  each_function names Funcs.Iand vs = search rows depth 18
  each_function names Funcs.Icom vs = search rows depth 18
  each_function names Funcs.Image vs = search rows depth 18
  each_function names Funcs.Insert vs = search rows depth 18
  each_function names Funcs.Integer vs = search rows depth 18
  each_function names Funcs.Ior vs = search rows depth 18
  each_function names Funcs.Ishift vs = search rows depth 18
  each_function names Funcs.Ixor vs = search rows depth 18
  each_function names Funcs.Key vs = search rows depth 18
  each_function names Funcs.Left vs = search rows depth 18
  each_function names Funcs.List vs = search rows depth 18
  each_function names Funcs.Many vs = search rows depth 18
  each_function names Funcs.Map vs = search rows depth 18
  each_function names Funcs.Match vs = search rows depth 18
  each_function names Funcs.Member vs = search rows depth 18
  each_function names Funcs.Move vs = search rows depth 18
  each_function names Funcs.Numeric vs = search rows depth 18
  each_function names Funcs.Ord vs = search rows depth 18
  each_function names Funcs.Pop vs = search rows depth 18
  each_function names Funcs.Pos vs = search rows depth 18
  each_function names Funcs.Pull vs = search rows depth 18
  each_function names Funcs.Push vs = search rows depth 18
  each_function names Funcs.Put vs = search rows depth 18
  each_function names Funcs.Read vs = search rows depth 18
  each_function names Funcs.Reads vs = search rows depth 18
  each_function names Funcs.Repl vs = search rows depth 18
  each_function names Funcs.Reverse vs = search rows depth 18
  each_function names Funcs.Right vs = search rows depth 18
  each_function names Funcs.Seq vs = search rows depth 18
  each_function names Funcs.Set vs = search rows depth 18
  each_function names Funcs.Sort vs = search rows depth 18
  each_function names Funcs.Stop vs = search rows depth 18
  each_function names Funcs.String vs = search rows depth 18
  each_function names Funcs.Tab vs = search rows depth 18
  each_function names Funcs.Table vs = search rows depth 18
  each_function names Funcs.Trim vs = search rows depth 18
  each_function names Funcs.TypeOf vs = search rows depth 18
  each_function names Funcs.Upto vs = search rows depth 18
  each_function names Funcs.Write vs = search rows depth 18
  each_function names Funcs.Writes vs = search rows depth 18
  each_function names Funcs.ErrorClear vs = search rows depth 18
  each_function names Funcs.Open vs = search rows depth 18
  each_function names Funcs.Close vs = search rows depth 18
  each_function names Funcs.Proc vs = search rows depth 18
  each_function names Funcs.Args vs = search rows depth 18

  pub resumed_overlooks : (r : Residual) → Overlooks b (again r)
  resumed_overlooks (TextBytes text k) = search rows depth 14
  resumed_overlooks (VariableBytes x k) = search rows depth 14
  resumed_overlooks (ListItems id k) = search rows depth 14
  resumed_overlooks (SetMembers id k) = search rows depth 14
  resumed_overlooks (TableValues id k) = search rows depth 14
  resumed_overlooks (TableKeys id k) = search rows depth 14
  resumed_overlooks (RecordFields id k) = search rows depth 14
  resumed_overlooks (FileLines file) = search rows depth 14
  resumed_overlooks (UndoAssign x old) = search rows depth 14
  resumed_overlooks (UndoExchange m x y v w) = search rows depth 14
  resumed_overlooks (UndoPosition old) = search rows depth 14
  resumed_overlooks (Counting n last step) = search rows depth 14
  resumed_overlooks (Sequence n step) = search rows depth 14
  resumed_overlooks (Balanced wanted opening closing text place last) = search rows depth 14
  resumed_overlooks (Found wanted text place last) = search rows depth 14
  resumed_overlooks (Among bytes text place last) = search rows depth 14

  pub operation_overlooks : (op : Op) (items : List Item) → Overlooks b (operation_row op items)
  operation_overlooks op items = each_operation op (operand items 0) (operand items 1) (operand items 2)

  pub function_overlooks : (names : Names) (f : Func) (items : List Item) → Overlooks b (function_row names f items)
  function_overlooks names f items = w_values b items (λ vs. function_of names f vs) (λ vs. each_function names f vs)

  -- The rows that steps are made with

  pub value_overlooks : (x : Item) → Overlooks b (value_row x)
  value_overlooks x = search rows

  pub list_overlooks : (vs : List Value) → Overlooks b (list_row vs)
  list_overlooks vs = search rows

  pub record_overlooks : (kind : ℕ) (vs : List Value) → Overlooks b (record_row kind vs)
  record_overlooks kind vs = search rows depth 12

  pub text_overlooks : (v : Value) → Overlooks b (text_row v)
  text_overlooks v = search rows depth 12

  pub coexpression_overlooks : (locals : ℕ) → Overlooks b (coexpression_row locals)
  coexpression_overlooks locals = search rows depth 12

  pub words_overlook : (words : List (List ℕ)) → Overlooks b (words_row words)
  words_overlook words = search rows depth 12
