-- Each operation and function comes to related outcomes in both runs: one line a row.
use Rattle.std.proofs.Common.{◌≡◌, ℕ, ◌+◌, Bool, List, [], ◌∷◌, ◌++◌, length, Option, Some, None, refl, ap, ◌∙◌, subst}
use Rattle.std.specs.Prelude.{◌&&◌, ◌||◌, ◌-◌, ◌==◌, ℤ, pos, ◌+ℤ◌, drop, fold, not}
use Rattle.std.specs.List.{sum_by}
use Rattle.icn_text.specs.declared.op.Op.{Op}
use Rattle.icn_text.specs.declared.op.Op.TheVariants as Ops
use Rattle.icn_text.specs.declared.func.Func.{Func}
use Rattle.icn_text.specs.declared.func.Func.TheVariants as Funcs
use Rattle.icn_structs.specs.Numbered.{NumberedList, leftmost, rightmost, with_left, with_right, without_left, without_right}
use Rattle.icn_value.specs.Values.{Value, Null, Text, AList, Variable, Item, Val}
use Rattle.icn_value.specs.Store.{Heap, Setting, having_kept, value_at, list_at, with_list}
use Rattle.icn_defs.specs.Applying.{again, function_of, function_row, operand, operation_on, operation_row}
use Rattle.icn_defs.specs.Arguments.{arg, list_of, set_of}
use Rattle.icn_defs.specs.Arithmetic.{count_from}
use Rattle.icn_defs.specs.Conversions.{is_null, same, integer_of, position_of, text_of}
use Rattle.icn_defs.specs.ErrorRows.{errorclear_row}
use Rattle.icn_defs.specs.InputOutput.{last_of}
use Rattle.icn_defs.specs.Operations as Operations
use Rattle.icn_defs.specs.Operations.{concatenate_lists_row, difference, intersection, two_sets}
use Rattle.icn_defs.specs.ReadAndAssign.{the_value}
use Rattle.icn_defs.specs.Rows.{Row, Mover, Residual, UndoExchange, changes_heap, costs_cells, costs_text, fails, fails_unless, gives_list, gives_value, here, present, thing_or_failure, wrong}
use Rattle.icn_defs.specs.Running.{text_values, words_row}
use Rattle.icn_defs.specs.Scanning.{gives_position, move_row, plain_position, pos_row, stands, tab_match_row, tab_row, tabs_to}
use Rattle.icn_defs.specs.StepRows.{list_row, record_row, text_row, value_row}
use Rattle.icn_defs.specs.Structures.{adds_to, or_null, takes_from}
use Rattle.law_prune.proofs.RelatedValues.{ValueTo, chars_to, file_to, integer_to, list_to, null_to, text_to}
use Rattle.law_prune.proofs.RelatedLists.{Both, OptionTo, both_append, both_at, both_cons, both_drop, both_length, both_nil, both_replicate, both_set, each_to, neither}
use Rattle.law_prune.proofs.RelatedSettings.{Renaming, ItemTo, ListTo, Parts, ResidualTo, RowTo, VariableTo, among_to, balanced_to, counting_to, file_lines_to, found_to, list_items_to, record_fields_to, sequence_to, set_members_to, table_keys_to, table_values_to, text_bytes_to, undo_assign_to, undo_exchange_to, undo_position_to, val_to, var_to, variable_bytes_to, view}
use Rattle.law_prune.proofs.RelatedViews.{e_cset, e_file, e_group, e_held_integer, e_integer, e_keeper, e_list, e_mover, e_null, e_same, e_set, e_table, e_text, l_at, m_difference, m_intersection, m_or_null, m_union, n_lefts, n_leftmost, n_rightmost, n_rights, n_without_left, n_without_right, v_at}
use Rattle.law_prune.proofs.RelatedWords.{o_ends, o_fails, o_gives, o_suspends, o_value, o_wrong, s_lists, w_assigns, w_both, w_builds, w_bytes, w_bytes_from, w_cells, w_changes, w_check, w_closes, w_computed, w_content, w_found, w_found_value, w_heap, w_here, w_line_from, w_list, w_natural, w_new_file, w_passing, w_present, w_puts, w_readable, w_text, w_texts, w_value, w_values, w_variable}
use Rattle.law_prune.proofs.RelatedRows.{v_arg_or, w_args, w_copy, w_delete, w_elements, w_image, w_inserts, w_lines, w_list_items, w_member, w_new_record, w_new_table, w_places, w_proc, w_random, w_record_fields, w_region, w_section, w_set, w_set_members, w_sets, w_size, w_sorted, w_subject, w_subscript, w_table_keys, w_table_values, w_tabs, w_text_bytes, w_type, w_undo_position, w_variable_bytes}

module _ (R : Renaming) where
  w_count : (last step : ℤ) (o : Option ℤ) → RowTo R (count_from last step o) (count_from last step o)
  w_count last step None = o_fails R
  w_count last step (Some n) = w_passing R _ _ _ _ refl (o_suspends R _ _ _ _ (val_to (integer_to n)) (counting_to n last step))

  -- Rows of the subject

  w_tab_match : (x y : Item) → ItemTo R x y → RowTo R (tab_match_row x) (tab_match_row y)
  w_tab_match x y i =
      let all : List ℕ → Setting → Row = λ wanted a. fails_unless (stands wanted a.world.subject a.world.position (length a.world.subject + 1))
      (tabs_to (a.world.position + length wanted)) in
      let found : Value → List ℕ → Row = λ v wanted. costs_text v (here (all wanted)) in
      w_value R x y (λ v. present (text_of v) 103 (Some v) (found v)) (λ v. present (text_of v) 103 (Some v) (found v)) i
      (λ v w h. w_present R _ _ 103 (Some v) (Some w) (found v) (found w) (e_text R v w h) (each_to h)
      (λ wanted. w_text R v w (here (all wanted)) (here (all wanted)) h (w_here R (all wanted) (all wanted)
      (λ a q k. w_passing R _ _ (tabs_to (a.world.position + length wanted)) (tabs_to (a.world.position + length wanted)) refl (w_tabs R _)))))

  w_placed : (vs ws : List Value) (place : ℤ → Setting → Option ℕ) (next : Setting → ℕ → Row) → Both (ValueTo R.To) vs ws
      → ((n : ℤ) (a : Setting) (q : Parts) → place n a ≡ place n (view a q)) → ((a : Setting) (q : Parts) (k : ℕ) → RowTo R (next a k) (next (view a q) k))
      → RowTo R (present (integer_of (arg vs 0)) 101 (Some (arg vs 0)) (λ n. here (λ a. thing_or_failure (place n a) (next a))))
      (present (integer_of (arg ws 0)) 101 (Some (arg ws 0)) (λ n. here (λ a. thing_or_failure (place n a) (next a))))
  w_placed vs ws place next h e f =
      let t : ValueTo R.To (arg vs 0) (arg ws 0) = v_at R vs ws 0 h in
      w_present R _ _ 101 _ _ _ _ (e_integer R _ _ t) (each_to t) (λ n. w_subject R (place n) next next (e n) f)

  w_tab : (vs ws : List Value) → Both (ValueTo R.To) vs ws → RowTo R (tab_row vs) (tab_row ws)
  w_tab vs ws h = w_placed vs ws (λ n a. position_of n (length a.world.subject)) (λ a. tabs_to) h (λ n a q. refl) (λ a q k. w_tabs R k)

  w_move : (vs ws : List Value) → Both (ValueTo R.To) vs ws → RowTo R (move_row vs) (move_row ws)
  w_move vs ws h =
      w_placed vs ws (λ n a. plain_position (pos a.world.position +ℤ n) (length a.world.subject)) (λ a. tabs_to) h (λ n a q. refl) (λ a q k. w_tabs R k)

  w_pos : (vs ws : List Value) → Both (ValueTo R.To) vs ws → RowTo R (pos_row vs) (pos_row ws)
  w_pos vs ws h = w_placed vs ws (λ n a. position_of n (length a.world.subject)) (λ a place. fails_unless (place == a.world.position) (gives_position place)) h
      (λ n a q. refl) (λ a q k. w_passing R _ _ (gives_position k) (gives_position k) refl (o_value R _ _ (integer_to (pos k))))

  -- Rows of lists

  w_concatenated : (x y u z : Item) → ItemTo R x u → ItemTo R y z → RowTo R (concatenate_lists_row x y) (concatenate_lists_row u z)
  w_concatenated x y u z i j =
      let all : ℕ → ℕ → Setting → Row = λ first second a. gives_list ((list_at a.world.heap first).items ++ (list_at a.world.heap second).items) in
      let both : Value → ℕ → Row = λ w first. present (list_of w) 108 (Some w) (λ second. here (all first second)) in
      let lists : Value → Value → Row = λ v w. present (list_of v) 108 (Some v) (both w) in
      w_value R x u (λ v. the_value y (lists v)) (λ v. the_value z (lists v)) i
      (λ v w h. w_value R y z (lists v) (lists w) j
      (λ a b k. w_present R _ _ 108 (Some v) (Some w) (both a) (both b) (e_list R v w h) (each_to h)
      (λ first. w_present R _ _ 108 (Some a) (Some b) (λ second. here (all first second)) (λ second. here (all first second)) (e_list R a b k) (each_to k)
      (λ second. w_here R (all first second) (all first second) (λ s q t. w_list R _ _
      (both_append (ValueTo R.To) _ _ _ _ (l_at R s.world.heap.lists q.lists first t.lists).items (l_at R s.world.heap.lists q.lists second t.lists).items))))))

  w_takes : (taken : NumberedList Value → Option Value) (rest : NumberedList Value → NumberedList Value)
      → ((l m : NumberedList Value) → ListTo R l m → OptionTo (ValueTo R.To) (taken l) (taken m))
      → ((l m : NumberedList Value) → ListTo R l m → ListTo R (rest l) (rest m))
      → (vs ws : List Value) → Both (ValueTo R.To) vs ws → RowTo R (takes_from taken rest vs) (takes_from taken rest ws)
  w_takes taken rest e g vs ws h =
      let t : ValueTo R.To (arg vs 0) (arg ws 0) = v_at R vs ws 0 h in
      let put : ℕ → Setting → Heap → Heap = λ id a. with_list id (rest (list_at a.world.heap id)) in
      let go : ℕ → Setting → Value → Row = λ id a value. changes_heap (put id a) (gives_value value) in
      let all : ℕ → Setting → Row = λ id a. thing_or_failure (taken (list_at a.world.heap id)) (go id a) in
      w_present R _ _ 108 _ _ (λ id. here (all id)) (λ id. here (all id)) (e_list R _ _ t) (each_to t) (λ id. w_here R (all id) (all id) (λ a q k.
      let list : ListTo R (list_at a.world.heap id) (list_at (view a q).world.heap id) = l_at R a.world.heap.lists q.lists id k.lists in
      w_found_value R _ _ (go id a) (go id (view a q)) (e _ _ list) (λ v w r. w_heap R (put id a) (put id (view a q)) (gives_value v) (gives_value w)
      (λ s p n. s_lists R s p _ _ n (both_set (ListTo R) _ _ id _ _ n.lists (g _ _ list))) (o_value R v w r))))

  w_adds : (grown : NumberedList Value → Value → NumberedList Value)
      → ((l m : NumberedList Value) (vs ws : List Value) → ListTo R l m → Both (ValueTo R.To) vs ws → ListTo R (fold grown l vs) (fold grown m ws))
      → (vs ws : List Value) → Both (ValueTo R.To) vs ws → RowTo R (adds_to grown vs) (adds_to grown ws)
  w_adds grown g vs ws h =
      let t : ValueTo R.To (arg vs 0) (arg ws 0) = v_at R vs ws 0 h in
      let added : List Value → List Value = λ us. or_null (drop 1 us) in
      let more : Both (ValueTo R.To) (added vs) (added ws) = m_or_null R _ _ (both_drop (ValueTo R.To) 1 vs ws h) in
      let put : List Value → ℕ → Setting → Heap → Heap = λ us id a. with_list id (fold grown (list_at a.world.heap id) (added us)) in
      let all : List Value → ℕ → Setting → Row = λ us id a. changes_heap (put us id a) (gives_value (AList id)) in
      let paid : List Value → ℕ → Row = λ us id. costs_cells (length (added us)) (here (all us id)) in
      w_present R _ _ 108 _ _ (paid vs) (paid ws) (e_list R _ _ t) (each_to t)
      (λ id. w_cells R _ _ (here (all vs id)) (here (all ws id)) (both_length (ValueTo R.To) _ _ more) (w_here R (all vs id) (all ws id) (λ a q k.
      w_heap R (put vs id a) (put ws id (view a q)) (gives_value (AList id)) (gives_value (AList id))
      (λ s p n. s_lists R s p _ _ n (both_set (ListTo R) _ _ id _ _ n.lists (g _ _ _ _ (l_at R a.world.heap.lists q.lists id k.lists) more)))
      (o_value R _ _ (list_to id)))))

  e_two : (v w a b : Value) → ValueTo R.To v w → ValueTo R.To a b → two_sets (set_of v) (set_of a) ≡ two_sets (set_of w) (set_of b)
  e_two v w a b h g = ap (λ o. two_sets o (set_of a)) (e_set R v w h) ∙ ap (two_sets (set_of w)) (e_set R a b g)

  w_set_row : (f : List Value → List Value → List Value) (g : Bool → Bool → Bool) (x y u z : Item)
      → ((ms bs cs ds : List Value) → Both (ValueTo R.To) ms cs → Both (ValueTo R.To) bs ds → Both (ValueTo R.To) (f ms bs) (f cs ds))
      → ItemTo R x u → ItemTo R y z → RowTo R (Operations.set_row f g x y) (Operations.set_row f g u z)
  w_set_row f g x y u z m i j = w_value R x u _ _ i (λ v w h. w_value R y z _ _ j (λ a b k. w_sets R f g v a w b _ _ (e_two v w a b h k) m h k))

  e_different : (v w a b : Value) → ValueTo R.To v w → ValueTo R.To a b → not (same v a) ≡ not (same w b)
  e_different v w a b h g = ap not (e_same R v w a b h g)

  v_last : (vs ws : List Value) → Both (ValueTo R.To) vs ws → ValueTo R.To (last_of vs) (last_of ws)
  v_last vs ws h = subst (λ (k : ℕ). ValueTo R.To (last_of vs) (value_at ws (k - 1))) (both_length (ValueTo R.To) vs ws h) (v_at R vs ws (length vs - 1) h)

  -- the mover of an exchange is the same on both sides
  undo_moved : (m n : Mover) (x y u z : Variable) (v w a b : Value) → m ≡ n → VariableTo R x u → VariableTo R y z → ValueTo R.To v a → ValueTo R.To w b
      → ResidualTo R (UndoExchange m x y v w) (UndoExchange n u z a b)
  undo_moved m n x y u z v w a b e g h i j =
      subst (λ (k : Mover). ResidualTo R (UndoExchange m x y v w) (UndoExchange k u z a b)) e (undo_exchange_to m g h i j)

  w_clear : RowTo R errorclear_row errorclear_row
  w_clear = w_changes R (having_kept None) (having_kept None) (gives_value Null) (gives_value Null)
      (λ a q h. record {
        rest = refl;
        parts = record {
          lists = h.lists;
          sets = h.sets;
          tables = h.tables;
          records = h.records;
          globals = h.globals;
          statics = h.statics;
          locals = h.locals;
          kept = neither;
        };
      }) (o_value R Null Null null_to)

  e_not_null : (v w : Value) → ValueTo R.To v w → not (is_null v) ≡ not (is_null w)
  e_not_null v w h = ap not (e_null R v w h)

ruleset words = (
  refl,
  neither,
  each_to,
  both_nil,
  both_cons,
  null_to,
  integer_to,
  text_to,
  chars_to,
  file_to,
  val_to,
  var_to,
  v_arg_or,
  v_at,
  o_fails,
  o_gives,
  o_value,
  o_suspends,
  o_wrong,
  o_ends,
  w_check,
  w_present,
  w_computed,
  w_passing,
  w_found,
  w_natural,
  w_text,
  w_texts,
  w_builds,
  w_value,
  w_variable,
  w_assigns,
  w_list,
  both_replicate,
)

ruleset rows = (
  words,
  w_both,
  w_readable,
  w_line_from,
  w_bytes_from,
  w_puts,
  w_content,
  w_new_file,
  w_closes,
  w_count,
  w_copy,
  w_elements,
  w_inserts,
  w_new_table,
  w_places,
  w_random,
  w_region,
  w_section,
  w_set,
  w_sorted,
  w_subscript,
  w_table_keys,
  counting_to,
  sequence_to,
  balanced_to,
  found_to,
  among_to,
  undo_assign_to,
  undo_moved,
  v_last,
)

module _ (R : Renaming) where
  each_operation : (op : Op) (x y z u v w : Item) → ItemTo R x u → ItemTo R y v → ItemTo R z w → RowTo R (operation_on op x y z) (operation_on op u v w)
  each_operation Ops.IsNull x y z u v w i j k = search (rows, e_null R) depth 16
  each_operation Ops.IsNotNull x y z u v w i j k = search (rows, e_not_null R) depth 16
  each_operation Ops.Dereference x y z u v w i j k = search rows depth 16
  each_operation Ops.Number x y z u v w i j k = search (rows, e_integer R) depth 16
  each_operation Ops.Negate x y z u v w i j k = search (rows, e_integer R) depth 16
  each_operation Ops.Size x y z u v w i j k = w_size R x u i
  each_operation Ops.Complement x y z u v w i j k = search (rows, e_cset R) depth 16
  each_operation Ops.Elements x y z u v w i j k = search (rows, e_group R) depth 16
  each_operation Ops.Random x y z u v w i j k = search (rows, e_group R, e_held_integer R) depth 16
  each_operation Ops.TabMatch x y z u v w i j k = w_tab_match R x u i
  each_operation Ops.Refresh x y z u v w i j k = search rows depth 16
  each_operation Ops.Add x y z u v w i j k = search (rows, e_integer R) depth 16
  each_operation Ops.Subtract x y z u v w i j k = search (rows, e_integer R) depth 16
  each_operation Ops.Multiply x y z u v w i j k = search (rows, e_integer R) depth 16
  each_operation Ops.Divide x y z u v w i j k = search (rows, e_integer R) depth 16
  each_operation Ops.Remainder x y z u v w i j k = search (rows, e_integer R) depth 16
  each_operation Ops.Power x y z u v w i j k = search (rows, e_integer R) depth 16
  each_operation Ops.Less x y z u v w i j k = search (rows, e_integer R) depth 16
  each_operation Ops.LessOrEqual x y z u v w i j k = search (rows, e_integer R) depth 16
  each_operation Ops.Equal x y z u v w i j k = search (rows, e_integer R) depth 16
  each_operation Ops.GreaterOrEqual x y z u v w i j k = search (rows, e_integer R) depth 16
  each_operation Ops.Greater x y z u v w i j k = search (rows, e_integer R) depth 16
  each_operation Ops.NotEqual x y z u v w i j k = search (rows, e_integer R) depth 16
  each_operation Ops.LexicallyLess x y z u v w i j k = search (rows, e_text R) depth 16
  each_operation Ops.LexicallyLessOrEqual x y z u v w i j k = search (rows, e_text R) depth 16
  each_operation Ops.LexicallyEqual x y z u v w i j k = search (rows, e_text R) depth 16
  each_operation Ops.LexicallyGreaterOrEqual x y z u v w i j k = search (rows, e_text R) depth 16
  each_operation Ops.LexicallyGreater x y z u v w i j k = search (rows, e_text R) depth 16
  each_operation Ops.LexicallyNotEqual x y z u v w i j k = search (rows, e_text R) depth 16
  each_operation Ops.Equivalent x y z u v w i j k = search (rows, e_same R) depth 16
  each_operation Ops.NotEquivalent x y z u v w i j k = search (rows, e_different R) depth 16
  each_operation Ops.Concatenate x y z u v w i j k = search (rows, e_text R) depth 16
  each_operation Ops.ConcatenateLists x y z u v w i j k = w_concatenated R x y u v i j
  each_operation Ops.Union x y z u v w i j k = w_set_row R (λ first second. first ++ difference second first) ◌||◌ x y u v (m_union R) i j
  each_operation Ops.Difference x y z u v w i j k = w_set_row R difference (λ a b. a && not b) x y u v (m_difference R) i j
  each_operation Ops.Intersection x y z u v w i j k = w_set_row R intersection ◌&&◌ x y u v (m_intersection R) i j
  each_operation Ops.Assign x y z u v w i j k = search rows depth 16
  each_operation Ops.Swap x y z u v w i j k = search (rows, e_mover R) depth 16
  each_operation Ops.ReversibleAssign x y z u v w i j k = search rows depth 16
  each_operation Ops.ReversibleSwap x y z u v w i j k = search (rows, e_mover R) depth 16
  each_operation Ops.Subscript x y z u v w i j k = search (rows, e_group R) depth 16
  each_operation Ops.Section x y z u v w i j k = search (rows, e_group R) depth 16
  each_operation Ops.SectionPlus x y z u v w i j k = search (rows, e_group R) depth 16
  each_operation Ops.SectionMinus x y z u v w i j k = search (rows, e_group R) depth 16
  each_operation Ops.ToBy x y z u v w i j k = search (rows, e_integer R) depth 16

  each_function : (f : Func) (vs ws : List Value) → Both (ValueTo R.To) vs ws → RowTo R (function_of R.whole f vs) (function_of R.left f ws)
  each_function Funcs.Abs vs ws h = search (rows, e_integer R) depth 18
  each_function Funcs.Any vs ws h = search (rows, e_cset R) depth 18
  each_function Funcs.Bal vs ws h = search (rows, e_cset R) depth 18
  each_function Funcs.Center vs ws h = search (rows, e_integer R, e_text R) depth 18
  each_function Funcs.Char vs ws h = search (rows, e_integer R) depth 18
  each_function Funcs.Copy vs ws h = search (rows, e_group R) depth 18
  each_function Funcs.Cset vs ws h = search (rows, e_cset R) depth 18
  each_function Funcs.Delete vs ws h = w_delete R vs ws h
  each_function Funcs.Exit vs ws h = search (rows, e_integer R) depth 18
  each_function Funcs.Find vs ws h = search (rows, e_text R) depth 18
  each_function Funcs.Get vs ws h = w_takes R leftmost without_left (n_leftmost R) (n_without_left R) vs ws h
  each_function Funcs.Iand vs ws h = search (rows, e_integer R) depth 18
  each_function Funcs.Icom vs ws h = search (rows, e_integer R) depth 18
  each_function Funcs.Image vs ws h = w_image R vs ws h
  each_function Funcs.Insert vs ws h = search (rows, e_keeper R) depth 18
  each_function Funcs.Integer vs ws h = search (rows, e_integer R) depth 18
  each_function Funcs.Ior vs ws h = search (rows, e_integer R) depth 18
  each_function Funcs.Ishift vs ws h = search (rows, e_integer R) depth 18
  each_function Funcs.Ixor vs ws h = search (rows, e_integer R) depth 18
  each_function Funcs.Key vs ws h = search (rows, e_table R) depth 18
  each_function Funcs.Left vs ws h = search (rows, e_integer R, e_text R) depth 18
  each_function Funcs.List vs ws h = search (rows, e_integer R) depth 18
  each_function Funcs.Many vs ws h = search (rows, e_cset R) depth 18
  each_function Funcs.Map vs ws h = search (rows, e_text R) depth 18
  each_function Funcs.Match vs ws h = search (rows, e_text R) depth 18
  each_function Funcs.Member vs ws h = w_member R vs ws h
  each_function Funcs.Move vs ws h = w_move R vs ws h
  each_function Funcs.Numeric vs ws h = search (rows, e_integer R) depth 18
  each_function Funcs.Ord vs ws h = search (rows, e_text R) depth 18
  each_function Funcs.Pop vs ws h = w_takes R leftmost without_left (n_leftmost R) (n_without_left R) vs ws h
  each_function Funcs.Pos vs ws h = w_pos R vs ws h
  each_function Funcs.Pull vs ws h = w_takes R rightmost without_right (n_rightmost R) (n_without_right R) vs ws h
  each_function Funcs.Push vs ws h = w_adds R with_left (n_lefts R) vs ws h
  each_function Funcs.Put vs ws h = w_adds R with_right (n_rights R) vs ws h
  each_function Funcs.Read vs ws h = search (rows, e_file R) depth 18
  each_function Funcs.Reads vs ws h = search (rows, e_file R, e_integer R) depth 18
  each_function Funcs.Repl vs ws h = search (rows, e_integer R, e_text R) depth 18
  each_function Funcs.Reverse vs ws h = search (rows, e_text R) depth 18
  each_function Funcs.Right vs ws h = search (rows, e_integer R, e_text R) depth 18
  each_function Funcs.Seq vs ws h = search (rows, e_integer R) depth 18
  each_function Funcs.Set vs ws h = search (rows, e_list R) depth 18
  each_function Funcs.Sort vs ws h = search (rows, e_group R, e_integer R) depth 18
  each_function Funcs.Stop vs ws h = search rows depth 18
  each_function Funcs.String vs ws h = search (rows, e_text R) depth 18
  each_function Funcs.Tab vs ws h = w_tab R vs ws h
  each_function Funcs.Table vs ws h = search rows depth 18
  each_function Funcs.Trim vs ws h = search (rows, e_cset R, e_text R) depth 18
  each_function Funcs.TypeOf vs ws h = w_type R vs ws h
  each_function Funcs.Upto vs ws h = search (rows, e_cset R) depth 18
  each_function Funcs.Write vs ws h = search rows depth 18
  each_function Funcs.Writes vs ws h = search rows depth 18
  each_function Funcs.ErrorClear vs ws h = w_clear R
  each_function Funcs.Open vs ws h = search (rows, e_text R) depth 18
  each_function Funcs.Close vs ws h = search (rows, e_file R) depth 18
  each_function Funcs.Proc vs ws h = w_proc R vs ws h
  each_function Funcs.Args vs ws h = w_args R vs ws h

  pub resumed_to : (r s : Residual) → ResidualTo R r s → RowTo R (again r) (again s)
  resumed_to r s (text_bytes_to text k) = w_text_bytes R text k
  resumed_to r s (variable_bytes_to {x} {y} k t) = w_variable_bytes R x y k t
  resumed_to r s (list_items_to id k) = w_list_items R id k
  resumed_to r s (set_members_to id k) = w_set_members R id k
  resumed_to r s (table_values_to id k) = w_table_values R id k
  resumed_to r s (table_keys_to id k) = w_table_keys R id k
  resumed_to r s (record_fields_to id k) = w_record_fields R id k
  resumed_to r s (file_lines_to file) = w_lines R file
  resumed_to r s (undo_assign_to {x} {y} {v} {w} t h) = w_assigns R (wrong 205 None) (wrong 205 None) x y v w (λ now. fails) (λ now. fails) t h
      (o_wrong R 205 None None neither) (λ u z k. o_fails R)
  resumed_to r s (undo_exchange_to {x} {y} {u} {z} {v} {w} {a} {b} m g h i j) = w_both R (wrong 205 None) (wrong 205 None) m m x y u z v w a b
      (λ now. fails) (λ now. fails) refl g h i j (o_wrong R 205 None None neither) (λ p q k l. o_fails R)
  resumed_to r s (undo_position_to k) = w_undo_position R k
  resumed_to r s (counting_to n last step) = w_count R last step _
  resumed_to r s (sequence_to n step) = search rows depth 14
  resumed_to r s (balanced_to a b c d e f) = search rows depth 14
  resumed_to r s (found_to a b c d) = search rows depth 14
  resumed_to r s (among_to a b c d) = search rows depth 14

  pub operation_to : (op : Op) (xs ys : List Item) → Both (ItemTo R) xs ys → RowTo R (operation_row op xs) (operation_row op ys)
  operation_to op xs ys h = each_operation op (operand xs 0) (operand xs 1) (operand xs 2) (operand ys 0) (operand ys 1) (operand ys 2) (at 0) (at 1) (at 2)
    where
      at : (k : ℕ) → ItemTo R (operand xs k) (operand ys k)
      at k = both_at (ItemTo R) xs ys k (Val Null) (Val Null) h (val_to null_to)

  pub function_to : (f : Func) (xs ys : List Item) → Both (ItemTo R) xs ys → RowTo R (function_row R.whole f xs) (function_row R.left f ys)
  function_to f xs ys h = w_values R xs ys (function_of R.whole f) (function_of R.left f) h (λ vs ws g. each_function f vs ws g)

  -- The rows that steps are made with

  pub value_to : (x y : Item) → ItemTo R x y → RowTo R (value_row x) (value_row y)
  value_to x y i = w_value R x y gives_value gives_value i (λ v w h. o_value R v w h)

  pub list_row_to : (vs ws : List Value) → Both (ValueTo R.To) vs ws → RowTo R (list_row vs) (list_row ws)
  list_row_to vs ws h = w_list R vs ws h

  pub record_row_to : (kind : ℕ) (vs ws : List Value) → Both (ValueTo R.To) vs ws → RowTo R (record_row kind vs) (record_row kind ws)
  record_row_to kind vs ws h = w_new_record R (record { kind = kind; fields = vs }) (record { kind = kind; fields = ws }) gives_value gives_value
      (record { kind = refl; fields = h }) (λ v w g. o_value R v w g)

  pub text_row_to : (v w : Value) → ValueTo R.To v w → RowTo R (text_row v) (text_row w)
  text_row_to v w h = w_present R _ _ 103 (Some v) (Some w) _ _ (e_text R v w h) (each_to h)
      (λ text. w_text R v w (gives_value (Text text)) (gives_value (Text text)) h (o_value R _ _ (text_to text)))

  texts_to : (words : List (List ℕ)) → Both (ValueTo R.To) (text_values words) (text_values words)
  texts_to [] = both_nil
  texts_to (word ∷ words) = both_cons (text_to word) (texts_to words)

  pub words_row_to : (words : List (List ℕ)) → RowTo R (words_row words) (words_row words)
  words_row_to words = w_bytes R (sum_by length words) (list_row (text_values words)) (list_row (text_values words)) (w_list R _ _ (texts_to words))
