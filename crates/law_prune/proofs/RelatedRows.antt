-- Rows that look at the setting, by hand, in both runs.
use Rattle.std.proofs.Common.{◌≡◌, ℕ, zero, suc, ◌+◌, Bool, List, [], ◌∷◌, ◌++◌, length, Option, Some, None, refl, ap, subst}
use Rattle.std.specs.Prelude.{◌-◌, ℤ, pos, negsuc, Result, if◌then◌else◌, option_map, fold, max, min, nat_le, nat_lt, slice_get, slice_range}
use Rattle.icn_text.specs.declared.arithmetic.Arith.{Arith}
use Rattle.icn_text.specs.RandomNumbers.{random_step, pick_place}
use Rattle.icn_value.specs.Values.{Value, Integer, Text, Std, Procedure, ACoexp, ARecord, ASet, ATable, File, Variable, Item, Val, Var}
use Rattle.icn_value.specs.Sameness.{has_value, with_member}
use Rattle.icn_value.specs.Store.{Heap, Record, Setting, Table, having_heap, having_position, having_random, list_at, record_at, set_at, table_at, value_at, with_set}
use Rattle.icn_defs.specs.Arguments.{Keeper, SetKeeper, TableKeeper, arg, arg_or}
use Rattle.icn_defs.specs.Conversions.{ValueGroup, Textual, Listed, Collected, Tabled, Recorded, Filed, Activated, Single, group_of, held_text, integer_of, is_null, position_of, size_of, sort_list, text_of}
use Rattle.icn_defs.specs.Elements.{element_item, elements_of, field_item, key_item, list_items_from, part_item, part_of, picks, random_by, random_number, random_of, record_fields_from, set_members_from, table_values_from, text_bytes_from, text_elements, text_variable, variable_bytes_from}
use Rattle.icn_defs.specs.Images.{image, type_name, value_cmp}
use Rattle.icn_defs.specs.Lines.{lines_row}
use Rattle.icn_defs.specs.NamedValues.{args_row, arguments_of, held_procedure, proc_row, procedure_of}
use Rattle.icn_defs.specs.Operations.{new_set_of, sets_or_csets, size_row}
use Rattle.icn_defs.specs.ReadAndAssign.{costs_unless}
use Rattle.icn_defs.specs.Rows.{Row, ListItems, SetMembers, TableKeys, TableValues, RecordFields, TextBytes, VariableBytes, FileLines, UndoPosition, builds, changes, changes_heap, check, costs_text, fails, fails_unless, gives, gives_list, gives_value, here, present, suspends, thing_or_failure}
use Rattle.icn_defs.specs.Scanning.{SearchedText, between, region_from, tabs_to, undo_position_again}
use Rattle.icn_defs.specs.StepRows.{coexpression_row}
use Rattle.icn_defs.specs.Strings.{image_row, type_row}
use Rattle.icn_defs.specs.Structures.{copy_of, delete_row, gives_pair_lists, gives_pairs, has_key, inserts, member_row, new_record_of, new_set_by, new_table_of, pair_lists, sorted_of, table_keys_from, table_sorted, without_key}
use Rattle.icn_defs.specs.Variables.{element_position, in_order, places, positions, section_of, subscript_of}
use Rattle.law_prune.proofs.RelatedValues.{ValueTo, coexp_to, integer_to, null_to, procedure_to, text_to, chars_to, file_to, list_to, record_to, set_to, table_to}
use Rattle.law_prune.proofs.RelatedLists.{Both, OptionTo, both_append, both_cons, both_drop, both_get, both_length, both_nil, both_set, both_take, each_to, neither}
use Rattle.law_prune.proofs.RelatedSettings.{Renaming, ItemTo, ListTo, PairTo, Parts, PartsTo, RecordTo, RowTo, SettingTo, TableTo, VariableTo, file_lines_to, list_items_to, parts_of, record_fields_to, set_members_to, table_keys_to, table_values_to, text_bytes_to, undo_position_to, val_to, var_to, variable_bytes_to, view}
use Rattle.law_prune.proofs.RelatedViews.{e_cset, e_has, e_held_text, e_integer, e_keeper, e_null, e_text, i_element, i_field, i_key, i_part, l_at, m_fold, m_with, m_without, p_flat, p_without, r_at, s_at, t_at, v_at, v_if, v_record, v_set, v_table, x_part}
use Rattle.law_prune.proofs.RelatedImages.{e_has_key, e_image, e_size, e_type, m_sorted, n_procedure, p_by_entry, p_by_key}
use Rattle.law_prune.proofs.RelatedWords.{o_fails, o_gives, o_suspends, o_value, o_wrong, s_records, s_sets, s_tables, w_builds, w_cells, w_changes, w_check, w_computed, w_found, w_found_pair, w_found_value, w_heap, w_here, w_line_from, w_list, w_new_list, w_passing, w_present, w_readable, w_reads, w_stores, w_text, w_unless, w_value}

module _ (R : Renaming) where
  pub v_integer : (n m : ℤ) → n ≡ m → ValueTo R.To (Integer n) (Integer m)
  v_integer n m e = subst (λ (k : ℤ). ValueTo R.To (Integer n) (Integer k)) e (integer_to n)

  pub v_arg_or : (v w : Value) (vs ws : List Value) (k : ℕ) → ValueTo R.To v w → Both (ValueTo R.To) vs ws
      → ValueTo R.To (arg_or v vs k) (arg_or w ws k)
  v_arg_or v w vs ws k h g =
      let t : ValueTo R.To (arg vs k) (arg ws k) = v_at R vs ws k g in
      v_if R (is_null (arg vs k)) (is_null (arg ws k)) v w (arg vs k) (arg ws k) (e_null R _ _ t) h t

  -- New structures

  one_more : {A B : Type 0} (P : A → B → Type 0) (xs : List A) (ys : List B) → Both P xs ys → 1 + length xs ≡ 1 + length ys
  one_more P xs ys h = ap (λ (n : ℕ). 1 + n) (both_length P xs ys h)

  pub w_new_set : (vs ws : List Value) (next other : Value → Row) → Both (ValueTo R.To) vs ws
      → ((v w : Value) → ValueTo R.To v w → RowTo R (next v) (other w)) → RowTo R (new_set_of vs next) (new_set_of ws other)
  w_new_set vs ws next other g f =
      let more : List Value → Heap → Heap = λ us heap. record heap { sets = heap.sets ++ us ∷ [] } in
      let last : Setting → Value = λ s. ASet (length s.world.heap.sets) in
      let all : List Value → (Value → Row) → Setting → Row = λ us go s. changes_heap (more us) (go (last s)) in
      w_cells R (1 + length vs) (1 + length ws) (here (all vs next)) (here (all ws other)) (one_more (ValueTo R.To) vs ws g)
      (w_here R (all vs next) (all ws other) (λ a q h. w_heap R (more vs) (more ws) (next (last a)) (other (last (view a q)))
      (λ s p k. s_sets R s p _ _ k (both_append (Both (ValueTo R.To)) _ _ _ _ k.sets (both_cons g both_nil)))
      (f (last a) (last (view a q)) (v_set R _ _ (both_length (Both (ValueTo R.To)) _ _ h.sets)))))

  pub w_new_table : (t u : Table) (next other : Value → Row) → TableTo R t u
      → ((v w : Value) → ValueTo R.To v w → RowTo R (next v) (other w)) → RowTo R (new_table_of t next) (new_table_of u other)
  w_new_table t u next other g f =
      let more : Table → Heap → Heap = λ x heap. record heap { tables = heap.tables ++ x ∷ [] } in
      let last : Setting → Value = λ s. ATable (length s.world.heap.tables) in
      let all : Table → (Value → Row) → Setting → Row = λ x go s. changes_heap (more x) (go (last s)) in
      w_cells R (1 + length t.pairs) (1 + length u.pairs) (here (all t next)) (here (all u other)) (one_more (PairTo R) t.pairs u.pairs g.pairs)
      (w_here R (all t next) (all u other) (λ a q h. w_heap R (more t) (more u) (next (last a)) (other (last (view a q)))
      (λ s p k. s_tables R s p _ _ k (both_append (TableTo R) _ _ _ _ k.tables (both_cons g both_nil)))
      (f (last a) (last (view a q)) (v_table R _ _ (both_length (TableTo R) _ _ h.tables)))))

  pub w_new_record : (r s : Record) (next other : Value → Row) → RecordTo R r s
      → ((v w : Value) → ValueTo R.To v w → RowTo R (next v) (other w)) → RowTo R (new_record_of r next) (new_record_of s other)
  w_new_record r s next other g f =
      let more : Record → Heap → Heap = λ x heap. record heap { records = heap.records ++ x ∷ [] } in
      let last : Setting → Value = λ s. ARecord (length s.world.heap.records) in
      let all : Record → (Value → Row) → Setting → Row = λ x go s. changes_heap (more x) (go (last s)) in
      w_cells R (1 + length r.fields) (1 + length s.fields) (here (all r next)) (here (all s other)) (one_more (ValueTo R.To) r.fields s.fields g.fields)
      (w_here R (all r next) (all s other) (λ a q h. w_heap R (more r) (more s) (next (last a)) (other (last (view a q)))
      (λ s p k. s_records R s p _ _ k (both_append (RecordTo R) _ _ _ _ k.records (both_cons g both_nil)))
      (f (last a) (last (view a q)) (v_record R _ _ (both_length (RecordTo R) _ _ h.records)))))

  pub r_coexpression : (n m : ℕ) → n ≡ m → RowTo R (coexpression_row n) (coexpression_row m)
  r_coexpression n m e =
      let more : Setting → Heap → Heap = λ s heap. record heap { coexps = s.world.heap.coexps ++ zero ∷ [] } in
      let all : Setting → Row = λ s. changes_heap (more s) (gives_value (ACoexp (length s.world.heap.coexps))) in
      w_cells R (1 + n) (1 + m) (here all) (here all) (ap (λ (k : ℕ). 1 + k) e) (w_here R all all (λ a q h. w_heap R (more a) (more (view a q)) _ _
      (λ s p k. record { rest = refl; parts = k }) (o_value R _ _ (coexp_to (length a.world.heap.coexps)))))

  -- What rows go on with

  pub w_picks : (n m : ℕ) (next other : ℕ → Row) → n ≡ m → ((k : ℕ) → RowTo R (next k) (other k)) → RowTo R (picks n next) (picks m other)
  w_picks n m next other e f =
      let all : ℕ → (ℕ → Row) → Setting → Row = λ size go a. let state = random_step a.world.random in changes (having_random state)
      (go (pick_place state size)) in
      w_here R (all n next) (all m other) (λ a q h. let state = random_step a.world.random in
      w_changes R (having_random state) (having_random state) (next (pick_place state n)) (other (pick_place state m))
      (λ b p k. record { rest = refl; parts = k })
      (subst (λ (k : ℕ). RowTo R (next (pick_place state n)) (other (pick_place state k))) e (f (pick_place state n))))

  pub w_element_position : (n : ℤ) (k m : ℕ) (next other : ℕ → Row) → k ≡ m → ((i : ℕ) → RowTo R (next i) (other i))
      → RowTo R (element_position n k next) (element_position n m other)
  w_element_position n k m next other e f = w_found R _ _ _ _ (ap (position_of n) e)
      (λ place. w_passing R _ _ (next place) (other place) (ap (nat_le place) e) (f place))

  pub w_places : (m n : ℤ) (k l : ℕ) (next other : ℕ × ℕ → Row) → k ≡ l → ((p : ℕ × ℕ) → RowTo R (next p) (other p))
      → RowTo R (places m n k next) (places m n l other)
  w_places m n k l next other e f =
      w_found R _ _ _ _ (ap (position_of m) e) (λ a. w_found R _ _ _ _ (ap (position_of n) e) (λ b. f (in_order a b)))

  pub w_positions : (second : ℤ → ℤ → Result ℤ Arith) (u w x y : Value) (next other : ℤ × ℤ → Row) → ValueTo R.To u x → ValueTo R.To w y
      → ((p : ℤ × ℤ) → RowTo R (next p) (other p)) → RowTo R (positions second u w next) (positions second x y other)
  w_positions second u w x y next other h g f = w_present R _ _ 101 (Some u) (Some x) _ _ (e_integer R u x h) (each_to h)
      (λ m. w_present R _ _ 101 (Some w) (Some y) _ _ (e_integer R w y g) (each_to g) (λ n. w_computed R _ _ _ (λ end. f (m, end))))

  start_to : (t u : Bool) (n : ℕ) → t ≡ u → pos (if t then n else 1) ≡ pos (if u then n else 1)
  start_to t u n e = ap (λ (b : Bool). pos (if b then n else 1)) e

  pub w_region : (vs ws : List Value) (n : ℕ) (next other : SearchedText → Row) → Both (ValueTo R.To) vs ws
      → ((s : SearchedText) → RowTo R (next s) (other s)) → RowTo R (region_from vs n next) (region_from ws n other)
  w_region vs ws n next other h f =
      let text : List Value → Setting → Value = λ us a. arg_or (Text a.world.subject) us n in
      let start : List Value → Setting → ℕ = λ us a. if is_null (arg us n) then a.world.position else 1 in
      let first : List Value → Setting → Value = λ us a. arg_or (Integer (pos (start us a))) us (n + 1) in
      let last : List Value → Value = λ us. arg_or (Integer (pos 0)) us (n + 2) in
      let third : List Value → (SearchedText → Row) → List ℕ → ℤ → ℤ → Row = λ us go s i j. go (record { text = s; first = i; last = j }) in
      let second : List Value → (SearchedText → Row) → List ℕ → ℤ → Row = λ us go s i. present (integer_of (last us)) 101 (Some (last us)) (third us go s i) in
      let rest : List Value → (SearchedText → Row) → Setting → List ℕ → Row =
      λ us go a s. present (integer_of (first us a)) 101 (Some (first us a)) (second us go s) in
      let all : List Value → (SearchedText → Row) → Setting → Row = λ us go a. present (text_of (text us a)) 103 (Some (text us a)) (rest us go a) in
      w_here R (all vs next) (all ws other) (λ a q g.
      let t : ValueTo R.To (text vs a) (text ws (view a q)) = v_arg_or _ _ vs ws n (text_to a.world.subject) h in
      let i : ValueTo R.To (first vs a) (first ws (view a q)) =
      v_arg_or _ _ vs ws (n + 1) (v_integer _ _ (start_to _ _ a.world.position (e_null R _ _ (v_at R vs ws n h)))) h in
      let j : ValueTo R.To (last vs) (last ws) = v_arg_or _ _ vs ws (n + 2) (integer_to (pos 0)) h in
      w_present R _ _ 103 _ _ (rest vs next a) (rest ws other (view a q)) (e_text R _ _ t) (each_to t)
      (λ s. w_present R _ _ 101 _ _ (second vs next s) (second ws other s) (e_integer R _ _ i) (each_to i)
      (λ x. w_present R _ _ 101 _ _ (third vs next s x) (third ws other s x) (e_integer R _ _ j) (each_to j)
      (λ y. f (record { text = s; first = x; last = y })))))

  pub w_tabs : (place : ℕ) → RowTo R (tabs_to place) (tabs_to place)
  w_tabs place =
      let text : Setting → List ℕ = λ a. between a.world.subject (min a.world.position place) (max a.world.position place) in
      let all : Setting → Row = λ a. changes (having_position place) (suspends (Val (Text (text a))) (UndoPosition a.world.position)) in
      w_here R all all (λ a q h. w_changes R (having_position place) (having_position place) _ _ (λ b p k. record { rest = refl; parts = k })
      (o_suspends R _ _ _ _ (val_to (text_to (text a))) (undo_position_to a.world.position)))

  -- a place in the subject is found alike
  pub w_subject : (place : Setting → Option ℕ) (next other : Setting → ℕ → Row) → ((a : Setting) (q : Parts) → place a ≡ place (view a q))
      → ((a : Setting) (q : Parts) (k : ℕ) → RowTo R (next a k) (other (view a q) k))
      → RowTo R (here (λ a. thing_or_failure (place a) (next a))) (here (λ a. thing_or_failure (place a) (other a)))
  w_subject place next other e f = w_here R (λ a. thing_or_failure (place a) (next a)) (λ a. thing_or_failure (place a) (other a))
      (λ a q h. w_found R _ _ (next a) (other (view a q)) (e a q) (λ k. f a q k))

  pub w_undo_position : (old : ℕ) → RowTo R (undo_position_again old) (undo_position_again old)
  w_undo_position old =
      let all : Setting → Row = λ a. check (nat_le old (length a.world.subject + 1)) 205 None (changes (having_position old) fails) in
      w_here R all all (λ a q h. w_check R _ _ 205 None None (changes (having_position old) fails) (changes (having_position old) fails) refl neither
      (w_changes R (having_position old) (having_position old) fails fails (λ b p k. record { rest = refl; parts = k }) (o_fails R)))

  pub w_inserts : (c : Keeper) (key twin v w : Value) (next other : Row) → ValueTo R.To key twin → ValueTo R.To v w → RowTo R next other
      → RowTo R (inserts c key v next) (inserts c twin w other)
  w_inserts (SetKeeper id) key twin v w next other g h f =
      let put : Setting → Value → Heap → Heap = λ s k. with_set id (with_member (set_at s.world.heap id) k) in
      w_here R (λ s. costs_unless (has_value (set_at s.world.heap id) key) (changes_heap (put s key) next))
      (λ s. costs_unless (has_value (set_at s.world.heap id) twin) (changes_heap (put s twin) other)) (λ a q t.
      let set : Both (ValueTo R.To) (set_at a.world.heap id) (set_at (view a q).world.heap id) = s_at R a.world.heap.sets q.sets id t.sets in
      w_unless R _ _ (changes_heap (put a key) next) (changes_heap (put (view a q) twin) other) (e_has R _ _ key twin set g)
      (w_heap R (put a key) (put (view a q) twin) next other
      (λ s p k. s_sets R s p _ _ k (both_set (Both (ValueTo R.To)) _ _ id _ _ k.sets (m_with R _ _ key twin set g))) f))
  w_inserts (TableKeeper id) key twin v w next other g h f = w_stores R id key twin v w next other g h f

  pub w_pairs : (ps qs : List (Value × Value)) (next other : List Value → Row) → Both (PairTo R) ps qs
      → ((vs ws : List Value) → Both (ValueTo R.To) vs ws → RowTo R (next vs) (other ws)) → RowTo R (pair_lists ps next) (pair_lists qs other)
  w_pairs ps qs next other both_nil f = f [] [] both_nil
  w_pairs ps qs next other (both_cons {x} {y} {xs = us} {ys = zs} h t) f =
      w_new_list R (x.0 ∷ x.1 ∷ []) (y.0 ∷ y.1 ∷ []) (λ list. pair_lists us (λ lists. next (list ∷ lists)))
      (λ list. pair_lists zs (λ lists. other (list ∷ lists)))
      (both_cons h.key (both_cons h.value both_nil))
      (λ v w g. w_pairs us zs (λ lists. next (v ∷ lists)) (λ lists. other (w ∷ lists)) t (λ vs ws k. f (v ∷ vs) (w ∷ ws) (both_cons g k)))

  -- Rows that look at the heap as a whole

  pub w_size : (x y : Item) → ItemTo R x y → RowTo R (size_row x) (size_row y)
  w_size x y t =
      let gives_size : ℕ → Row = λ size. gives_value (Integer (pos size)) in
      let all : Value → Setting → Row = λ v a. present (size_of a.world.heap v) 112 (Some v) gives_size in
      w_value R x y (λ v. here (all v)) (λ v. here (all v)) t (λ v w g. w_here R (all v) (all w) (λ a q h.
      w_present R _ _ 112 (Some v) (Some w) gives_size gives_size (e_size R a q h v w g) (each_to g) (λ size. o_value R _ _ (integer_to (pos size)))))

  pub w_image : (vs ws : List Value) → Both (ValueTo R.To) vs ws → RowTo R (image_row R.whole vs) (image_row R.left ws)
  w_image vs ws t = w_here R (λ a. builds (image R.whole a.world.heap (arg vs 0))) (λ a. builds (image R.left a.world.heap (arg ws 0)))
      (λ a q h. subst (λ (text : List ℕ). RowTo R (builds (image R.whole a.world.heap (arg vs 0))) (builds text))
      (e_image R a q h (arg vs 0) (arg ws 0) (v_at R vs ws 0 t)) (w_builds R (image R.whole a.world.heap (arg vs 0))))

  pub w_type : (vs ws : List Value) → Both (ValueTo R.To) vs ws → RowTo R (type_row R.whole vs) (type_row R.left ws)
  w_type vs ws t =
      w_here R (λ a. gives_value (Text (type_name R.whole a.world.heap (arg vs 0)))) (λ a. gives_value (Text (type_name R.left a.world.heap (arg ws 0))))
      (λ a q h. subst (λ (text : List ℕ). RowTo R (gives_value (Text (type_name R.whole a.world.heap (arg vs 0)))) (gives_value (Text text)))
      (e_type R a q h (arg vs 0) (arg ws 0) (v_at R vs ws 0 t)) (o_value R _ _ (text_to _)))

  pub w_member : (vs ws : List Value) → Both (ValueTo R.To) vs ws → RowTo R (member_row vs) (member_row ws)
  w_member vs ws t =
      let first : ValueTo R.To (arg vs 0) (arg ws 0) = v_at R vs ws 0 t in
      let second : ValueTo R.To (arg vs 1) (arg ws 1) = v_at R vs ws 1 t in
      let all : List Value → Keeper → Setting → Row = λ us kept a. fails_unless (has_key a.world.heap kept (arg us 1)) (gives_value (arg us 1)) in
      w_present R _ _ 122 _ _ (λ kept. here (all vs kept)) (λ kept. here (all ws kept)) (e_keeper R _ _ first) (each_to first)
      (λ kept. w_here R (all vs kept) (all ws kept) (λ a q h. w_passing R _ _ _ _ (e_has_key R a q h kept (arg vs 1) (arg ws 1) second)
      (o_value R _ _ second)))

  without_to : (kept : Keeper) (key twin : Value) → ValueTo R.To key twin → (a : Setting) (q : Parts) → PartsTo R (parts_of a) q
      → SettingTo R (having_heap (without_key kept key) a) (having_heap (without_key kept twin) (view a q))
  without_to (SetKeeper id) key twin g a q h =
      s_sets R a q _ _ h (both_set (Both (ValueTo R.To)) _ _ id _ _ h.sets (m_without R _ _ key twin (s_at R a.world.heap.sets q.sets id h.sets) g))
  without_to (TableKeeper id) key twin g a q h =
      let table : TableTo R (table_at a.world.heap id) (table_at (view a q).world.heap id) = t_at R a.world.heap.tables q.tables id h.tables in
      s_tables R a q _ _ h (both_set (TableTo R) _ _ id _ _ h.tables (record { default = table.default; pairs = p_without R _ _ key twin table.pairs g }))

  pub w_delete : (vs ws : List Value) → Both (ValueTo R.To) vs ws → RowTo R (delete_row vs) (delete_row ws)
  w_delete vs ws t =
      let first : ValueTo R.To (arg vs 0) (arg ws 0) = v_at R vs ws 0 t in
      let second : ValueTo R.To (arg vs 1) (arg ws 1) = v_at R vs ws 1 t in
      w_present R _ _ 122 _ _ (λ kept. changes_heap (without_key kept (arg vs 1)) (gives_value (arg vs 0)))
      (λ kept. changes_heap (without_key kept (arg ws 1)) (gives_value (arg ws 0))) (e_keeper R _ _ first) (each_to first)
      (λ kept. w_heap R (without_key kept (arg vs 1)) (without_key kept (arg ws 1)) (gives_value (arg vs 0)) (gives_value (arg ws 0))
      (without_to kept (arg vs 1) (arg ws 1) second) (o_value R _ _ first))

  w_pair_lists : (ps qs : List (Value × Value)) → Both (PairTo R) ps qs → RowTo R (gives_pair_lists ps) (gives_pair_lists qs)
  w_pair_lists ps qs t = w_pairs ps qs gives_list gives_list t (λ vs ws h. w_list R vs ws h)

  w_flat : (ps qs : List (Value × Value)) → Both (PairTo R) ps qs → RowTo R (gives_pairs ps) (gives_pairs qs)
  w_flat ps qs t = w_list R _ _ (p_flat R ps qs t)

  w_table_sorted : (a : Setting) (q : Parts) → PartsTo R (parts_of a) q → (ps qs : List (Value × Value)) (n : ℤ) (v w : Value) → Both (PairTo R) ps qs
      → ValueTo R.To v w → RowTo R (table_sorted R.whole a.world.heap ps n v) (table_sorted R.left (view a q).world.heap qs n w)
  w_table_sorted a q h ps qs (pos zero) v w t g = o_wrong R 205 (Some v) (Some w) (each_to g)
  w_table_sorted a q h ps qs (pos (suc zero)) v w t g = w_pair_lists _ _ (p_by_key R a q h ps qs t)
  w_table_sorted a q h ps qs (pos (suc (suc zero))) v w t g = w_pair_lists _ _ (p_by_entry R a q h ps qs t)
  w_table_sorted a q h ps qs (pos (suc (suc (suc zero)))) v w t g = w_flat _ _ (p_by_key R a q h ps qs t)
  w_table_sorted a q h ps qs (pos (suc (suc (suc (suc zero))))) v w t g = w_flat _ _ (p_by_entry R a q h ps qs t)
  w_table_sorted a q h ps qs (pos (suc (suc (suc (suc (suc n)))))) v w t g = o_wrong R 205 (Some v) (Some w) (each_to g)
  w_table_sorted a q h ps qs (negsuc n) v w t g = o_wrong R 205 (Some v) (Some w) (each_to g)

  sorted_to : (v w x y : Value) (n : ℤ) (g : ValueGroup) → ValueTo R.To v w → ValueTo R.To x y
      → RowTo R (sorted_of R.whole v n x g) (sorted_of R.left w n y g)
  sorted_to v w x y n (Textual text) h k = o_wrong R 115 _ _ (each_to h)
  sorted_to v w x y n (Listed id) h k =
      w_here R (λ a. gives_list (sort_list (value_cmp R.whole a.world.heap) (list_at a.world.heap id).items))
      (λ a. gives_list (sort_list (value_cmp R.left a.world.heap) (list_at a.world.heap id).items))
      (λ a q t. w_list R _ _ (m_sorted R a q t _ _ (l_at R a.world.heap.lists q.lists id t.lists).items))
  sorted_to v w x y n (Collected id) h k =
      w_here R (λ a. gives_list (sort_list (value_cmp R.whole a.world.heap) (set_at a.world.heap id)))
      (λ a. gives_list (sort_list (value_cmp R.left a.world.heap) (set_at a.world.heap id)))
      (λ a q t. w_list R _ _ (m_sorted R a q t _ _ (s_at R a.world.heap.sets q.sets id t.sets)))
  sorted_to v w x y n (Tabled id) h k =
      w_here R (λ a. table_sorted R.whole a.world.heap (table_at a.world.heap id).pairs n x)
      (λ a. table_sorted R.left a.world.heap (table_at a.world.heap id).pairs n y)
      (λ a q t. w_table_sorted a q t _ _ n x y (t_at R a.world.heap.tables q.tables id t.tables).pairs k)
  sorted_to v w x y n (Recorded id) h k =
      w_here R (λ a. gives_list (sort_list (value_cmp R.whole a.world.heap) (record_at a.world.heap id).fields))
      (λ a. gives_list (sort_list (value_cmp R.left a.world.heap) (record_at a.world.heap id).fields))
      (λ a q t. w_list R _ _ (m_sorted R a q t _ _ (r_at R a.world.heap.records q.records id t.records).fields))
  sorted_to v w x y n (Filed file) h k = o_wrong R 115 _ _ (each_to h)
  sorted_to v w x y n (Activated id) h k = o_wrong R 115 _ _ (each_to h)
  sorted_to v w x y n Single h k = o_wrong R 115 _ _ (each_to h)

  pub w_sorted : (v w x y : Value) (n : ℤ) (g d : ValueGroup) → g ≡ d → ValueTo R.To v w → ValueTo R.To x y
      → RowTo R (sorted_of R.whole v n x g) (sorted_of R.left w n y d)
  w_sorted v w x y n g d e h k = subst (λ (z : ValueGroup). RowTo R (sorted_of R.whole v n x g) (sorted_of R.left w n y z)) e (sorted_to v w x y n g h k)

  pub w_proc : (vs ws : List Value) → Both (ValueTo R.To) vs ws → RowTo R (proc_row R.whole vs) (proc_row R.left ws)
  w_proc vs ws t = by (procedure_of R.whole (arg vs 0)) (procedure_of R.left (arg ws 0)) (n_procedure R (arg vs 0) (arg ws 0) (v_at R vs ws 0 t))
    where
      by : (o p : Option ℕ) → OptionTo R.To o p
          → RowTo R (thing_or_failure o (λ number. gives_value (Procedure number))) (thing_or_failure p (λ number. gives_value (Procedure number)))
      by o p neither = record { same = λ a b h. (o_fails R).same a b h }
      by o p (each_to {x} {y} r) = record { same = λ a b h. (o_value R (Procedure x) (Procedure y) (procedure_to x y r)).same a b h }

  arguments_to : (v w : Value) → ValueTo R.To v w
      → RowTo R (present (held_procedure v) 106 (Some v) (λ number. gives_value (Integer (arguments_of R.whole number))))
      (present (held_procedure w) 106 (Some w) (λ number. gives_value (Integer (arguments_of R.left number))))
  arguments_to v w (procedure_to n k t) =
      record { same = λ a b h. (o_value R _ _ (v_integer (arguments_of R.whole n) (arguments_of R.left k) (R.names.same_arguments n k t))).same a b h }
  arguments_to v w null_to = record { same = λ a b h. (o_wrong R 106 _ _ (each_to null_to)).same a b h }
  arguments_to v w (integer_to i) = record { same = λ a b h. (o_wrong R 106 _ _ (each_to (integer_to i))).same a b h }
  arguments_to v w (text_to bytes) = record { same = λ a b h. (o_wrong R 106 _ _ (each_to (text_to bytes))).same a b h }
  arguments_to v w (chars_to bytes) = record { same = λ a b h. (o_wrong R 106 _ _ (each_to (chars_to bytes))).same a b h }
  arguments_to v w (file_to file) = record { same = λ a b h. (o_wrong R 106 _ _ (each_to (file_to file))).same a b h }
  arguments_to v w (record_to id) = record { same = λ a b h. (o_wrong R 106 _ _ (each_to (record_to id))).same a b h }
  arguments_to v w (list_to id) = record { same = λ a b h. (o_wrong R 106 _ _ (each_to (list_to id))).same a b h }
  arguments_to v w (set_to id) = record { same = λ a b h. (o_wrong R 106 _ _ (each_to (set_to id))).same a b h }
  arguments_to v w (table_to id) = record { same = λ a b h. (o_wrong R 106 _ _ (each_to (table_to id))).same a b h }
  arguments_to v w (coexp_to id) = record { same = λ a b h. (o_wrong R 106 _ _ (each_to (coexp_to id))).same a b h }

  pub w_args : (vs ws : List Value) → Both (ValueTo R.To) vs ws → RowTo R (args_row R.whole vs) (args_row R.left ws)
  w_args vs ws t = arguments_to (arg vs 0) (arg ws 0) (v_at R vs ws 0 t)

  -- Elements

  pub w_variable_bytes : (x y : Variable) (offset : ℕ) → VariableTo R x y → RowTo R (variable_bytes_from x offset) (variable_bytes_from y offset)
  w_variable_bytes x y offset t =
      let rest : Variable → List ℕ → Row =
      λ u text. fails_unless (nat_lt offset (length text)) (suspends (Var (part_of u (offset + 1) 1)) (VariableBytes u (offset + 1))) in
      w_reads R x y (λ v. present (held_text v) 103 (Some v) (rest x)) (λ v. present (held_text v) 103 (Some v) (rest y)) t
      (λ v w h. w_present R _ _ 103 (Some v) (Some w) (rest x) (rest y) (e_held_text R v w h) (each_to h)
      (λ text. w_passing R _ _ _ _ refl (o_suspends R _ _ _ _ (var_to (x_part R x y (offset + 1) 1 t)) (variable_bytes_to (offset + 1) t))))

  pub w_text_bytes : (text : List ℕ) (offset : ℕ) → RowTo R (text_bytes_from text offset) (text_bytes_from text offset)
  w_text_bytes text offset = w_found R _ _ (λ byte. suspends (Val (Text (byte ∷ []))) (TextBytes text (offset + 1)))
      (λ byte. suspends (Val (Text (byte ∷ []))) (TextBytes text (offset + 1))) refl
      (λ byte. o_suspends R _ _ _ _ (val_to (text_to (byte ∷ []))) (text_bytes_to text (offset + 1)))

  pub w_list_items : (id index : ℕ) → RowTo R (list_items_from id index) (list_items_from id index)
  w_list_items id index =
      let all : Setting → Row = λ a. let list = list_at a.world.heap id in
      fails_unless (nat_lt index (length list.items)) (suspends (element_item id list index) (ListItems id (index + 1))) in
      w_here R all all (λ a q h.
      let list : ListTo R (list_at a.world.heap id) (list_at (view a q).world.heap id) = l_at R a.world.heap.lists q.lists id h.lists in
      w_passing R _ _ _ _ (ap (nat_lt index) (both_length (ValueTo R.To) _ _ list.items))
      (o_suspends R _ _ _ _ (i_element R id _ _ index list) (list_items_to id (index + 1))))

  pub w_set_members : (id index : ℕ) → RowTo R (set_members_from id index) (set_members_from id index)
  w_set_members id index =
      let gives_member : Value → Row = λ member. suspends (Val member) (SetMembers id (index + 1)) in
      let all : Setting → Row = λ a. thing_or_failure (slice_get (set_at a.world.heap id) index) gives_member in
      w_here R all all (λ a q h. w_found_value R _ _ gives_member gives_member
      (both_get (ValueTo R.To) _ _ index (s_at R a.world.heap.sets q.sets id h.sets))
      (λ v w t. o_suspends R _ _ _ _ (val_to t) (set_members_to id (index + 1))))

  pub w_table_values : (id index : ℕ) → RowTo R (table_values_from id index) (table_values_from id index)
  w_table_values id index =
      let gives_pair : Value × Value → Row = λ pair. suspends (key_item id pair.0) (TableValues id (index + 1)) in
      let all : Setting → Row = λ a. thing_or_failure (slice_get (table_at a.world.heap id).pairs index) gives_pair in
      w_here R all all (λ a q h. w_found_pair R _ _ gives_pair gives_pair
      (both_get (PairTo R) _ _ index (t_at R a.world.heap.tables q.tables id h.tables).pairs)
      (λ v w t. o_suspends R _ _ _ _ (i_key R id v.0 w.0 t.key) (table_values_to id (index + 1))))

  pub w_table_keys : (id index : ℕ) → RowTo R (table_keys_from id index) (table_keys_from id index)
  w_table_keys id index =
      let gives_pair : Value × Value → Row = λ pair. suspends (Val pair.0) (TableKeys id (index + 1)) in
      let all : Setting → Row = λ a. thing_or_failure (slice_get (table_at a.world.heap id).pairs index) gives_pair in
      w_here R all all (λ a q h. w_found_pair R _ _ gives_pair gives_pair
      (both_get (PairTo R) _ _ index (t_at R a.world.heap.tables q.tables id h.tables).pairs)
      (λ v w t. o_suspends R _ _ _ _ (val_to t.key) (table_keys_to id (index + 1))))

  pub w_record_fields : (id index : ℕ) → RowTo R (record_fields_from id index) (record_fields_from id index)
  w_record_fields id index =
      let all : Setting → Row = λ a. fails_unless (nat_lt index (length (record_at a.world.heap id).fields))
      (suspends (field_item id index) (RecordFields id (index + 1))) in
      w_here R all all (λ a q h. w_passing R _ _ _ _
      (ap (nat_lt index) (both_length (ValueTo R.To) _ _ (r_at R a.world.heap.records q.records id h.records).fields))
      (o_suspends R _ _ _ _ (i_field R id index) (record_fields_to id (index + 1))))

  pub w_lines : (file : File) → RowTo R (lines_row file) (lines_row file)
  w_lines file =
      let gives_line : List ℕ → Row = λ line. suspends (Val (Text line)) (FileLines file) in
      w_readable R file (Std file) (Std file) _ _ (file_to file) (λ from. w_line_from R from gives_line gives_line
      (λ line. o_suspends R _ _ _ _ (val_to (text_to line)) (file_lines_to file)))

  text_to_elements : (o p : Option Variable) (v w : Value) (text : List ℕ) → OptionTo (VariableTo R) o p → ValueTo R.To v w
      → RowTo R (text_elements o v text) (text_elements p w text)
  text_to_elements o p v w text neither h = w_text R v w _ _ h (w_text_bytes text 0)
  text_to_elements o p v w text (each_to {x} {y} t) h = w_variable_bytes x y 0 t

  text_variable_to : (x y : Item) (v w : Value) → ItemTo R x y → ValueTo R.To v w → OptionTo (VariableTo R) (text_variable x v) (text_variable y w)
  text_variable_to x y v w (val_to g) h = neither
  text_variable_to x y v w (var_to {x = s} {y = t} g) h =
      subst (λ (o : Option (List ℕ)). OptionTo (VariableTo R) (option_map (λ z. s) (held_text v)) (option_map (λ z. t) o)) (e_held_text R v w h)
      (by (held_text v))
    where
      by : (o : Option (List ℕ)) → OptionTo (VariableTo R) (option_map (λ z. s) o) (option_map (λ z. t) o)
      by None = neither
      by (Some text) = each_to g

  elements_to : (x y : Item) (v w : Value) (g : ValueGroup) → ItemTo R x y → ValueTo R.To v w → RowTo R (elements_of x v g) (elements_of y w g)
  elements_to x y v w (Textual text) i h = text_to_elements _ _ v w text (text_variable_to x y v w i h) h
  elements_to x y v w (Listed id) i h = w_list_items id 0
  elements_to x y v w (Collected id) i h = w_set_members id 0
  elements_to x y v w (Tabled id) i h = w_table_values id 0
  elements_to x y v w (Recorded id) i h = w_record_fields id 0
  elements_to x y v w (Filed file) i h = w_lines file
  elements_to x y v w (Activated id) i h = o_wrong R 116 _ _ (each_to h)
  elements_to x y v w Single i h = o_wrong R 116 _ _ (each_to h)

  pub w_elements : (x y : Item) (v w : Value) (g d : ValueGroup) → g ≡ d → ItemTo R x y → ValueTo R.To v w → RowTo R (elements_of x v g) (elements_of y w d)
  w_elements x y v w g d e i h = subst (λ (z : ValueGroup). RowTo R (elements_of x v g) (elements_of y w z)) e (elements_to x y v w g i h)

  -- At random

  random_number_to : (v w : Value) (n : ℤ) → ValueTo R.To v w → RowTo R (random_number v n) (random_number w n)
  random_number_to v w (pos n) h = w_check R _ _ 205 (Some v) (Some w) _ _ refl (each_to h)
      (w_picks n n _ _ refl (λ index. o_value R (Integer (pos (1 + index))) (Integer (pos (1 + index))) (integer_to _)))
  random_number_to v w (negsuc n) h = o_wrong R 205 _ _ (each_to h)

  random_to : (x y : Item) (v w : Value) (g : ValueGroup) → ItemTo R x y → ValueTo R.To v w → RowTo R (random_of x v g) (random_of y w g)
  random_to x y v w (Textual text) i h =
      let go : Item → Value → ℕ → Row = λ z u offset. gives (part_item (text_variable z u) text (offset + 1) 1) in
      w_text R v w (fails_unless (nat_lt 0 (length text)) (picks (length text) (go x v))) (fails_unless (nat_lt 0 (length text)) (picks (length text) (go y w)))
      h
      (w_passing R _ _ (picks (length text) (go x v)) (picks (length text) (go y w)) refl
      (w_picks (length text) (length text) (go x v) (go y w) refl (λ offset. o_gives R _ _ (i_part R x y v w text (offset + 1) 1 i h))))
  random_to x y v w (Listed id) i h =
      let go : Setting → ℕ → Row = λ a index. gives (element_item id (list_at a.world.heap id) index) in
      let size : Setting → ℕ = λ a. length (list_at a.world.heap id).items in
      let all : Setting → Row = λ a. fails_unless (nat_lt 0 (size a)) (picks (size a) (go a)) in
      w_here R all all (λ a q t.
      let list : ListTo R (list_at a.world.heap id) (list_at (view a q).world.heap id) = l_at R a.world.heap.lists q.lists id t.lists in
      let same_size : size a ≡ size (view a q) = both_length (ValueTo R.To) _ _ list.items in
      w_passing R _ _ (picks (size a) (go a)) (picks (size (view a q)) (go (view a q))) (ap (nat_lt 0) same_size)
      (w_picks _ _ (go a) (go (view a q)) same_size (λ index. o_gives R _ _ (i_element R id _ _ index list))))
  random_to x y v w (Collected id) i h =
      let go : Setting → ℕ → Row = λ a index. gives_value (value_at (set_at a.world.heap id) index) in
      let size : Setting → ℕ = λ a. length (set_at a.world.heap id) in
      let all : Setting → Row = λ a. fails_unless (nat_lt 0 (size a)) (picks (size a) (go a)) in
      w_here R all all (λ a q t.
      let set : Both (ValueTo R.To) (set_at a.world.heap id) (set_at (view a q).world.heap id) = s_at R a.world.heap.sets q.sets id t.sets in
      let same_size : size a ≡ size (view a q) = both_length (ValueTo R.To) _ _ set in
      w_passing R _ _ (picks (size a) (go a)) (picks (size (view a q)) (go (view a q))) (ap (nat_lt 0) same_size)
      (w_picks _ _ (go a) (go (view a q)) same_size (λ index. o_value R _ _ (v_at R _ _ index set))))
  random_to x y v w (Tabled id) i h =
      let last : Value × Value → Row = λ pair. gives (key_item id pair.0) in
      let go : Setting → ℕ → Row = λ a index. thing_or_failure (slice_get (table_at a.world.heap id).pairs index) last in
      let size : Setting → ℕ = λ a. length (table_at a.world.heap id).pairs in
      let all : Setting → Row = λ a. fails_unless (nat_lt 0 (size a)) (picks (size a) (go a)) in
      w_here R all all (λ a q t.
      let pairs : Both (PairTo R) (table_at a.world.heap id).pairs (table_at (view a q).world.heap id).pairs =
      (t_at R a.world.heap.tables q.tables id t.tables).pairs in
      let same_size : size a ≡ size (view a q) = both_length (PairTo R) _ _ pairs in
      w_passing R _ _ (picks (size a) (go a)) (picks (size (view a q)) (go (view a q))) (ap (nat_lt 0) same_size)
      (w_picks _ _ (go a) (go (view a q)) same_size (λ index. w_found_pair R _ _ last last (both_get (PairTo R) _ _ index pairs)
      (λ u z k. o_gives R _ _ (i_key R id u.0 z.0 k.key)))))
  random_to x y v w (Recorded id) i h =
      let go : ℕ → Row = λ index. gives (field_item id index) in
      let size : Setting → ℕ = λ a. length (record_at a.world.heap id).fields in
      let all : Setting → Row = λ a. fails_unless (nat_lt 0 (size a)) (picks (size a) go) in
      w_here R all all (λ a q t.
      let same_size : size a ≡ size (view a q) = both_length (ValueTo R.To) _ _ (r_at R a.world.heap.records q.records id t.records).fields in
      w_passing R _ _ (picks (size a) go) (picks (size (view a q)) go) (ap (nat_lt 0) same_size)
      (w_picks _ _ go go same_size (λ index. o_gives R _ _ (i_field R id index))))
  random_to x y v w (Filed file) i h = o_wrong R 113 _ _ (each_to h)
  random_to x y v w (Activated id) i h = o_wrong R 113 _ _ (each_to h)
  random_to x y v w Single i h = o_wrong R 113 _ _ (each_to h)

  random_by_to : (x y : Item) (v w : Value) (o : Option ℤ) → ItemTo R x y → ValueTo R.To v w → group_of v ≡ group_of w
      → RowTo R (random_by x v o) (random_by y w o)
  random_by_to x y v w (Some n) i h e = random_number_to v w n h
  random_by_to x y v w None i h e =
      subst (λ (z : ValueGroup). RowTo R (random_of x v (group_of v)) (random_of y w z)) e (random_to x y v w (group_of v) i h)

  pub w_random : (x y : Item) (v w : Value) (o p : Option ℤ) → o ≡ p → group_of v ≡ group_of w → ItemTo R x y → ValueTo R.To v w
      → RowTo R (random_by x v o) (random_by y w p)
  w_random x y v w o p e g i h = subst (λ (z : Option ℤ). RowTo R (random_by x v o) (random_by y w z)) e (random_by_to x y v w o i h g)

  -- Subscripts and sections

  subscript_to : (x y : Item) (v w u z : Value) (g : ValueGroup) → ItemTo R x y → ValueTo R.To v w → ValueTo R.To u z
      → RowTo R (subscript_of x v u g) (subscript_of y w z g)
  subscript_to x y v w u z (Textual text) i h k =
      let go : Item → Value → ℕ → Row = λ s t place. gives (part_item (text_variable s t) text place 1) in
      let rest : Item → Value → ℤ → Row = λ s t n. costs_text t (element_position n (length text) (go s t)) in
      w_present R _ _ 101 (Some u) (Some z) (rest x v) (rest y w) (e_integer R u z k) (each_to k)
      (λ n. w_text R v w (element_position n (length text) (go x v)) (element_position n (length text) (go y w)) h
      (w_element_position n (length text) (length text) (go x v) (go y w) refl (λ place. o_gives R _ _ (i_part R x y v w text place 1 i h))))
  subscript_to x y v w u z (Listed id) i h k =
      let go : Setting → ℕ → Row = λ a place. gives (element_item id (list_at a.world.heap id) (place - 1)) in
      let size : Setting → ℕ = λ a. length (list_at a.world.heap id).items in
      let all : ℤ → Setting → Row = λ n a. element_position n (size a) (go a) in
      w_present R _ _ 101 (Some u) (Some z) (λ n. here (all n)) (λ n. here (all n)) (e_integer R u z k) (each_to k)
      (λ n. w_here R (all n) (all n) (λ a q t.
      let list : ListTo R (list_at a.world.heap id) (list_at (view a q).world.heap id) = l_at R a.world.heap.lists q.lists id t.lists in
      w_element_position n (size a) (size (view a q)) (go a) (go (view a q)) (both_length (ValueTo R.To) _ _ list.items)
      (λ place. o_gives R _ _ (i_element R id _ _ (place - 1) list))))
  subscript_to x y v w u z (Collected id) i h k = o_wrong R 114 _ _ (each_to h)
  subscript_to x y v w u z (Tabled id) i h k = o_gives R _ _ (i_key R id u z k)
  subscript_to x y v w u z (Recorded id) i h k =
      let go : ℕ → Row = λ place. gives (field_item id (place - 1)) in
      let size : Setting → ℕ = λ a. length (record_at a.world.heap id).fields in
      let all : ℤ → Setting → Row = λ n a. element_position n (size a) go in
      w_present R _ _ 101 (Some u) (Some z) (λ n. here (all n)) (λ n. here (all n)) (e_integer R u z k) (each_to k)
      (λ n. w_here R (all n) (all n) (λ a q t.
      w_element_position n (size a) (size (view a q)) go go (both_length (ValueTo R.To) _ _ (r_at R a.world.heap.records q.records id t.records).fields)
      (λ place. o_gives R _ _ (i_field R id (place - 1)))))
  subscript_to x y v w u z (Filed file) i h k = o_wrong R 114 _ _ (each_to h)
  subscript_to x y v w u z (Activated id) i h k = o_wrong R 114 _ _ (each_to h)
  subscript_to x y v w u z Single i h k = o_wrong R 114 _ _ (each_to h)

  pub w_subscript : (x y : Item) (v w u z : Value) (g d : ValueGroup) → g ≡ d → ItemTo R x y → ValueTo R.To v w → ValueTo R.To u z
      → RowTo R (subscript_of x v u g) (subscript_of y w z d)
  w_subscript x y v w u z g d e i h k =
      subst (λ (c : ValueGroup). RowTo R (subscript_of x v u g) (subscript_of y w z c)) e (subscript_to x y v w u z g i h k)

  range_to : (vs ws : List Value) (i j : ℕ) → Both (ValueTo R.To) vs ws → Both (ValueTo R.To) (slice_range vs i j) (slice_range ws i j)
  range_to vs ws i j h = both_take (ValueTo R.To) _ _ _ (both_drop (ValueTo R.To) _ _ _ h)

  section_to : (second : ℤ → ℤ → Result ℤ Arith) (x y : Item) (v w a b c d : Value) (g : ValueGroup) → ItemTo R x y → ValueTo R.To v w
      → ValueTo R.To a b → ValueTo R.To c d → RowTo R (section_of second x v a c g) (section_of second y w b d g)
  section_to second x y v w a b c d (Textual text) i h k l =
      let go : Item → Value → ℕ × ℕ → Row = λ s t ends. gives (part_item (text_variable s t) text ends.0 (ends.1 - ends.0)) in
      let rest : Item → Value → ℤ × ℤ → Row = λ s t range. costs_text t (places range.0 range.1 (length text) (go s t)) in
      w_positions second a c b d (rest x v) (rest y w) k l
      (λ range. w_text R v w (places range.0 range.1 (length text) (go x v)) (places range.0 range.1 (length text) (go y w)) h
      (w_places range.0 range.1 (length text) (length text) (go x v) (go y w) refl
      (λ ends. o_gives R _ _ (i_part R x y v w text ends.0 (ends.1 - ends.0) i h))))
  section_to second x y v w a b c d (Listed id) i h k l =
      let items : Setting → List Value = λ s. (list_at s.world.heap id).items in
      let go : Setting → ℕ × ℕ → Row = λ s ends. gives_list (slice_range (items s) (ends.0 - 1) (ends.1 - 1)) in
      let all : ℤ × ℤ → Setting → Row = λ range s. places range.0 range.1 (length (items s)) (go s) in
      w_positions second a c b d (λ range. here (all range)) (λ range. here (all range)) k l (λ range. w_here R (all range) (all range) (λ s q t.
      let list : ListTo R (list_at s.world.heap id) (list_at (view s q).world.heap id) = l_at R s.world.heap.lists q.lists id t.lists in
      w_places range.0 range.1 (length (items s)) (length (items (view s q))) (go s) (go (view s q)) (both_length (ValueTo R.To) _ _ list.items)
      (λ ends. w_list R _ _ (range_to _ _ (ends.0 - 1) (ends.1 - 1) list.items))))
  section_to second x y v w a b c d (Collected id) i h k l = o_wrong R 110 _ _ (each_to h)
  section_to second x y v w a b c d (Tabled id) i h k l = o_wrong R 110 _ _ (each_to h)
  section_to second x y v w a b c d (Recorded id) i h k l = o_wrong R 110 _ _ (each_to h)
  section_to second x y v w a b c d (Filed file) i h k l = o_wrong R 110 _ _ (each_to h)
  section_to second x y v w a b c d (Activated id) i h k l = o_wrong R 110 _ _ (each_to h)
  section_to second x y v w a b c d Single i h k l = o_wrong R 110 _ _ (each_to h)

  pub w_section : (second : ℤ → ℤ → Result ℤ Arith) (x y : Item) (v w a b c d : Value) (g f : ValueGroup) → g ≡ f → ItemTo R x y → ValueTo R.To v w
      → ValueTo R.To a b → ValueTo R.To c d → RowTo R (section_of second x v a c g) (section_of second y w b d f)
  w_section second x y v w a b c d g f e i h k l =
      subst (λ (z : ValueGroup). RowTo R (section_of second x v a c g) (section_of second y w b d z)) e (section_to second x y v w a b c d g i h k l)

  -- Copies, sets and lists

  copy_to : (v w : Value) (g : ValueGroup) → ValueTo R.To v w → RowTo R (copy_of v g) (copy_of w g)
  copy_to v w (Textual text) h = o_value R v w h
  copy_to v w (Listed id) h =
      let all : Setting → Row = λ a. gives_list (list_at a.world.heap id).items in
      w_here R all all (λ a q t. w_list R _ _ (l_at R a.world.heap.lists q.lists id t.lists).items)
  copy_to v w (Collected id) h =
      let all : Setting → Row = λ a. new_set_of (set_at a.world.heap id) gives_value in
      w_here R all all (λ a q t. w_new_set _ _ gives_value gives_value (s_at R a.world.heap.sets q.sets id t.sets) (λ u z k. o_value R u z k))
  copy_to v w (Tabled id) h =
      let all : Setting → Row = λ a. new_table_of (table_at a.world.heap id) gives_value in
      w_here R all all (λ a q t. w_new_table _ _ gives_value gives_value (t_at R a.world.heap.tables q.tables id t.tables) (λ u z k. o_value R u z k))
  copy_to v w (Recorded id) h =
      let all : Setting → Row = λ a. new_record_of (record_at a.world.heap id) gives_value in
      w_here R all all (λ a q t. w_new_record _ _ gives_value gives_value (r_at R a.world.heap.records q.records id t.records) (λ u z k. o_value R u z k))
  copy_to v w (Filed file) h = o_value R v w h
  copy_to v w (Activated id) h = o_value R v w h
  copy_to v w Single h = o_value R v w h

  pub w_copy : (v w : Value) (g d : ValueGroup) → g ≡ d → ValueTo R.To v w → RowTo R (copy_of v g) (copy_of w d)
  w_copy v w g d e h = subst (λ (z : ValueGroup). RowTo R (copy_of v g) (copy_of w z)) e (copy_to v w g h)

  set_to_new : (v w : Value) (o : Option ℕ) → ValueTo R.To v w → RowTo R (new_set_by v o) (new_set_by w o)
  set_to_new v w (Some id) h =
      let all : Setting → Row = λ a. new_set_of (fold with_member [] (list_at a.world.heap id).items) gives_value in
      w_here R all all (λ a q t. w_new_set _ _ gives_value gives_value
      (m_fold R [] _ [] _ both_nil (l_at R a.world.heap.lists q.lists id t.lists).items) (λ u z k. o_value R u z k))
  set_to_new v w None h = w_check R _ _ 108 (Some v) (Some w) (new_set_of [] gives_value) (new_set_of [] gives_value) (e_null R v w h) (each_to h)
      (w_new_set [] [] gives_value gives_value both_nil (λ u z k. o_value R u z k))

  pub w_set : (v w : Value) (o p : Option ℕ) → o ≡ p → ValueTo R.To v w → RowTo R (new_set_by v o) (new_set_by w p)
  w_set v w o p e h = subst (λ (z : Option ℕ). RowTo R (new_set_by v o) (new_set_by w z)) e (set_to_new v w o h)

  sets_to : (f : List Value → List Value → List Value) (g : Bool → Bool → Bool) (v w x y : Value) (o : Option (ℕ × ℕ))
      → ((ms bs cs ds : List Value) → Both (ValueTo R.To) ms cs → Both (ValueTo R.To) bs ds → Both (ValueTo R.To) (f ms bs) (f cs ds))
      → ValueTo R.To v x → ValueTo R.To w y → RowTo R (sets_or_csets f g v w o) (sets_or_csets f g x y o)
  sets_to f g v w x y (Some ids) m h k =
      let all : Setting → Row = λ a. new_set_of (f (set_at a.world.heap ids.0) (set_at a.world.heap ids.1)) gives_value in
      w_here R all all (λ a q t. w_new_set _ _ gives_value gives_value
      (m _ _ _ _ (s_at R a.world.heap.sets q.sets ids.0 t.sets) (s_at R a.world.heap.sets q.sets ids.1 t.sets)) (λ u z l. o_value R u z l))
  sets_to f g v w x y None m h k = w_present R _ _ 120 (Some v) (Some x) _ _ (e_cset R v x h) (each_to h)
      (λ a. w_present R _ _ 120 (Some w) (Some y) _ _ (e_cset R w y k) (each_to k) (λ b. o_value R _ _ (chars_to _)))

  pub w_sets : (f : List Value → List Value → List Value) (g : Bool → Bool → Bool) (v w x y : Value) (o p : Option (ℕ × ℕ)) → o ≡ p
      → ((ms bs cs ds : List Value) → Both (ValueTo R.To) ms cs → Both (ValueTo R.To) bs ds → Both (ValueTo R.To) (f ms bs) (f cs ds))
      → ValueTo R.To v x → ValueTo R.To w y → RowTo R (sets_or_csets f g v w o) (sets_or_csets f g x y p)
  w_sets f g v w x y o p e m h k =
      subst (λ (z : Option (ℕ × ℕ)). RowTo R (sets_or_csets f g v w o) (sets_or_csets f g x y z)) e (sets_to f g v w x y o m h k)
