-- The words that rows are made of come to related outcomes in both runs, where what goes on does.
use Rattle.std.proofs.Common.{◌≡◌, ℕ, ◌+◌, Bool, true, false, List, [], ◌∷◌, ◌++◌, length, Option, Some, None, refl, sym, ap, ◌∙◌, subst}
use Rattle.std.specs.Prelude.{◌==◌, ◌^◌, ◌%◌, ℤ, pos, negsuc, Result, Ok, Err, drop, if◌then◌else◌, is_some, nat_le, nat_lt, not, slice_set, take, take_while, unwrap_or}
use Rattle.std.specs.Int.{w64, cast_unsigned}
use Rattle.icn_text.specs.declared.arithmetic.Arith.{Arith}
use Rattle.icn_profile.specs.Numbers.{most_bytes_of_opened}
use Rattle.icn_structs.specs.Numbered.{NumberedList, item_numbered, with_numbered}
use Rattle.icn_structs.specs.PairLists.{value_of, with_value_of}
use Rattle.icn_value.specs.Values.{Value, Null, AList, Std, Text, Keyword, File, Input, Output, Errout, Opened, Root, KeywordVariable, Subject, Position, Random, ErrorCount, Variable, Whole, Part, Item}
use Rattle.icn_value.specs.Changes.{having_file, read_on}
use Rattle.icn_value.specs.Sameness.{same}
use Rattle.icn_value.specs.Store.{ALine, Heap, OpenedFile, SomeBytes, file_at, having_error, having_left, having_random, new_list, with_file_reading, with_list, with_reading, with_record, with_table, Record, Setting, Table, list_at, record_at, table_at, having_globals, having_heap, having_position, having_statics, having_subject}
use Rattle.icn_value.specs.declared.mode.FileMode.{FileMode}
use Rattle.icn_value.specs.declared.mode.FileMode.TheVariants.{ToRead, ToWrite, ToAdd}
use Rattle.icn_defs.specs.Conversions.{integer_of, position_of, form_of, text_made}
use Rattle.icn_defs.specs.Files.{content_by, new_file_of}
use Rattle.icn_defs.specs.InputOutput.{WriteArgument, Puts, Selects, line_put, pieces, put_on, put_pieces, puts_line, takes_output}
use Rattle.icn_defs.specs.Lines.{bytes_from, line_from, next_bytes, next_line, next_opened_bytes, next_opened_line}
use Rattle.icn_defs.specs.OpenFiles.{Readable, FromInput, FromOpened, closed_in, is_writable, left_in, readable, readable_of}
use Rattle.icn_defs.specs.ReadAndAssign.{assigns_both, assigns_keyword, assigns_or, assigns_root, costs_unless, move_part, moved_by_left, moved_by_right, reads, reads_root, reads_text, root_value, stores, the_value, the_values, the_variable}
use Rattle.icn_defs.specs.Rows.{Row, Mover, Neither, Left, Right, Residual, arithmetic_error, builds, changes, changes_heap, check, costs_bytes, costs_cells, costs_made, costs_text, costs_texts, ends, fails, fails_unless, gives, gives_list, gives_value, here, natural, new_list_of, number_or_error, present, suspends, thing_or_failure, wrong}
use Rattle.law_prune.proofs.RelatedValues.{ValueTo, file_to, integer_to, null_to, text_to}
use Rattle.law_prune.proofs.RelatedLists.{Both, OptionTo, PlacesTo, both_append, both_cons, both_length, both_nil, both_set, each_to, neither, place_at, places_set}
use Rattle.law_prune.proofs.RelatedSettings.{Renaming, ItemTo, ListTo, OutcomeTo, PairTo, Parts, PartsTo, RecordTo, ResidualTo, RootTo, RowTo, SettingTo, TableTo, VariableTo, element_to, ends_to, error_to, fails_to, field_to, gives_to, global_to, key_to, local_to, part_to, parts_of, see, seen, static_to, suspends_to, val_to, var_to, view, whole_to, word_to}
use Rattle.law_prune.proofs.RelatedViews.{e_form, e_held_text, e_integer, e_item, e_key, e_part_length, e_piece, e_text, l_at, n_item, n_new, n_with, p_with, r_at, t_at, v_at, v_list, v_stored}

module _ (R : Renaming) where
  -- Ends

  pub o_fails : RowTo R fails fails
  o_fails = record { same = λ a b h. fails_to h }

  pub o_gives : (i j : Item) → ItemTo R i j → RowTo R (gives i) (gives j)
  o_gives i j g = record { same = λ a b h. gives_to g h }

  pub o_value : (v w : Value) → ValueTo R.To v w → RowTo R (gives_value v) (gives_value w)
  o_value v w g = record { same = λ a b h. gives_to (val_to g) h }

  pub o_suspends : (i j : Item) (r s : Residual) → ItemTo R i j → ResidualTo R r s → RowTo R (suspends i r) (suspends j s)
  o_suspends i j r s g k = record { same = λ a b h. suspends_to g k h }

  pub o_wrong : (k : ℕ) (v w : Option Value) → OptionTo (ValueTo R.To) v w → RowTo R (wrong k v) (wrong k w)
  o_wrong k v w g = record { same = λ a b h. error_to k g h }

  pub o_ends : (k : ℕ) → RowTo R (ends k) (ends k)
  o_ends k = record { same = λ a b h. ends_to k h }

  -- Checks

  checked : (t : Bool) (k : ℕ) (v w : Option Value) (next other : Row) → OptionTo (ValueTo R.To) v w → RowTo R next other
      → RowTo R (check t k v next) (check t k w other)
  checked true k v w next other g f = record { same = λ a b h. f.same a b h }
  checked false k v w next other g f = record { same = λ a b h. error_to k g h }

  pub w_check : (t u : Bool) (k : ℕ) (v w : Option Value) (next other : Row) → t ≡ u → OptionTo (ValueTo R.To) v w → RowTo R next other
      → RowTo R (check t k v next) (check u k w other)
  w_check t u k v w next other e g f = subst (λ (z : Bool). RowTo R (check t k v next) (check z k w other)) e (checked t k v w next other g f)

  is_present : {A : Type 0} (o : Option A) (k : ℕ) (v w : Option Value) (next other : A → Row) → OptionTo (ValueTo R.To) v w
      → ((x : A) → RowTo R (next x) (other x)) → RowTo R (present o k v next) (present o k w other)
  is_present (Some x) k v w next other g f = record { same = λ a b h. (f x).same a b h }
  is_present None k v w next other g f = record { same = λ a b h. error_to k g h }

  pub w_present : {A : Type 0} (o p : Option A) (k : ℕ) (v w : Option Value) (next other : A → Row) → o ≡ p → OptionTo (ValueTo R.To) v w
      → ((x : A) → RowTo R (next x) (other x)) → RowTo R (present o k v next) (present p k w other)
  w_present {A} o p k v w next other e g f =
      subst (λ (z : Option A). RowTo R (present o k v next) (present z k w other)) e (is_present o k v w next other g f)

  pub w_present_value : (o p : Option Value) (k : ℕ) (v w : Option Value) (next other : Value → Row) → OptionTo (ValueTo R.To) o p
      → OptionTo (ValueTo R.To) v w → ((x y : Value) → ValueTo R.To x y → RowTo R (next x) (other y)) → RowTo R (present o k v next) (present p k w other)
  w_present_value o p k v w next other neither g f = record { same = λ a b h. error_to k g h }
  w_present_value o p k v w next other (each_to {x} {y} t) g f = record { same = λ a b h. (f x y t).same a b h }

  pub w_computed : (o : Result ℤ Arith) (next other : ℤ → Row) → ((x : ℤ) → RowTo R (next x) (other x))
      → RowTo R (number_or_error o next) (number_or_error o other)
  w_computed (Ok x) next other f = record { same = λ a b h. (f x).same a b h }
  w_computed (Err k) next other f = record { same = λ a b h. error_to (arithmetic_error k) neither h }

  passing : (t : Bool) (next other : Row) → RowTo R next other → RowTo R (fails_unless t next) (fails_unless t other)
  passing true next other f = record { same = λ a b h. f.same a b h }
  passing false next other f = record { same = λ a b h. fails_to h }

  pub w_passing : (t u : Bool) (next other : Row) → t ≡ u → RowTo R next other → RowTo R (fails_unless t next) (fails_unless u other)
  w_passing t u next other e f = subst (λ (z : Bool). RowTo R (fails_unless t next) (fails_unless z other)) e (passing t next other f)

  is_found : {A : Type 0} (o : Option A) (next other : A → Row) → ((x : A) → RowTo R (next x) (other x))
      → RowTo R (thing_or_failure o next) (thing_or_failure o other)
  is_found (Some x) next other f = record { same = λ a b h. (f x).same a b h }
  is_found None next other f = record { same = λ a b h. fails_to h }

  pub w_found : {A : Type 0} (o p : Option A) (next other : A → Row) → o ≡ p → ((x : A) → RowTo R (next x) (other x))
      → RowTo R (thing_or_failure o next) (thing_or_failure p other)
  w_found {A} o p next other e f =
      subst (λ (z : Option A). RowTo R (thing_or_failure o next) (thing_or_failure z other)) e (is_found o next other f)

  found_by : {A : Type 0} (P : A → A → Type 0) (o p : Option A) (next other : A → Row) → OptionTo P o p
      → ((x y : A) → P x y → RowTo R (next x) (other y)) → RowTo R (thing_or_failure o next) (thing_or_failure p other)
  found_by P o p next other neither f = record { same = λ a b h. fails_to h }
  found_by P o p next other (each_to {x} {y} t) f = record { same = λ a b h. (f x y t).same a b h }

  pub w_found_value : (o p : Option Value) (next other : Value → Row) → OptionTo (ValueTo R.To) o p
      → ((x y : Value) → ValueTo R.To x y → RowTo R (next x) (other y)) → RowTo R (thing_or_failure o next) (thing_or_failure p other)
  w_found_value o p next other h f = found_by (ValueTo R.To) o p next other h f

  pub w_found_pair : (o p : Option (Value × Value)) (next other : Value × Value → Row) → OptionTo (PairTo R) o p
      → ((x y : Value × Value) → PairTo R x y → RowTo R (next x) (other y)) → RowTo R (thing_or_failure o next) (thing_or_failure p other)
  w_found_pair o p next other h f = found_by (PairTo R) o p next other h f

  pub w_natural : (k : ℤ) (v w : Value) (next other : ℕ → Row) → ValueTo R.To v w → ((x : ℕ) → RowTo R (next x) (other x))
      → RowTo R (natural k v next) (natural k w other)
  w_natural (pos k) v w next other g f = record { same = λ a b h. (f k).same a b h }
  w_natural (negsuc k) v w next other g f = record { same = λ a b h. error_to 205 (each_to g) h }

  -- The setting

  pub w_here : (next other : Setting → Row) → ((a : Setting) (q : Parts) → PartsTo R (parts_of a) q → RowTo R (next a) (other (view a q)))
      → RowTo R (here next) (here other)
  w_here next other f = record {
    same = λ a b h. see R a b (λ (s : Setting). OutcomeTo R (next a a) (other s s)) h
        ((f a (parts_of b) h.parts).same a (view a (parts_of b)) (seen R a (parts_of b) h.parts));
  }

  pub w_changes : (change twin : Setting → Setting) (next other : Row)
      → ((a : Setting) (q : Parts) → PartsTo R (parts_of a) q → SettingTo R (change a) (twin (view a q))) → RowTo R next other
      → RowTo R (changes change next) (changes twin other)
  w_changes change twin next other e f = record {
    same = λ a b h. see R a b (λ (s : Setting). OutcomeTo R (next (change a)) (other (twin s))) h
        (f.same (change a) (twin (view a (parts_of b))) (e a (parts_of b) h.parts));
  }

  pub w_heap : (change twin : Heap → Heap) (next other : Row)
      → ((a : Setting) (q : Parts) → PartsTo R (parts_of a) q → SettingTo R (having_heap change a) (having_heap twin (view a q))) → RowTo R next other
      → RowTo R (changes_heap change next) (changes_heap twin other)
  w_heap change twin next other e f = record {
    same = λ a b h. see R a b (λ (s : Setting). OutcomeTo R (next (having_heap change a)) (other (having_heap twin s))) h
        (f.same (having_heap change a) (having_heap twin (view a (parts_of b))) (e a (parts_of b) h.parts));
  }

  -- One part is another

  pub s_lists : (a : Setting) (q : Parts) (xs ys : List (NumberedList Value)) → PartsTo R (parts_of a) q → Both (ListTo R) xs ys
      → SettingTo R (having_heap (λ (heap : Heap). record heap { lists = xs }) a) (having_heap (λ (heap : Heap). record heap { lists = ys }) (view a q))
  s_lists a q xs ys h g = record {
    rest = refl;
    parts = record {
      lists = g;
      sets = h.sets;
      tables = h.tables;
      records = h.records;
      globals = h.globals;
      statics = h.statics;
      locals = h.locals;
      kept = h.kept;
    };
  }

  pub s_sets : (a : Setting) (q : Parts) (xs ys : List (List Value)) → PartsTo R (parts_of a) q → Both (Both (ValueTo R.To)) xs ys
      → SettingTo R (having_heap (λ (heap : Heap). record heap { sets = xs }) a) (having_heap (λ (heap : Heap). record heap { sets = ys }) (view a q))
  s_sets a q xs ys h g = record {
    rest = refl;
    parts = record {
      lists = h.lists;
      sets = g;
      tables = h.tables;
      records = h.records;
      globals = h.globals;
      statics = h.statics;
      locals = h.locals;
      kept = h.kept;
    };
  }

  pub s_tables : (a : Setting) (q : Parts) (xs ys : List Table) → PartsTo R (parts_of a) q → Both (TableTo R) xs ys
      → SettingTo R (having_heap (λ (heap : Heap). record heap { tables = xs }) a) (having_heap (λ (heap : Heap). record heap { tables = ys }) (view a q))
  s_tables a q xs ys h g = record {
    rest = refl;
    parts = record {
      lists = h.lists;
      sets = h.sets;
      tables = g;
      records = h.records;
      globals = h.globals;
      statics = h.statics;
      locals = h.locals;
      kept = h.kept;
    };
  }

  pub s_records : (a : Setting) (q : Parts) (xs ys : List Record) → PartsTo R (parts_of a) q → Both (RecordTo R) xs ys
      → SettingTo R (having_heap (λ (heap : Heap). record heap { records = xs }) a) (having_heap (λ (heap : Heap). record heap { records = ys }) (view a q))
  s_records a q xs ys h g = record {
    rest = refl;
    parts = record {
      lists = h.lists;
      sets = h.sets;
      tables = h.tables;
      records = g;
      globals = h.globals;
      statics = h.statics;
      locals = h.locals;
      kept = h.kept;
    };
  }

  s_globals : (a : Setting) (q : Parts) (xs ys : List Value) → PartsTo R (parts_of a) q → PlacesTo R.GlobalTo (ValueTo R.To) xs ys
      → SettingTo R (having_globals xs a) (having_globals ys (view a q))
  s_globals a q xs ys h g = record {
    rest = refl;
    parts = record {
      lists = h.lists;
      sets = h.sets;
      tables = h.tables;
      records = h.records;
      globals = g;
      statics = h.statics;
      locals = h.locals;
      kept = h.kept;
    };
  }

  s_statics : (a : Setting) (q : Parts) (xs ys : List Value) → PartsTo R (parts_of a) q → PlacesTo R.StaticTo (ValueTo R.To) xs ys
      → SettingTo R (having_statics xs a) (having_statics ys (view a q))
  s_statics a q xs ys h g = record {
    rest = refl;
    parts = record {
      lists = h.lists;
      sets = h.sets;
      tables = h.tables;
      records = h.records;
      globals = h.globals;
      statics = g;
      locals = h.locals;
      kept = h.kept;
    };
  }

  s_locals : (a : Setting) (q : Parts) (xs ys : List Value) → PartsTo R (parts_of a) q → Both (ValueTo R.To) xs ys
      → SettingTo R (record a { locals = xs }) (record (view a q) { locals = ys })
  s_locals a q xs ys h g = record {
    rest = refl;
    parts = record {
      lists = h.lists;
      sets = h.sets;
      tables = h.tables;
      records = h.records;
      globals = h.globals;
      statics = h.statics;
      locals = g;
      kept = h.kept;
    };
  }

  -- Charges

  pub w_bytes : (n : ℕ) (next other : Row) → RowTo R next other → RowTo R (costs_bytes n next) (costs_bytes n other)
  w_bytes n next other f =
      let up : Heap → Heap = λ heap. record heap { strings = heap.strings + n } in
      w_here (λ s. check (nat_le (s.world.heap.strings + n) s.world.heap.bounds.strings) 306 None (changes_heap up next))
      (λ s. check (nat_le (s.world.heap.strings + n) s.world.heap.bounds.strings) 306 None (changes_heap up other))
      (λ a q h. w_check _ _ 306 None None (changes_heap up next) (changes_heap up other) refl neither
      (w_heap up up next other (λ s p k. record { rest = refl; parts = k }) f))

  charged : (n : ℕ) (next other : Row) → RowTo R next other → RowTo R (costs_cells n next) (costs_cells n other)
  charged n next other f =
      let up : Heap → Heap = λ heap. record heap { cells = heap.cells + n } in
      w_here (λ s. check (nat_le (s.world.heap.cells + n) s.world.heap.bounds.cells) 307 None (changes_heap up next))
      (λ s. check (nat_le (s.world.heap.cells + n) s.world.heap.bounds.cells) 307 None (changes_heap up other))
      (λ a q h. w_check _ _ 307 None None (changes_heap up next) (changes_heap up other) refl neither
      (w_heap up up next other (λ s p k. record { rest = refl; parts = k }) f))

  pub w_cells : (n m : ℕ) (next other : Row) → n ≡ m → RowTo R next other → RowTo R (costs_cells n next) (costs_cells m other)
  w_cells n m next other e f = subst (λ (k : ℕ). RowTo R (costs_cells n next) (costs_cells k other)) e (charged n next other f)

  made : (o : Option (List ℕ)) (next other : Row) → RowTo R next other → RowTo R (costs_made o next) (costs_made o other)
  made None next other f = f
  made (Some text) next other f = w_bytes (length text) next other f

  pub w_text : (v w : Value) (next other : Row) → ValueTo R.To v w → RowTo R next other → RowTo R (costs_text v next) (costs_text w other)
  w_text v w next other h f = subst (λ (o : Option (List ℕ)). RowTo R (costs_text v next) (costs_made o other)) (ap text_made (e_form R v w h))
      (made (text_made (form_of v)) next other f)

  pub w_texts : (vs ws : List Value) (next other : Row) → Both (ValueTo R.To) vs ws → RowTo R next other
      → RowTo R (costs_texts vs next) (costs_texts ws other)
  w_texts vs ws next other both_nil f = f
  w_texts vs ws next other (both_cons {x} {y} h t) f = w_text x y _ _ h (w_texts _ _ next other t f)

  pub w_builds : (text : List ℕ) → RowTo R (builds text) (builds text)
  w_builds text = w_bytes (length text) _ _ (o_value (Text text) (Text text) (text_to text))

  pub w_new_list : (vs ws : List Value) (next other : Value → Row) → Both (ValueTo R.To) vs ws
      → ((v w : Value) → ValueTo R.To v w → RowTo R (next v) (other w)) → RowTo R (new_list_of vs next) (new_list_of ws other)
  w_new_list vs ws next other g f =
      let more : List Value → Heap → Heap = λ us heap. record heap { lists = heap.lists ++ new_list us ∷ [] } in
      let last : Setting → Value = λ s. AList (length s.world.heap.lists) in
      w_cells (1 + length vs) (1 + length ws) (here (λ s. changes_heap (more vs) (next (last s)))) (here (λ s. changes_heap (more ws) (other (last s))))
      (ap (λ (n : ℕ). 1 + n) (both_length (ValueTo R.To) vs ws g))
      (w_here (λ s. changes_heap (more vs) (next (last s))) (λ s. changes_heap (more ws) (other (last s)))
      (λ a q h. w_heap (more vs) (more ws) (next (last a)) (other (last (view a q)))
      (λ s p k. s_lists s p _ _ k (both_append (ListTo R) _ _ _ _ k.lists (both_cons (n_new R vs ws g) both_nil)))
      (f (last a) (last (view a q)) (v_list R _ _ (both_length (ListTo R) _ _ h.lists)))))

  pub w_list : (vs ws : List Value) → Both (ValueTo R.To) vs ws → RowTo R (gives_list vs) (gives_list ws)
  w_list vs ws g = w_new_list vs ws _ _ g (λ v w h. o_value v w h)

  -- Reading variables

  word_value_to : (a : Setting) (q : Parts) (word : KeywordVariable)
      → OptionTo (ValueTo R.To) (root_value a (Keyword word)) (root_value (view a q) (Keyword word))
  word_value_to a q Subject = each_to (text_to _)
  word_value_to a q Position = each_to (integer_to _)
  word_value_to a q Random = each_to (integer_to _)
  word_value_to a q ErrorCount = each_to (integer_to _)

  root_to : (a : Setting) (q : Parts) (r s : Root) → PartsTo R (parts_of a) q → RootTo R r s
      → OptionTo (ValueTo R.To) (root_value a r) (root_value (view a q) s)
  root_to a q r s h (global_to k j t) = each_to (place_at R.GlobalTo (ValueTo R.To) a.world.globals q.globals k j Null Null h.globals t null_to)
  root_to a q r s h (static_to k j t) = each_to (place_at R.StaticTo (ValueTo R.To) a.world.statics q.statics k j Null Null h.statics t null_to)
  root_to a q r s h (local_to k) = each_to (v_at R a.locals q.locals k h.locals)
  root_to a q r s h (element_to id number) = n_item R _ _ number (l_at R a.world.heap.lists q.lists id h.lists)
  root_to a q r s h (field_to id k) = each_to (v_at R _ _ k (r_at R a.world.heap.records q.records id h.records).fields)
  root_to a q r s h (key_to id v w g) = each_to (v_stored R _ _ v w (t_at R a.world.heap.tables q.tables id h.tables) g)
  root_to a q r s h (word_to word) = word_value_to a q word

  pub w_root : (r s : Root) (next other : Value → Row) → RootTo R r s → ((v w : Value) → ValueTo R.To v w → RowTo R (next v) (other w))
      → RowTo R (reads_root r next) (reads_root s other)
  w_root r s next other t f =
      w_here (λ a. present (root_value a r) 205 None next) (λ a. present (root_value a s) 205 None other)
      (λ a q h. w_present_value _ _ 205 None None _ _ (root_to a q r s h t) neither f)

  pub w_reads_text : (r s : Root) (place size : ℕ) (next other : List ℕ → Row) → RootTo R r s → ((text : List ℕ) → RowTo R (next text) (other text))
      → RowTo R (reads_text r place size next) (reads_text s place size other)
  w_reads_text r s place size next other t f = w_root r s _ _ t (λ v w h. w_present _ _ 103 _ _ _ _ (e_held_text R v w h) (each_to h)
      (λ text. w_check _ _ 205 None None _ _ refl neither (f text)))

  pub w_reads : (x y : Variable) (next other : Value → Row) → VariableTo R x y → ((v w : Value) → ValueTo R.To v w → RowTo R (next v) (other w))
      → RowTo R (reads x next) (reads y other)
  w_reads x y next other (whole_to {r} {s} t) f = w_root r s next other t f
  w_reads x y next other (part_to {r} {s} place size t) f = w_reads_text r s place size _ _ t (λ text. f _ _ (text_to _))

  pub w_value : (x y : Item) (next other : Value → Row) → ItemTo R x y → ((v w : Value) → ValueTo R.To v w → RowTo R (next v) (other w))
      → RowTo R (the_value x next) (the_value y other)
  w_value x y next other (val_to {v} {w} t) f = f v w t
  w_value x y next other (var_to {x = u} {y = z} t) f = w_reads u z next other t f

  pub w_values : (xs ys : List Item) (next other : List Value → Row) → Both (ItemTo R) xs ys
      → ((vs ws : List Value) → Both (ValueTo R.To) vs ws → RowTo R (next vs) (other ws)) → RowTo R (the_values xs next) (the_values ys other)
  w_values xs ys next other both_nil f = f [] [] both_nil
  w_values xs ys next other (both_cons {x} {y} {xs = us} {ys = zs} h t) f =
      w_value x y (λ v. the_values us (λ vs. next (v ∷ vs))) (λ w. the_values zs (λ ws. other (w ∷ ws))) h
      (λ v w g. w_values us zs (λ vs. next (v ∷ vs)) (λ ws. other (w ∷ ws)) t (λ vs ws k. f (v ∷ vs) (w ∷ ws) (both_cons g k)))

  pub w_variable : (x y : Item) (next other : Variable → Row) → ItemTo R x y → ((u z : Variable) → VariableTo R u z → RowTo R (next u) (other z))
      → RowTo R (the_variable x next) (the_variable y other)
  w_variable x y next other (val_to {v} {w} t) f = o_wrong 111 (Some v) (Some w) (each_to t)
  w_variable x y next other (var_to {x = u} {y = z} t) f = f u z t

  -- Assigning

  w_position : (refused denied : Row) (v w : Value) (next other : Row) → ValueTo R.To v w → RowTo R refused denied → RowTo R next other
      → RowTo R (assigns_keyword refused Position v next) (assigns_keyword denied Position w other)
  w_position refused denied v w next other h r f = record {
    same = λ a b g. see R a b (λ (s : Setting). OutcomeTo R (assigns_keyword refused Position v next a) (assigns_keyword denied Position w other s)) g
        (by_number a (parts_of b) g.parts (integer_of v) refl);
  }
    where
      by_place : (a : Setting) (q : Parts) → PartsTo R (parts_of a) q → (k : ℤ) → integer_of v ≡ Some k → integer_of w ≡ Some k → (o : Option ℕ)
          → position_of k (length a.world.subject) ≡ o
          → OutcomeTo R (assigns_keyword refused Position v next a) (assigns_keyword denied Position w other (view a q))
      by_place a q p k is as_well None g = rw is (rw as_well (rw g (r.same a (view a q) (seen R a q p))))
      by_place a q p k is as_well (Some place) g =
          rw is (rw as_well (rw g (f.same (having_position place a) (having_position place (view a q)) (record { rest = refl; parts = p }))))

      by_number : (a : Setting) (q : Parts) → PartsTo R (parts_of a) q → (o : Option ℤ) → integer_of v ≡ o
          → OutcomeTo R (assigns_keyword refused Position v next a) (assigns_keyword denied Position w other (view a q))
      by_number a q p None is = let as_well : integer_of w ≡ None = sym (e_integer R v w h) ∙ is in
          rw is (rw as_well (error_to 101 (each_to h) (seen R a q p)))
      by_number a q p (Some k) is =
          by_place a q p k is (sym (e_integer R v w h) ∙ is) (position_of k (length a.world.subject)) refl

  pub w_keyword : (refused denied : Row) (word : KeywordVariable) (v w : Value) (next other : Row) → ValueTo R.To v w → RowTo R refused denied
      → RowTo R next other → RowTo R (assigns_keyword refused word v next) (assigns_keyword denied word w other)
  w_keyword refused denied Subject v w next other h r f = w_present _ _ 103 (Some v) (Some w) _ _ (e_text R v w h) (each_to h)
      (λ text. w_text v w _ _ h (w_changes (having_subject text) (having_subject text) next other (λ a q k. record { rest = refl; parts = k }) f))
  w_keyword refused denied Position v w next other h r f = w_position refused denied v w next other h r f
  w_keyword refused denied Random v w next other h r f = w_present _ _ 101 (Some v) (Some w) _ _ (e_integer R v w h) (each_to h)
      (λ n. let state = having_random (cast_unsigned w64 n % 2 ^ 31) in w_changes state state next other (λ a q k. record { rest = refl; parts = k }) f)
  w_keyword refused denied ErrorCount v w next other h r f = w_present _ _ 101 (Some v) (Some w) _ _ (e_integer R v w h) (each_to h)
      (λ n. w_changes (having_error n) (having_error n) next other (λ a q k. record { rest = refl; parts = k }) f)

  unless : (t : Bool) (next other : Row) → RowTo R next other → RowTo R (costs_unless t next) (costs_unless t other)
  unless true next other f = f
  unless false next other f = charged 1 next other f

  pub w_unless : (t u : Bool) (next other : Row) → t ≡ u → RowTo R next other → RowTo R (costs_unless t next) (costs_unless u other)
  w_unless t u next other e f = subst (λ (z : Bool). RowTo R (costs_unless t next) (costs_unless z other)) e (unless t next other f)

  pub w_stores : (id : ℕ) (key twin v w : Value) (next other : Row) → ValueTo R.To key twin → ValueTo R.To v w → RowTo R next other
      → RowTo R (stores id key v next) (stores id twin w other)
  w_stores id key twin v w next other g h f =
      let put : Setting → Value → Value → Heap → Heap = λ s k u. let table = table_at s.world.heap id in
      with_table id (record table { pairs = with_value_of same table.pairs k u }) in
      w_here (λ s. costs_unless (is_some (value_of same (table_at s.world.heap id).pairs key)) (changes_heap (put s key v) next))
      (λ s. costs_unless (is_some (value_of same (table_at s.world.heap id).pairs twin)) (changes_heap (put s twin w) other)) (λ a q t.
      let table : TableTo R (table_at a.world.heap id) (table_at (view a q).world.heap id) = t_at R a.world.heap.tables q.tables id t.tables in
      w_unless _ _ (changes_heap (put a key v) next) (changes_heap (put (view a q) twin w) other) (e_key R _ _ key twin table.pairs g)
      (w_heap (put a key v) (put (view a q) twin w) next other (λ s p k. s_tables s p _ _ k (both_set (TableTo R) _ _ id _ _ k.tables
      (record { default = table.default; pairs = p_with R _ _ key twin v w table.pairs g h }))) f))

  pub w_assigns_root : (refused denied : Row) (r s : Root) (v w : Value) (next other : Row) → RootTo R r s → ValueTo R.To v w → RowTo R refused denied
      → RowTo R next other → RowTo R (assigns_root refused r v next) (assigns_root denied s w other)
  w_assigns_root refused denied r s v w next other (global_to k j t) h d f = w_changes
      (λ a. having_globals (slice_set a.world.globals k v) a) (λ a. having_globals (slice_set a.world.globals j w) a) next other
      (λ a q p. s_globals a q _ _ p (places_set R.GlobalTo (ValueTo R.To) R.one_global _ _ k j v w p.globals t h)) f
  w_assigns_root refused denied r s v w next other (static_to k j t) h d f = w_changes
      (λ a. having_statics (slice_set a.world.statics k v) a) (λ a. having_statics (slice_set a.world.statics j w) a) next other
      (λ a q p. s_statics a q _ _ p (places_set R.StaticTo (ValueTo R.To) R.one_static _ _ k j v w p.statics t h)) f
  w_assigns_root refused denied r s v w next other (local_to k) h d f = w_changes
      (λ a. record a { locals = slice_set a.locals k v }) (λ a. record a { locals = slice_set a.locals k w }) next other
      (λ a q p. s_locals a q _ _ p (both_set (ValueTo R.To) _ _ k v w p.locals h)) f
  w_assigns_root refused denied r s v w next other (element_to id number) h d f =
      let put : Setting → Value → Heap → Heap = λ s u. with_list id (with_numbered (list_at s.world.heap id) number u) in
      w_here (λ s. check (is_some (item_numbered (list_at s.world.heap id) number)) 205 None (changes_heap (put s v) next))
      (λ s. check (is_some (item_numbered (list_at s.world.heap id) number)) 205 None (changes_heap (put s w) other)) (λ a q t.
      let list : ListTo R (list_at a.world.heap id) (list_at (view a q).world.heap id) = l_at R a.world.heap.lists q.lists id t.lists in
      w_check _ _ 205 None None (changes_heap (put a v) next) (changes_heap (put (view a q) w) other) (e_item R _ _ number list) neither
      (w_heap (put a v) (put (view a q) w) next other (λ b p k. s_lists b p _ _ k (both_set (ListTo R) _ _ id _ _ k.lists (n_with R _ _ number v w list h))) f))
  w_assigns_root refused denied r s v w next other (field_to id index) h d f =
      let put : Setting → Value → Heap → Heap = λ s u. let structure = record_at s.world.heap id in
      with_record id (record structure { fields = slice_set structure.fields index u }) in
      w_here (λ s. changes_heap (put s v) next) (λ s. changes_heap (put s w) other) (λ a q t.
      let structure : RecordTo R (record_at a.world.heap id) (record_at (view a q).world.heap id) = r_at R a.world.heap.records q.records id t.records in
      w_heap (put a v) (put (view a q) w) next other (λ b p k. s_records b p _ _ k (both_set (RecordTo R) _ _ id _ _ k.records
      (record { kind = structure.kind; fields = both_set (ValueTo R.To) _ _ index v w structure.fields h }))) f)
  w_assigns_root refused denied r s v w next other (key_to id key twin g) h d f = w_stores id key twin v w next other g h f
  w_assigns_root refused denied r s v w next other (word_to word) h d f = w_keyword refused denied word v w next other h d f

  pub w_assigns : (refused denied : Row) (x y : Variable) (v w : Value) (next other : Variable → Row) → VariableTo R x y → ValueTo R.To v w
      → RowTo R refused denied → ((u z : Variable) → VariableTo R u z → RowTo R (next u) (other z))
      → RowTo R (assigns_or refused x v next) (assigns_or denied y w other)
  w_assigns refused denied x y v w next other (whole_to {r} {s} t) h d f =
      w_assigns_root refused denied r s v w _ _ t h d (f (Whole r) (Whole s) (whole_to t))
  w_assigns refused denied x y v w next other (part_to {r} {s} place size t) h d f = w_present _ _ 103 (Some v) (Some w) _ _ (e_text R v w h) (each_to h)
      (λ new. w_reads_text r s place size _ _ t (λ text. w_text v w _ _ h (w_bytes _ _ _ (w_assigns_root refused denied r s _ _ _ _ t (text_to _) d
      (f (Part r place (length new)) (Part s place (length new)) (part_to place (length new) t))))))

  -- Exchanging

  w_moved : (old new : ℕ) (x y : Variable) (next other : Variable → Row) → VariableTo R x y
      → ((u z : Variable) → VariableTo R u z → RowTo R (next u) (other z)) → RowTo R (move_part old new x next) (move_part old new y other)
  w_moved old new x y next other (whole_to t) f = f _ _ (whole_to t)
  w_moved old new x y next other (part_to place size t) f = w_check _ _ 205 None None _ _ refl neither (f _ _ (part_to _ size t))

  by_left : (m : Mover) (old new : ℕ) (x y : Variable) (next other : Variable → Row) → VariableTo R x y
      → ((u z : Variable) → VariableTo R u z → RowTo R (next u) (other z)) → RowTo R (moved_by_left m old new x next) (moved_by_left m old new y other)
  by_left Neither old new x y next other t f = f x y t
  by_left Left old new x y next other t f = w_moved old new x y next other t f
  by_left Right old new x y next other t f = f x y t

  by_right : (m : Mover) (old new : ℕ) (x y : Variable) (next other : Variable → Row) → VariableTo R x y
      → ((u z : Variable) → VariableTo R u z → RowTo R (next u) (other z)) → RowTo R (moved_by_right m old new x next) (moved_by_right m old new y other)
  by_right Neither old new x y next other t f = f x y t
  by_right Left old new x y next other t f = f x y t
  by_right Right old new x y next other t f = w_moved old new x y next other t f

  w_left : (m : Mover) (a b c d : ℕ) (x y : Variable) (next other : Variable → Row) → a ≡ c → b ≡ d → VariableTo R x y
      → ((u z : Variable) → VariableTo R u z → RowTo R (next u) (other z)) → RowTo R (moved_by_left m a b x next) (moved_by_left m c d y other)
  w_left m a b c d x y next other e g t f = subst (λ (n : ℕ). RowTo R (moved_by_left m a b x next) (moved_by_left m n d y other)) e
      (subst (λ (n : ℕ). RowTo R (moved_by_left m a b x next) (moved_by_left m a n y other)) g (by_left m a b x y next other t f))

  w_right : (m : Mover) (a b c d : ℕ) (x y : Variable) (next other : Variable → Row) → a ≡ c → b ≡ d → VariableTo R x y
      → ((u z : Variable) → VariableTo R u z → RowTo R (next u) (other z)) → RowTo R (moved_by_right m a b x next) (moved_by_right m c d y other)
  w_right m a b c d x y next other e g t f = subst (λ (n : ℕ). RowTo R (moved_by_right m a b x next) (moved_by_right m n d y other)) e
      (subst (λ (n : ℕ). RowTo R (moved_by_right m a b x next) (moved_by_right m a n y other)) g (by_right m a b x y next other t f))

  exchanged : (refused denied : Row) (m : Mover) (x y c d : Variable) (v w a b : Value) (next other : Variable × Variable → Row)
      → VariableTo R x c → VariableTo R y d → ValueTo R.To v a → ValueTo R.To w b → RowTo R refused denied
      → ((p q : Variable × Variable) → VariableTo R p.0 q.0 → VariableTo R p.1 q.1 → RowTo R (next p) (other q))
      → RowTo R (assigns_both refused m x y v w next) (assigns_both denied m c d a b other)
  exchanged refused denied m x y c d v w a b next other g h i j r f = w_assigns refused denied x c v a _ _ g i r
      (λ now moved k. w_left m _ _ _ _ y d _ _ (e_part_length R x c g) (e_part_length R now moved k) h
      (λ u z l. w_assigns refused denied u z w b _ _ l j r
      (λ o p n. w_right m _ _ _ _ now moved _ _ (e_part_length R u z l) (e_part_length R o p n) k
      (λ s t q. f (s, o) (t, p) q n))))

  pub w_both : (refused denied : Row) (m n : Mover) (x y c d : Variable) (v w a b : Value) (next other : Variable × Variable → Row) → m ≡ n
      → VariableTo R x c → VariableTo R y d → ValueTo R.To v a → ValueTo R.To w b → RowTo R refused denied
      → ((p q : Variable × Variable) → VariableTo R p.0 q.0 → VariableTo R p.1 q.1 → RowTo R (next p) (other q))
      → RowTo R (assigns_both refused m x y v w next) (assigns_both denied n c d a b other)
  w_both refused denied m n x y c d v w a b next other e g h i j r f =
      subst (λ (z : Mover). RowTo R (assigns_both refused m x y v w next) (assigns_both denied z c d a b other)) e
      (exchanged refused denied m x y c d v w a b next other g h i j r f)

  -- Reading and writing

  w_line : (next other : List ℕ → Row) → ((line : List ℕ) → RowTo R (next line) (other line)) → RowTo R (next_line next) (next_line other)
  w_line next other f =
      let asks : Setting → Setting = λ s. record s { outside = with_reading ALine s.outside } in
      let line : Setting → List ℕ = λ s. take_while (λ byte. not (byte == 10)) s.outside.left in
      let takes : Setting → Setting → Setting = λ a s. having_left (drop (length (line a) + 1) s.outside.left) s in
      let rest : (List ℕ → Row) → Setting → Row = λ go a. changes (takes a) (costs_bytes (length (line a)) (go (line a))) in
      let all : (List ℕ → Row) → Setting → Row = λ go a. fails_unless (nat_lt 0 (length a.outside.left)) (rest go a) in
      w_changes asks asks (here (all next)) (here (all other)) (λ a q k. record { rest = refl; parts = k })
      (w_here (all next) (all other) (λ a q h. w_passing _ _ (rest next a) (rest other (view a q)) refl
      (w_changes (takes a) (takes a) (costs_bytes (length (line a)) (next (line a))) (costs_bytes (length (line a)) (other (line a)))
      (λ b p k. record { rest = refl; parts = k }) (w_bytes (length (line a)) (next (line a)) (other (line a)) (f (line a))))))

  w_some_bytes : (count : ℕ) (next other : List ℕ → Row) → ((bytes : List ℕ) → RowTo R (next bytes) (other bytes))
      → RowTo R (next_bytes count next) (next_bytes count other)
  w_some_bytes count next other f =
      let asks : Setting → Setting = λ s. record s { outside = with_reading (SomeBytes count) s.outside } in
      let bytes : Setting → List ℕ = λ s. take count s.outside.left in
      let takes : Setting → Setting → Setting = λ a s. having_left (drop (length (bytes a)) s.outside.left) s in
      let rest : (List ℕ → Row) → Setting → Row = λ go a. changes (takes a) (costs_bytes (length (bytes a)) (go (bytes a))) in
      let all : (List ℕ → Row) → Setting → Row = λ go a. fails_unless (nat_lt 0 (length (bytes a))) (rest go a) in
      w_changes asks asks (here (all next)) (here (all other)) (λ a q k. record { rest = refl; parts = k })
      (w_here (all next) (all other) (λ a q h. w_passing _ _ (rest next a) (rest other (view a q)) refl
      (w_changes (takes a) (takes a) (costs_bytes (length (bytes a)) (next (bytes a))) (costs_bytes (length (bytes a)) (other (bytes a)))
      (λ b p k. record { rest = refl; parts = k }) (w_bytes (length (bytes a)) (next (bytes a)) (other (bytes a)) (f (bytes a))))))

  w_opened_line : (number : ℕ) (next other : List ℕ → Row) → ((line : List ℕ) → RowTo R (next line) (other line))
      → RowTo R (next_opened_line number next) (next_opened_line number other)
  w_opened_line number next other f =
      let line : Setting → List ℕ = λ s. take_while (λ byte. not (byte == 10)) (left_in (file_at s.world.heap number)) in
      let takes : Setting → Heap → Heap = λ a. read_on number (length (line a) + 1) in
      let rest : (List ℕ → Row) → Setting → Row = λ go a. changes_heap (takes a) (costs_bytes (length (line a)) (go (line a))) in
      let all : (List ℕ → Row) → Setting → Row = λ go a. fails_unless (nat_lt 0 (length (left_in (file_at a.world.heap number)))) (rest go a) in
      w_here (all next) (all other) (λ a q h. w_passing _ _ (rest next a) (rest other (view a q)) refl
      (w_heap (takes a) (takes a) (costs_bytes (length (line a)) (next (line a))) (costs_bytes (length (line a)) (other (line a)))
      (λ b p k. record { rest = refl; parts = k }) (w_bytes (length (line a)) (next (line a)) (other (line a)) (f (line a)))))

  w_opened_bytes : (number count : ℕ) (next other : List ℕ → Row) → ((bytes : List ℕ) → RowTo R (next bytes) (other bytes))
      → RowTo R (next_opened_bytes number count next) (next_opened_bytes number count other)
  w_opened_bytes number count next other f =
      let bytes : Setting → List ℕ = λ s. take count (left_in (file_at s.world.heap number)) in
      let takes : Setting → Heap → Heap = λ a. read_on number (length (bytes a)) in
      let rest : (List ℕ → Row) → Setting → Row = λ go a. changes_heap (takes a) (costs_bytes (length (bytes a)) (go (bytes a))) in
      let all : (List ℕ → Row) → Setting → Row = λ go a. fails_unless (nat_lt 0 (length (bytes a))) (rest go a) in
      w_here (all next) (all other) (λ a q h. w_passing _ _ (rest next a) (rest other (view a q)) refl
      (w_heap (takes a) (takes a) (costs_bytes (length (bytes a)) (next (bytes a))) (costs_bytes (length (bytes a)) (other (bytes a)))
      (λ b p k. record { rest = refl; parts = k }) (w_bytes (length (bytes a)) (next (bytes a)) (other (bytes a)) (f (bytes a)))))

  readable_to : (a : Setting) (q : Parts) (file : File) → readable_of a.world.heap file ≡ readable_of (view a q).world.heap file
  readable_to a q Input = refl
  readable_to a q Output = refl
  readable_to a q Errout = refl
  readable_to a q (Opened number) = refl

  pub w_readable : (file : File) (v w : Value) (next other : Readable → Row) → ValueTo R.To v w → ((from : Readable) → RowTo R (next from) (other from))
      → RowTo R (readable file v next) (readable file w other)
  w_readable file v w next other h f = w_here (λ a. present (readable_of a.world.heap file) 212 (Some v) next)
      (λ a. present (readable_of a.world.heap file) 212 (Some w) other) (λ a q t. w_present _ _ 212 (Some v) (Some w) _ _ (readable_to a q file) (each_to h) f)

  pub w_line_from : (from : Readable) (next other : List ℕ → Row) → ((line : List ℕ) → RowTo R (next line) (other line))
      → RowTo R (line_from from next) (line_from from other)
  w_line_from FromInput next other f = w_line next other f
  w_line_from (FromOpened number) next other f = w_opened_line number next other f

  pub w_bytes_from : (count : ℕ) (from : Readable) (next other : List ℕ → Row) → ((bytes : List ℕ) → RowTo R (next bytes) (other bytes))
      → RowTo R (bytes_from count from next) (bytes_from count from other)
  w_bytes_from count FromInput next other f = w_some_bytes count next other f
  w_bytes_from count (FromOpened number) next other f = w_opened_bytes number count next other f

  put_to : (file : File) (text : List ℕ) (a b : Setting) → SettingTo R a b → SettingTo R (put_on file text a) (put_on file text b)
  put_to file text a b h = see R a b (λ (s : Setting). SettingTo R (put_on file text a) (put_on file text s)) h (by file)
    where
      by : (f : File) → SettingTo R (put_on f text a) (put_on f text (view a (parts_of b)))
      by Input = seen R a (parts_of b) h.parts
      by Output = record { rest = refl; parts = h.parts }
      by Errout = record { rest = refl; parts = h.parts }
      by (Opened number) = record { rest = refl; parts = h.parts }

  -- the same pieces are put, and the last of them in the same place
  record PutsTo (newline : List ℕ) (is_first : Bool) (parts : List WriteArgument) (file : File) (a b : Setting) : Type 0 where
    last : (put_pieces newline is_first parts file a).0 ≡ (put_pieces newline is_first parts file b).0
    behind : SettingTo R (put_pieces newline is_first parts file a).1 (put_pieces newline is_first parts file b).1

  pieces_to : (newline : List ℕ) (is_first : Bool) (parts : List WriteArgument) (file : File) (a b : Setting) → SettingTo R a b
      → PutsTo newline is_first parts file a b
  pieces_to newline is_first [] file a b h = record { last = refl; behind = h }
  pieces_to newline is_first (Puts text ∷ parts) file a b h =
      let r = pieces_to newline false parts file (put_on file text a) (put_on file text b) (put_to file text a b h) in record
      { last = r.last; behind = r.behind }
  pieces_to newline is_first (Selects other ∷ parts) file a b h =
      let text = if is_first then [] else newline in
      let r = pieces_to newline false parts other (put_on file text a) (put_on file text b) (put_to file text a b h) in record
      { last = r.last; behind = r.behind }

  line_to : (newline : List ℕ) (is_first : Bool) (parts : List WriteArgument) (file : File) (a b : Setting) → SettingTo R a b
      → SettingTo R (line_put newline is_first parts file a) (line_put newline is_first parts file b)
  line_to newline is_first parts file a b h =
      let r = pieces_to newline is_first parts file a b h in
      let x = put_pieces newline is_first parts file a in
      let y = put_pieces newline is_first parts file b in
      subst (λ (f : File). SettingTo R (put_on x.0 newline x.1) (put_on f newline y.1)) r.last (put_to x.0 newline x.1 y.1 r.behind)

  writable_to : (a : Setting) (q : Parts) (file : File) → is_writable a.world.heap file ≡ is_writable (view a q).world.heap file
  writable_to a q Input = refl
  writable_to a q Output = refl
  writable_to a q Errout = refl
  writable_to a q (Opened number) = refl

  takes_to : (a : Setting) (q : Parts) (part : WriteArgument) → takes_output a.world.heap part ≡ takes_output (view a q).world.heap part
  takes_to a q (Puts text) = refl
  takes_to a q (Selects file) = writable_to a q file

  w_pieces : (a : Setting) (q : Parts) (vs ws : List Value) (next other : List WriteArgument → Row) → Both (ValueTo R.To) vs ws
      → ((ps : List WriteArgument) → RowTo R (next ps) (other ps))
      → RowTo R (pieces a.world.heap vs next) (pieces (view a q).world.heap ws other)
  w_pieces a q vs ws next other both_nil f = f []
  w_pieces a q vs ws next other (both_cons {x} {y} {xs = us} {ys = zs} h t) f = w_present _ _ 109 (Some x) (Some y) _ _ (e_piece R x y h) (each_to h)
      (λ p. w_check _ _ 213 (Some x) (Some y) _ _ (takes_to a q p) (each_to h)
      (w_pieces a q us zs (λ ps. next (p ∷ ps)) (λ ps. other (p ∷ ps)) t (λ ps. f (p ∷ ps))))

  pub w_puts : (newline : List ℕ) (file : File) (vs ws : List Value) (next other : Row) → Both (ValueTo R.To) vs ws → RowTo R next other
      → RowTo R (puts_line newline file vs next) (puts_line newline file ws other)
  w_puts newline file vs ws next other h f =
      let puts : Row → List WriteArgument → Row = λ go ps. changes (line_put newline true ps file) go in
      w_here (λ a. pieces a.world.heap vs (puts next)) (λ a. pieces a.world.heap ws (puts other)) (λ a q t. w_pieces a q vs ws (puts next) (puts other) h
      (λ ps. w_changes (line_put newline true ps file) (line_put newline true ps file) next other
      (λ b p k. line_to newline true ps file b (view b p) (seen R b p k)) f))

  -- Opening and closing

  pub w_content : (mode : FileMode) (name : List ℕ) (next other : List ℕ → Row) → ((content : List ℕ) → RowTo R (next content) (other content))
      → RowTo R (content_by mode name next) (content_by mode name other)
  w_content ToRead name next other f =
      let asks : Setting → Setting = λ s. record s { outside = with_file_reading name s.outside } in
      let within : (List ℕ → Row) → List ℕ → Row = λ go content. fails_unless (nat_le (length content) most_bytes_of_opened) (go content) in
      let all : (List ℕ → Row) → Setting → Row = λ go a. thing_or_failure (a.outside.files name) (within go) in
      w_changes asks asks (here (all next)) (here (all other)) (λ a q k. record { rest = refl; parts = k })
      (w_here (all next) (all other) (λ a q h. w_found (a.outside.files name) (a.outside.files name) (within next) (within other) refl
      (λ content. w_passing _ _ (next content) (other content) refl (f content))))
  w_content ToWrite name next other f = f []
  w_content ToAdd name next other f =
      let asks : Setting → Setting = λ s. record s { outside = with_file_reading name s.outside } in
      let content : Setting → List ℕ = λ a. unwrap_or (a.outside.files name) [] in
      let all : (List ℕ → Row) → Setting → Row = λ go a. fails_unless (nat_le (length (content a)) most_bytes_of_opened) (go (content a)) in
      w_changes asks asks (here (all next)) (here (all other)) (λ a q k. record { rest = refl; parts = k })
      (w_here (all next) (all other) (λ a q h. w_passing _ _ (next (content a)) (other (content a)) refl (f (content a))))

  pub w_new_file : (file : OpenedFile) (next other : Value → Row) → ((v w : Value) → ValueTo R.To v w → RowTo R (next v) (other w))
      → RowTo R (new_file_of file next) (new_file_of file other)
  w_new_file file next other f =
      let last : Setting → Value = λ s. Std (Opened (length s.world.heap.files)) in
      let all : (Value → Row) → Setting → Row = λ go a. changes_heap (having_file file) (go (last a)) in
      charged 1 (here (all next)) (here (all other)) (w_here (all next) (all other) (λ a q h. w_heap (having_file file) (having_file file)
      (next (last a)) (other (last (view a q))) (λ b p k. record { rest = refl; parts = k }) (f (last a) (last (view a q)) (file_to _))))

  closed_to : (file : File) (a : Setting) (q : Parts) → PartsTo R (parts_of a) q → SettingTo R (closed_in file a) (closed_in file (view a q))
  closed_to Input a q h = seen R a q h
  closed_to Output a q h = seen R a q h
  closed_to Errout a q h = seen R a q h
  closed_to (Opened number) a q h = record { rest = refl; parts = h }

  pub w_closes : (file : File) (next other : Row) → RowTo R next other → RowTo R (changes (closed_in file) next) (changes (closed_in file) other)
  w_closes file next other f = w_changes (closed_in file) (closed_in file) next other (λ a q h. closed_to file a q h) f
