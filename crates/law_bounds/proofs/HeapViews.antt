-- What rows look at in a heap is the same under every bound of turns.
use Rattle.std.proofs.Common.{◌≡◌, ℕ, zero, suc, List, [], ◌∷◌, Option, None, Some, refl, ap, ◌∙◌, if◌then◌else◌}
use Rattle.std.specs.Prelude.{ℤ, pos, negsuc, ◌++◌, codes, decimal}
use Rattle.std.specs.Ordering.{is_lt, ordering_then}
use Rattle.std.specs.declared.cmp.Ordering.{Ordering}
use Rattle.icn_value.specs.Values.{Value, Null, Integer, Text, Chars, Std, Procedure, ARecord, AList, ASet, ATable, ACoexp, File, Input, Output, Errout, Opened, Root, Global, Static, Local, Element, Field, Key, Keyword, Subject, Position, Random, ErrorCount}
use Rattle.icn_value.specs.Store.{Heap, Names, Setting}
use Rattle.icn_defs.specs.Arguments.{Keeper, SetKeeper, TableKeeper}
use Rattle.icn_defs.specs.Conversions.{ValueRank, shape_cmp, sorted_in, sorted_onto, sort_list, ValueGroup, Textual, Listed, Collected, Tabled, Recorded, Filed, Activated, Single, group_of, size_in, size_of}
use Rattle.icn_defs.specs.Errors.{error_report, error_text, offending_line}
use Rattle.icn_defs.specs.Images.{file_image, image, type_name, sorted_shape, value_cmp}
use Rattle.icn_defs.specs.InputOutput.{WriteArgument, Puts, Selects, takes_output}
use Rattle.icn_defs.specs.OpenFiles.{is_writable, readable_of}
use Rattle.icn_defs.specs.ReadAndAssign.{root_value}
use Rattle.icn_defs.specs.Structures.{key_cmp, entry_cmp, gives_pair_lists, gives_pairs, has_key, table_sorted, without_key}
use Rattle.law_bounds.specs.BoundedTurns.{heap_under, setting_under}

-- two orders that agree sort alike
module _ {A : Type 0} (f g : A → A → Ordering) (same : (x y : A) → f x y ≡ g x y) where
  sorted_alike : (x : A) (xs : List A) → sorted_in f x xs ≡ sorted_in g x xs
  sorted_alike x [] = refl
  sorted_alike x (y ∷ ys) = ap (λ (o : Ordering). if is_lt o then x ∷ (y ∷ ys) else y ∷ sorted_in f x ys) (same x y)
      ∙ ap (λ (l : List A). if is_lt (g x y) then x ∷ (y ∷ ys) else y ∷ l) (sorted_alike x ys)

  placed_alike : (placed items : List A) → sorted_onto f placed items ≡ sorted_onto g placed items
  placed_alike placed [] = refl
  placed_alike placed (x ∷ xs) = ap (λ (l : List A). sorted_onto f l xs) (sorted_alike x placed) ∙ placed_alike (sorted_in g x placed) xs

  pub sort_alike : (items : List A) → sort_list f items ≡ sort_list g items
  sort_alike items = placed_alike [] items

-- Opened files

module _ (bound : ℕ) (heap : Heap) where
  file_alike : (file : File) → file_image (heap_under bound heap) file ≡ file_image heap file
  file_alike Input = refl
  file_alike Output = refl
  file_alike Errout = refl
  file_alike (Opened number) = refl

  pub readable_alike : (file : File) → readable_of (heap_under bound heap) file ≡ readable_of heap file
  readable_alike Input = refl
  readable_alike Output = refl
  readable_alike Errout = refl
  readable_alike (Opened number) = refl

  writable_alike : (file : File) → is_writable (heap_under bound heap) file ≡ is_writable heap file
  writable_alike Input = refl
  writable_alike Output = refl
  writable_alike Errout = refl
  writable_alike (Opened number) = refl

  pub takes_alike : (part : WriteArgument) → takes_output (heap_under bound heap) part ≡ takes_output heap part
  takes_alike (Puts text) = refl
  takes_alike (Selects file) = writable_alike file

module _ (bound : ℕ) (names : Names) (heap : Heap) where
  pub image_alike : (v : Value) → image names (heap_under bound heap) v ≡ image names heap v
  image_alike Null = refl
  image_alike (Integer n) = refl
  image_alike (Text bytes) = refl
  image_alike (Chars bytes) = refl
  image_alike (Std file) = file_alike bound heap file
  image_alike (Procedure number) = refl
  image_alike (ARecord id) = refl
  image_alike (AList id) = refl
  image_alike (ASet id) = refl
  image_alike (ATable id) = refl
  image_alike (ACoexp id) = refl

  line_alike : (v : Option Value) → offending_line names (heap_under bound heap) v ≡ offending_line names heap v
  line_alike None = refl
  line_alike (Some value) = ap (λ (text : List ℕ). codes "offending value: " ++ (text ++ codes "\n")) (image_alike value)

  pub report_alike : (n : ℕ) (v : Option Value) → error_report names (heap_under bound heap) n v ≡ error_report names heap n v
  report_alike n v = ap (λ (line : List ℕ). codes "Run-time error " ++ (decimal n ++ (codes "\n" ++ (error_text n ++ (codes "\n" ++ line))))) (line_alike v)

  pub type_alike : (v : Value) → type_name names (heap_under bound heap) v ≡ type_name names heap v
  type_alike Null = refl
  type_alike (Integer n) = refl
  type_alike (Text bytes) = refl
  type_alike (Chars bytes) = refl
  type_alike (Std file) = refl
  type_alike (Procedure number) = refl
  type_alike (ARecord id) = refl
  type_alike (AList id) = refl
  type_alike (ASet id) = refl
  type_alike (ATable id) = refl
  type_alike (ACoexp id) = refl

  shape_alike : (v : Value) → sorted_shape names (heap_under bound heap) v ≡ sorted_shape names heap v
  shape_alike Null = refl
  shape_alike (Integer n) = refl
  shape_alike (Text bytes) = refl
  shape_alike (Chars bytes) = refl
  shape_alike (Std file) = refl
  shape_alike (Procedure number) = refl
  shape_alike (ARecord id) = refl
  shape_alike (AList id) = refl
  shape_alike (ASet id) = refl
  shape_alike (ATable id) = refl
  shape_alike (ACoexp id) = refl

  pub cmp_alike : (a b : Value) → value_cmp names (heap_under bound heap) a b ≡ value_cmp names heap a b
  cmp_alike a b = ap (λ (s : ValueRank). shape_cmp s (sorted_shape names (heap_under bound heap) b)) (shape_alike a)
      ∙ ap (λ (s : ValueRank). shape_cmp (sorted_shape names heap a) s) (shape_alike b)

  pub values_alike : (items : List Value) → sort_list (value_cmp names (heap_under bound heap)) items ≡ sort_list (value_cmp names heap) items
  values_alike items = sort_alike (value_cmp names (heap_under bound heap)) (value_cmp names heap) cmp_alike items

  keys_alike : (a b : Value × Value) → key_cmp names (heap_under bound heap) a b ≡ key_cmp names heap a b
  keys_alike a b = cmp_alike a.0 b.0

  entries_alike : (a b : Value × Value) → entry_cmp names (heap_under bound heap) a b ≡ entry_cmp names heap a b
  entries_alike a b = ap (λ (o : Ordering). ordering_then o (value_cmp names (heap_under bound heap) a.0 b.0)) (cmp_alike a.1 b.1)
      ∙ ap (λ (o : Ordering). ordering_then (value_cmp names heap a.1 b.1) o) (cmp_alike a.0 b.0)

  by_key : (pairs : List (Value × Value)) → sort_list (key_cmp names (heap_under bound heap)) pairs ≡ sort_list (key_cmp names heap) pairs
  by_key pairs = sort_alike (key_cmp names (heap_under bound heap)) (key_cmp names heap) keys_alike pairs

  by_entry : (pairs : List (Value × Value)) → sort_list (entry_cmp names (heap_under bound heap)) pairs ≡ sort_list (entry_cmp names heap) pairs
  by_entry pairs = sort_alike (entry_cmp names (heap_under bound heap)) (entry_cmp names heap) entries_alike pairs

  pub table_alike : (pairs : List (Value × Value)) (n : ℤ) (chosen : Value)
      → table_sorted names (heap_under bound heap) pairs n chosen ≡ table_sorted names heap pairs n chosen
  table_alike pairs (pos zero) chosen = refl
  table_alike pairs (pos (suc zero)) chosen = ap gives_pair_lists (by_key pairs)
  table_alike pairs (pos (suc (suc zero))) chosen = ap gives_pair_lists (by_entry pairs)
  table_alike pairs (pos (suc (suc (suc zero)))) chosen = ap gives_pairs (by_key pairs)
  table_alike pairs (pos (suc (suc (suc (suc zero))))) chosen = ap gives_pairs (by_entry pairs)
  table_alike pairs (pos (suc (suc (suc (suc (suc n)))))) chosen = refl
  table_alike pairs (negsuc n) chosen = refl

module _ (bound : ℕ) where
  pub size_alike : (heap : Heap) (v : Value) → size_of (heap_under bound heap) v ≡ size_of heap v
  size_alike heap v = by (group_of v)
    where
      by : (g : ValueGroup) → size_in (heap_under bound heap) g ≡ size_in heap g
      by (Textual bytes) = refl
      by (Listed id) = refl
      by (Collected id) = refl
      by (Tabled id) = refl
      by (Recorded id) = refl
      by (Filed file) = refl
      by (Activated id) = refl
      by Single = refl

  pub has_alike : (heap : Heap) (kept : Keeper) (key : Value) → has_key (heap_under bound heap) kept key ≡ has_key heap kept key
  has_alike heap (SetKeeper id) key = refl
  has_alike heap (TableKeeper id) key = refl

  pub without_alike : (kept : Keeper) (key : Value) (heap : Heap) → without_key kept key (heap_under bound heap) ≡ heap_under bound (without_key kept key heap)
  without_alike (SetKeeper id) key heap = refl
  without_alike (TableKeeper id) key heap = refl

  -- what a variable holds
  pub root_alike : (setting : Setting) (root : Root) → root_value (setting_under bound setting) root ≡ root_value setting root
  root_alike setting (Global index) = refl
  root_alike setting (Static index) = refl
  root_alike setting (Local index) = refl
  root_alike setting (Element list number) = refl
  root_alike setting (Field structure index) = refl
  root_alike setting (Key table key) = refl
  root_alike setting (Keyword Subject) = refl
  root_alike setting (Keyword Position) = refl
  root_alike setting (Keyword Random) = refl
  root_alike setting (Keyword ErrorCount) = refl
