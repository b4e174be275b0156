-- In every row the sums and the structures only grow.
use Rattle.std.proofs.Common.{arith, ◌+◌, ◌++◌, ◌≤◌, length-append, ℕ, refl, ◌≡◌, List, [], ◌∷◌, length}
use Rattle.std.specs.Prelude.{slice_set}
use Rattle.std.proofs.lemmas.List.{length-set}
use Rattle.icn_text.specs.declared.op.Op.{Op}
use Rattle.icn_text.specs.declared.func.Func.{Func}
use Rattle.icn_value.specs.Values.{Item}
use Rattle.icn_value.specs.Store.{Setting, Names, new_list, value_at}
use Rattle.icn_defs.specs.Rows.{Residual}
use Rattle.icn_defs.specs.Applying.{operation_row, function_of, function_row, again}
use Rattle.law_rows.specs.Growths.{HeapGrows, GrowsIn}
use Rattle.law_rows.proofs.RowLaws.{RowLaw, PartLaws, SumLaw, StructuresLaw, RecordsLaw, SettingBy, ListBy, TableBy, any_parts, any_each, any_pairs, any_of_items, any_of_residual, any_copy, no_table}
use Rattle.law_rows.proofs.EachOfList.{Each}
use Rattle.law_rows.proofs.EveryRow.{operation_comes, values_come, function_comes, resumed_comes}

le_self : (n : ℕ) → n ≤ n
le_self n = omega arith

le_more : (n m k : ℕ) → n ≤ m → n ≤ m + k
le_more n m k h = omega (arith, h)

le_set : {A : Type 0} (n : ℕ) (xs : List A) (i : ℕ) (x : A) → n ≤ length xs → n ≤ length (slice_set xs i x)
le_set n xs i x h = omega (arith, length-set xs i x, h)

le_join : {A : Type 0} (n : ℕ) (xs ys : List A) → n ≤ length xs → n ≤ length (xs ++ ys)
le_join n xs ys h = omega (arith, length-append xs ys, h)

-- at least as much, or as many

abbrev sum_from : ℕ → SumLaw
sum_from n = record { Is = λ m. n ≤ m; more = λ m k h. le_more n m k h }

abbrev structures_from : {A : Type 0} (none : A) (Q : A → Type 0) → ((x : A) → Q x) → ℕ → StructuresLaw A none Q
structures_from none Q all n = record {
  Is = λ xs. n ≤ length xs;
  set = λ xs id x h g. le_set n xs id x h;
  more = λ xs x h g. le_join n xs (x ∷ []) h;
  at = λ xs id h. all _;
}

abbrev records_from : ℕ → RecordsLaw (λ v. Unit {0})
records_from n = record {
  Is = λ xs. n ≤ length xs;
  New = λ x. Unit {0};
  There = λ xs id. Unit {0};
  set = λ xs id place v h g. le_set n xs id _ h;
  more = λ xs x h g. le_join n xs (x ∷ []) h;
  copy = λ xs id t h. le_join n xs _ h;
  fields = λ xs id h. any_each _;
}

abbrev parts : Setting → PartLaws
parts b = record any_parts {
  strings = sum_from b.world.heap.strings;
  cells = sum_from b.world.heap.cells;
  CountsAre = λ counts. counts ≡ b.world.heap.coexps;
  lists = structures_from (new_list []) (ListBy (λ v. Unit {0})) (λ x. any_each x.items) (length b.world.heap.lists);
  sets = structures_from [] (Each (λ v. Unit {0})) any_each (length b.world.heap.sets);
  tables = structures_from no_table (TableBy (λ v. Unit {0})) (λ x. (tt, any_pairs x.pairs)) (length b.world.heap.tables);
  records = records_from (length b.world.heap.records);
}

grows : (b a : Setting) → SettingBy (parts b) a → HeapGrows b a
grows b a h = record {
  strings = h.strings;
  cells = h.cells;
  lists = h.lists;
  sets = h.sets;
  tables = h.tables;
  records = h.records;
  coexps = h.counts;
}

abbrev growing : Setting → RowLaw
growing b = record {
  parts = parts b;
  Entered = SettingBy (parts b);
  entered = λ a h. h;
  Comes = GrowsIn b;
  failure = λ a h. grows b a h;
  gift = λ i a q h. grows b a h;
  suspension = λ i r a q p h. grows b a h;
  error = λ number v a e q h. tt;
  limit = λ number a e l h. tt;
  ending = λ status a h. tt;
}

self : (a : Setting) → SettingBy (parts a) a
self a = record {
  strings = le_self _;
  cells = le_self _;
  bounds = tt;
  counts = refl;
  lists = le_self _;
  sets = le_self _;
  tables = le_self _;
  records = le_self _;
  globals = tt;
  statics = tt;
  locals = tt;
  kept = tt;
  outside = tt;
}

pub operation_grows : (op : Op) (xs : List Item) (a : Setting) → GrowsIn a (operation_row op xs a)
operation_grows op xs a = operation_comes (growing a) op xs a (λ e s h. h) (self a) (any_of_items xs)

pub function_grows : (names : Names) (f : Func) (xs : List Item) (a : Setting) → GrowsIn a (function_row names f xs a)
function_grows names f xs a = values_come (growing a) xs (function_of names f) a (self a) (any_of_items xs)
    (λ vs g. function_comes (growing a) names f vs a (self a) g (λ e. any_copy (growing a) (λ xs id. tt) a.world.heap (value_at vs 0))
    (λ e number is. tt))

pub again_grows : (r : Residual) (a : Setting) → GrowsIn a (again r a)
again_grows r a = resumed_comes (growing a) r a (λ e s h. h) (self a) (any_of_residual r)
