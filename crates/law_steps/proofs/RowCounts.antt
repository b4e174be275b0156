-- Rows leave the limits of a heap, and but for the row that makes a co-expression the counts of results.
use Rattle.std.proofs.Common.{◌≡◌, refl}
use Rattle.icn_value.specs.Store.{Setting, Heap, value_at}
use Rattle.law_rows.proofs.RowLaws.{RowLaw, PartLaws, SettingBy, any_parts, any_each, any_of_items, any_of_residual, any_copy}
use Rattle.law_rows.proofs.EveryRow.{operation_comes, values_come, function_comes, resumed_comes}
use Rattle.law_names.specs.RowSizes.{heap_after}
use Rattle.law_steps.specs.KeepingCounts.{KeepCounts, RowsKeepCounts}

abbrev parts : Heap → PartLaws
parts b = record any_parts { BoundsAre = λ bounds. bounds ≡ b.bounds; CountsAre = λ counts. counts ≡ b.coexps }

keeps : (b : Heap) (a : Setting) → SettingBy (parts b) a → KeepCounts b a.world.heap
keeps b a h = record { bounds = h.bounds; coexps = h.counts }

abbrev counts_law : Heap → RowLaw
counts_law b = record {
  parts = parts b;
  Entered = SettingBy (parts b);
  entered = λ a h. h;
  Comes = λ o. KeepCounts b (heap_after o);
  failure = λ a h. keeps b a h;
  gift = λ i a q h. keeps b a h;
  suspension = λ i r a q p h. keeps b a h;
  error = λ number v a e q h. keeps b a h;
  limit = λ number a e l h. keeps b a h;
  ending = λ status a h. keeps b a h;
}

-- every setting keeps its own
self : (a : Setting) → SettingBy (parts a.world.heap) a
self a = record {
  strings = tt;
  cells = tt;
  bounds = refl;
  counts = refl;
  lists = tt;
  sets = tt;
  tables = tt;
  records = tt;
  globals = tt;
  statics = tt;
  locals = tt;
  kept = tt;
  outside = tt;
}

-- every row keeps the limits and, but for one, the counts of results
pub rows_keep_counts : RowsKeepCounts
rows_keep_counts = record {
  operations = λ op items a. operation_comes (counts_law a.world.heap) op items a (λ e s h. h) (self a) (any_of_items items);
  values = λ items next a f. values_come (counts_law a.world.heap) items next a (self a) (any_of_items items) (λ vs g. f vs);
  functions = λ names func vs a.
      function_comes (counts_law a.world.heap) names func vs a (self a) (any_each vs)
      (λ e. any_copy (counts_law a.world.heap) (λ xs id. tt) a.world.heap (value_at vs 0)) (λ e number is. tt);
  resumed = λ rest a. resumed_comes (counts_law a.world.heap) rest a (λ e s h. h) (self a) (any_of_residual rest);
}
