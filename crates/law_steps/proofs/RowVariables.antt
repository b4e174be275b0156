-- Rows leave as many globals and statics as there are.
use Rattle.std.proofs.Common.{refl, length}
use Rattle.icn_value.specs.Store.{Setting, World, value_at}
use Rattle.icn_defs.specs.Applying.{function_of}
use Rattle.law_rows.proofs.RowLaws.{RowLaw, PartLaws, SettingBy, any_parts, any_each, any_of_items, any_of_residual, any_copy, so_many}
use Rattle.law_rows.proofs.EveryRow.{operation_comes, values_come, function_comes, resumed_comes, list_comes, record_comes, text_comes, words_come, coexpression_comes}
use Rattle.law_steps.specs.KeepingVariables.{KeepVariables, RowsKeepVariables, world_after}

abbrev parts : World → PartLaws
parts b = record any_parts { globals = so_many (length b.globals); statics = so_many (length b.statics) }

keeps : (b : World) (a : Setting) → SettingBy (parts b) a → KeepVariables b a.world
keeps b a h = record { globals = h.globals; statics = h.statics }

abbrev variables_law : World → RowLaw
variables_law b = record {
  parts = parts b;
  Entered = SettingBy (parts b);
  entered = λ a h. h;
  Comes = λ o. KeepVariables b (world_after o);
  failure = λ a h. keeps b a h;
  gift = λ i a q h. keeps b a h;
  suspension = λ i r a q p h. keeps b a h;
  error = λ number v a e q h. keeps b a h;
  limit = λ number a e l h. keeps b a h;
  ending = λ status a h. keeps b a h;
}

-- every setting keeps its own
self : (a : Setting) → SettingBy (parts a.world) a
self a = record {
  strings = tt;
  cells = tt;
  bounds = tt;
  counts = tt;
  lists = tt;
  sets = tt;
  tables = tt;
  records = tt;
  globals = refl;
  statics = refl;
  locals = tt;
  kept = tt;
  outside = tt;
}

pub rows_keep_variables : RowsKeepVariables
rows_keep_variables = record {
  operations = λ op items a. operation_comes (variables_law a.world) op items a (λ e s h. h) (self a) (any_of_items items);
  functions = λ names func items a.
      values_come (variables_law a.world) items (function_of names func) a (self a) (any_of_items items)
      (λ vs g. function_comes (variables_law a.world) names func vs a (self a) g
      (λ e. any_copy (variables_law a.world) (λ xs id. tt) a.world.heap (value_at vs 0)) (λ e number is. tt));
  resumed = λ rest a. resumed_comes (variables_law a.world) rest a (λ e s h. h) (self a) (any_of_residual rest);
  lists = λ vs a. list_comes (variables_law a.world) vs a (self a) (any_each vs);
  records = λ kind vs a. record_comes (variables_law a.world) kind vs a (self a) tt;
  texts = λ v a. text_comes (variables_law a.world) v a (self a) tt;
  coexpressions = λ n a. coexpression_comes (variables_law a.world) n a (self a) tt tt;
  words = λ texts a. words_come (variables_law a.world) texts a (self a);
}
