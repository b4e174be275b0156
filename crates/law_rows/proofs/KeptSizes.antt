-- Every row keeps the numbers of locals, globals and statics, and the limits.
use Rattle.std.proofs.Common.{refl, ◌≡◌, ℕ, List, length}
use Rattle.icn_text.specs.declared.op.Op.{Op}
use Rattle.icn_text.specs.declared.func.Func.{Func}
use Rattle.icn_value.specs.Values.{Value, Item}
use Rattle.icn_value.specs.Store.{Setting, Names, value_at}
use Rattle.icn_defs.specs.Rows.{Residual}
use Rattle.icn_defs.specs.Applying.{operation_row, function_of, function_row, again}
use Rattle.icn_defs.specs.StepRows.{list_row, record_row, coexpression_row, text_row}
use Rattle.icn_defs.specs.Running.{words_row}
use Rattle.icn_defs.specs.KeptSizes.{KeepsSizes, KeepsIn}
use Rattle.law_rows.proofs.RowLaws.{RowLaw, PartLaws, SettingBy, any_parts, so_many, any_each, any_of_items, any_of_residual, any_copy}
use Rattle.law_rows.proofs.EveryRow.{operation_comes, values_come, function_comes, resumed_comes, list_comes, record_comes, coexpression_comes, text_comes, words_come}

abbrev parts : Setting → PartLaws
parts b = record any_parts {
  BoundsAre = λ bounds. bounds ≡ b.world.heap.bounds;
  globals = so_many (length b.world.globals);
  statics = so_many (length b.world.statics);
  locals = so_many (length b.locals);
}

kept : (b a : Setting) → SettingBy (parts b) a → KeepsSizes b a
kept b a h = record { locals = h.locals; globals = h.globals; statics = h.statics; bounds = h.bounds }

abbrev keeping : Setting → RowLaw
keeping b = record {
  parts = parts b;
  Entered = SettingBy (parts b);
  entered = λ a h. h;
  Comes = KeepsIn b;
  failure = λ a h. kept b a h;
  gift = λ i a q h. kept b a h;
  suspension = λ i r a q p h. kept b a h;
  error = λ number v a e q h. kept b a h;
  limit = λ number a e l h. kept b a h;
  ending = λ status a h. tt;
}

self : (a : Setting) → SettingBy (parts a) a
self a = record {
  strings = tt;
  cells = tt;
  bounds = refl;
  counts = tt;
  lists = tt;
  sets = tt;
  tables = tt;
  records = tt;
  globals = refl;
  statics = refl;
  locals = refl;
  kept = tt;
  outside = tt;
}

-- an operation, a function, what is resumed, and the rows that steps are made with
pub operation_keeps : (op : Op) (xs : List Item) (a : Setting) → KeepsIn a (operation_row op xs a)
operation_keeps op xs a = operation_comes (keeping a) op xs a (λ e s h. h) (self a) (any_of_items xs)

pub function_keeps : (names : Names) (f : Func) (xs : List Item) (a : Setting) → KeepsIn a (function_row names f xs a)
function_keeps names f xs a = values_come (keeping a) xs (function_of names f) a (self a) (any_of_items xs)
    (λ vs g. function_comes (keeping a) names f vs a (self a) g (λ e. any_copy (keeping a) (λ xs id. tt) a.world.heap (value_at vs 0))
    (λ e number is. tt))

pub again_keeps : (r : Residual) (a : Setting) → KeepsIn a (again r a)
again_keeps r a = resumed_comes (keeping a) r a (λ e s h. h) (self a) (any_of_residual r)

pub list_keeps : (vs : List Value) (a : Setting) → KeepsIn a (list_row vs a)
list_keeps vs a = list_comes (keeping a) vs a (self a) (any_each vs)

pub record_keeps : (kind : ℕ) (vs : List Value) (a : Setting) → KeepsIn a (record_row kind vs a)
record_keeps kind vs a = record_comes (keeping a) kind vs a (self a) tt

pub coexpression_keeps : (locals : ℕ) (a : Setting) → KeepsIn a (coexpression_row locals a)
coexpression_keeps locals a = coexpression_comes (keeping a) locals a (self a) tt tt

pub text_keeps : (v : Value) (a : Setting) → KeepsIn a (text_row v a)
text_keeps v a = text_comes (keeping a) v a (self a) tt

pub words_keep : (words : List (List ℕ)) (a : Setting) → KeepsIn a (words_row words a)
words_keep words a = words_come (keeping a) words a (self a)
