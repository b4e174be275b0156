-- Whatever each put, each reading and each call of the store of files keeps of the outside, every row keeps.
use Rattle.std.proofs.Common.{ℕ, List}
use Rattle.icn_text.specs.declared.op.Op.{Op}
use Rattle.icn_text.specs.declared.func.Func.{Func}
use Rattle.icn_value.specs.Values.{Value, Item}
use Rattle.icn_value.specs.Store.{Setting, Names, value_at}
use Rattle.icn_defs.specs.Rows.{Residual, gives_list}
use Rattle.icn_defs.specs.Applying.{operation_row, function_of, function_row, again}
use Rattle.icn_defs.specs.StepRows.{record_row, coexpression_row, text_row}
use Rattle.icn_defs.specs.Running.{words_row}
use Rattle.law_rows.proofs.RowLaws.{RowLaw, PartLaws, SettingBy, any_parts, any_each, any_of_items, any_of_residual, any_copy}
use Rattle.law_rows.proofs.EveryRow.{operation_comes, values_come, function_comes, resumed_comes, list_comes, record_comes, text_comes, words_come, coexpression_comes}
use Rattle.law_outside.specs.Outsides.{LeavesOutside}
use Rattle.law_outside.proofs.LastingFacts.{Lasting}

-- it is so of the setting's outside
abbrev pub Keeps : Lasting → Setting → Type 0
Keeps b s = b.is s.outside

abbrev parts : Lasting → PartLaws
parts b = record any_parts {
  outside = record {
    Is = b.is;
    output = b.output;
    errors = b.errors;
    read = b.read;
    found = b.found;
    written = b.written;
  };
}

abbrev outside_law : Lasting → RowLaw
outside_law b = record {
  parts = parts b;
  Entered = SettingBy (parts b);
  entered = λ a h. h;
  Comes = LeavesOutside b.is;
  failure = λ a h. h.outside;
  gift = λ i a q h. h.outside;
  suspension = λ i r a q p h. h.outside;
  error = λ number v a e q h. h.outside;
  limit = λ number a e l h. h.outside;
  ending = λ status a h. h.outside;
}

entered : (b : Lasting) (a : Setting) → Keeps b a → SettingBy (parts b) a
entered b a k = record {
  strings = tt;
  cells = tt;
  bounds = tt;
  counts = tt;
  lists = tt;
  sets = tt;
  tables = tt;
  records = tt;
  globals = tt;
  statics = tt;
  locals = tt;
  kept = tt;
  outside = k;
}

-- the rows that steps are made with
pub record_leaves : (b : Lasting) (kind : ℕ) (vs : List Value) (a : Setting) → Keeps b a → LeavesOutside b.is (record_row kind vs a)
record_leaves b kind vs a k = record_comes (outside_law b) kind vs a (entered b a k) tt

pub coexpression_leaves : (b : Lasting) (locals : ℕ) (a : Setting) → Keeps b a → LeavesOutside b.is (coexpression_row locals a)
coexpression_leaves b locals a k = coexpression_comes (outside_law b) locals a (entered b a k) tt tt

pub text_leaves : (b : Lasting) (v : Value) (a : Setting) → Keeps b a → LeavesOutside b.is (text_row v a)
text_leaves b v a k = text_comes (outside_law b) v a (entered b a k) tt

pub words_leave : (b : Lasting) (lines : List (List ℕ)) (a : Setting) → Keeps b a → LeavesOutside b.is (words_row lines a)
words_leave b lines a k = words_come (outside_law b) lines a (entered b a k)

-- an operation, a function and what is resumed leave it so
pub operation_leaves : (b : Lasting) (op : Op) (xs : List Item) (a : Setting) → b.is a.outside → LeavesOutside b.is (operation_row op xs a)
operation_leaves b op xs a k = operation_comes (outside_law b) op xs a (λ e s h. h) (entered b a k) (any_of_items xs)

pub function_leaves : (b : Lasting) (names : Names) (f : Func) (xs : List Item) (a : Setting) → b.is a.outside → LeavesOutside b.is (function_row names f xs a)
function_leaves b names f xs a k =
    values_come (outside_law b) xs (function_of names f) a (entered b a k) (any_of_items xs)
    (λ vs g. function_comes (outside_law b) names f vs a (entered b a k) g
    (λ e. any_copy (outside_law b) (λ xs id. tt) a.world.heap (value_at vs 0)) (λ e number is. tt))

pub again_leaves : (b : Lasting) (r : Residual) (a : Setting) → b.is a.outside → LeavesOutside b.is (again r a)
again_leaves b r a k = resumed_comes (outside_law b) r a (λ e s h. h) (entered b a k) (any_of_residual r)

pub list_leaves : (b : Lasting) (vs : List Value) (a : Setting) → b.is a.outside → LeavesOutside b.is (gives_list vs a)
list_leaves b vs a k = list_comes (outside_law b) vs a (entered b a k) (any_each vs)
