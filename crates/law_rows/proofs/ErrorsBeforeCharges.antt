-- An error that is none of a limit comes before anything is charged or changed.
use Rattle.std.proofs.Common.{◌≡◌, refl, ◌∙◌, sym, true≢false, false, List, inl, inr}
use Rattle.icn_text.specs.declared.op.Op.{Op}
use Rattle.icn_text.specs.declared.func.Func.{Func}
use Rattle.icn_value.specs.Values.{Item}
use Rattle.icn_value.specs.Store.{Setting, Names, value_at}
use Rattle.icn_defs.specs.Rows.{Residual}
use Rattle.icn_defs.specs.Applying.{operation_row, function_of, function_row, again}
use Rattle.law_rows.specs.Unchanged.{UnchangedByError, is_exchange, undoes_exchange}
use Rattle.law_rows.proofs.RowLaws.{RowLaw, any_parts, any_setting, any_of_items, any_of_residual, any_copy}
use Rattle.law_rows.proofs.EveryRow.{operation_comes, values_come, function_comes, resumed_comes}

-- an error of any number comes in the setting that the row is applied in
abbrev unchanged : Setting → RowLaw
unchanged b = record {
  parts = any_parts;
  Entered = λ a. a ≡ b;
  entered = λ a h. any_setting a;
  Comes = UnchangedByError b;
  failure = λ a h. tt;
  gift = λ i a q h. tt;
  suspension = λ i r a q p h. tt;
  error = λ number v a e q h. inr h;
  limit = λ number a e l h. inl l;
  ending = λ status a h. tt;
}

pub operations_unchanged : (op : Op) (xs : List Item) (at : Setting) → is_exchange op ≡ false → UnchangedByError at (operation_row op xs at)
operations_unchanged op xs at e = operation_comes (unchanged at) op xs at (λ is. absurd (true≢false (sym is ∙ e))) refl (any_of_items xs)

pub functions_unchanged : (names : Names) (f : Func) (xs : List Item) (at : Setting) → UnchangedByError at (function_row names f xs at)
functions_unchanged names f xs at = values_come (unchanged at) xs (function_of names f) at refl (any_of_items xs)
    (λ vs g. function_comes (unchanged at) names f vs at refl g (λ e. any_copy (unchanged at) (λ xs id. tt) at.world.heap (value_at vs 0))
    (λ e number is. tt))

pub again_unchanged : (r : Residual) (at : Setting) → undoes_exchange r ≡ false → UnchangedByError at (again r at)
again_unchanged r at e = resumed_comes (unchanged at) r at (λ is. absurd (true≢false (sym is ∙ e))) refl (any_of_residual r)
