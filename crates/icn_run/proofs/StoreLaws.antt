-- What a law over all steps of a run says of the store, and why each change of it keeps that. `EveryStep` goes over the instructions once, for
-- any such law.
use Rattle.std.specs.Prelude.{◌≡◌, ℕ, zero, suc, Bool, true, List, length, slice_get, slice_index_or, slice_set, Option, Some}
use Rattle.icn_text.specs.declared.op.Op.{Op}
use Rattle.icn_value.specs.Values.{Value, Item}
use Rattle.icn_value.specs.Store.{Names, Outside, Setting, World}
use Rattle.icn_code.specs.Codes.{RecordType}
use Rattle.icn_defs.specs.Applying.{again, operation_row}
use Rattle.icn_defs.specs.Errors.{error_report, with_kept}
use Rattle.icn_defs.specs.Rows.{Outcome, Fails, Gives, Suspends, Error, Ends, Residual}
use Rattle.icn_defs.specs.Running.{Pair, Ending, Done, Exit, Errored, AtBound, bound_report, files_written, with_errors, words_row}
use Rattle.icn_defs.specs.StepRows.{coexpression_row, list_row, record_row, text_row}
use Rattle.icn_run.specs.Step.{Program}

-- what a row leaves: the world and the outside, beside the notes of `initial`
abbrev pub LeavesBy : (World → Outside → List Bool → Type 0) → (Ending → Outside → Type 0) → List Bool → Outcome → Type 0
LeavesBy Is Over begun (Fails seen) = Is seen.world seen.outside begun
LeavesBy Is Over begun (Gives item seen) = Is seen.world seen.outside begun
LeavesBy Is Over begun (Suspends item rest seen) = Is seen.world seen.outside begun
LeavesBy Is Over begun (Error number value seen) = Is seen.world seen.outside begun
LeavesBy Is Over begun (Ends status seen) = Over (Exit status) (files_written seen.world.heap seen.outside)

-- A law of what stands in the world, the outside and the notes of `initial`, and of where a run ends. Stacks and co-expressions are none of it.
pub record StoreLaw (P : Program) : Type 1 where
  pub Is : World → Outside → List Bool → Type 0
  pub Over : Ending → Outside → Type 0
  pub pair : (pair : Pair) (w : World) (outside : Outside) (begun : List Bool) → Is w outside begun
      → Is (record w { subject = pair.subject; position = pair.position }) outside begun
  pub failed : (number : ℕ) (v : Option Value) (w : World) (outside : Outside) (begun : List Bool) → Is w outside begun
      → Is (with_kept number v w) outside begun
  pub counted : (id : ℕ) (w : World) (outside : Outside) (begun : List Bool) → Is w outside begun
      → Is (record w { heap = record w.heap { coexps = slice_set w.heap.coexps id (suc (slice_index_or w.heap.coexps id zero)) } }) outside begun
  pub noted : (proc : ℕ) (w : World) (outside : Outside) (begun : List Bool) → Is w outside begun → Is w outside (slice_set begun proc true)
  pub report : (names : Names) (number : ℕ) (v : Option Value) (w : World) (outside : Outside) (begun : List Bool) → Is w outside begun
      → Over (Errored number) (files_written w.heap (with_errors (error_report names w.heap number v) outside))
  pub bound : (w : World) (outside : Outside) (begun : List Bool) → Is w outside begun → Over AtBound (with_errors bound_report outside)
  pub done : (w : World) (outside : Outside) (begun : List Bool) → Is w outside begun → Over Done (files_written w.heap outside)
  pub operations : (op : Op) (items : List Item) (a : Setting) (begun : List Bool) → Is a.world a.outside begun
      → LeavesBy Is Over begun (operation_row op items a)
  pub resumed : (r : Residual) (a : Setting) (begun : List Bool) → Is a.world a.outside begun → LeavesBy Is Over begun (again r a)
  pub lists : (vs : List Value) (a : Setting) (begun : List Bool) → Is a.world a.outside begun → LeavesBy Is Over begun (list_row vs a)
  pub records : (kind : ℕ) (entry : RecordType) (vs : List Value) (a : Setting) (begun : List Bool) → slice_get P.records kind ≡ Some entry
      → length vs ≡ length entry.fields → Is a.world a.outside begun → LeavesBy Is Over begun (record_row kind vs a)
  pub texts : (v : Value) (a : Setting) (begun : List Bool) → Is a.world a.outside begun → LeavesBy Is Over begun (text_row v a)
  pub words : (words : List (List ℕ)) (a : Setting) (begun : List Bool) → Is a.world a.outside begun → LeavesBy Is Over begun (words_row words a)
  pub coexpressions : (locals : ℕ) (a : Setting) (begun : List Bool) → Is a.world a.outside begun → LeavesBy Is Over begun (coexpression_row locals a)
