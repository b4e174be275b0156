-- What is answered leaves records as long as their kinds, by the law over rows.
use Rattle.std.proofs.Common.{◌≡◌, ℕ, refl, subst, List, map, Result, Ok, Err}
use Rattle.std.specs.List.{All}
use Rattle.icn_text.specs.declared.func.Func.{Func}
use Rattle.icn_value.specs.declared.val.Val.{Val}
use Rattle.icn_value.specs.Store.{Names, Outside, Setting}
use Rattle.icn_defs.specs.Applying.{function_of}
use Rattle.icn_defs.specs.Rows.{Row, Outcome}
use Rattle.icn_heap.specs.Extents.{IsLive, value_in}
use Rattle.icn_heap.specs.Heaps.{extent_of, heap_of}
use Rattle.law_names.specs.RowSizes.{KeepSizes, heap_after}
use Rattle.law_names.proofs.RowSizes.{rows_keep_sizes}
use Rattle.icn_vars.specs.Outcomes.{ComesToAnswer, outcome_in}
use Rattle.icn_vars.specs.Worlds.{setting_of}
use Rattle.icn_vars.specs.declared.outcome.Outcome.{Outcome as HeldOutcome}
use Rattle.icn_vars.specs.declared.outcome.Outcome.TheVariants.{Fails as HeldFails, Gives as HeldGives, Suspends as HeldSuspends}
use Rattle.icn_vars.specs.declared.outcome.Halt.{Halt}
use Rattle.icn_vars.specs.declared.outcome.Halt.TheVariants.{Error as ErrorHalt, Ends as EndsHalt, ReadFault, WriteFault, FileFault, NoMemory}
use Rattle.icn_vars.specs.declared.world.World.{World}
use Rattle.icn_streams.specs.Answers.{CallState, setting_with}
use Rattle.icn_streams.specs.Applies.{Applies}
use Rattle.icn_streams.proofs.CallSequences.{outside_told, told_so}
use Rattle.icn_apply.specs.SizesAfter.{AnswerKeepsSizes}
use Rattle.icn_apply.proofs.NamesStay.{first_there}

-- from the heap of a world to what an outcome leaves
abbrev pub Sized : World → Outcome → Type 0
Sized before outcome = (sizes : ℕ → ℕ) → KeepSizes sizes (heap_of before.heap) (heap_after outcome)

-- where nothing is changed
pub same_sized : (world : World) (result : Result HeldOutcome Halt) → AnswerKeepsSizes world world result
same_sized world (Ok outcome) = λ sizes. record { kinds = λ id kind is. is; fit = λ fits. fits }
same_sized world (Err (ErrorHalt number offending)) = λ sizes. record { kinds = λ id kind is. is; fit = λ fits. fits }
same_sized world (Err (EndsHalt status)) = λ sizes. record { kinds = λ id kind is. is; fit = λ fits. fits }
same_sized world (Err ReadFault) = tt
same_sized world (Err WriteFault) = tt
same_sized world (Err FileFault) = tt
same_sized world (Err NoMemory) = tt

-- What a row comes to

outcome_sized : (before after : World) (at : Setting) (outcome : HeldOutcome) → at.world.heap ≡ heap_of after.heap
    → Sized before (outcome_in (extent_of after.heap) outcome at)
    → (sizes : ℕ → ℕ) → KeepSizes sizes (heap_of before.heap) (heap_of after.heap)
outcome_sized before after at HeldFails same is = λ sizes. subst (KeepSizes sizes (heap_of before.heap)) same (is sizes)
outcome_sized before after at (HeldGives item) same is = λ sizes. subst (KeepSizes sizes (heap_of before.heap)) same (is sizes)
outcome_sized before after at (HeldSuspends item rest) same is = λ sizes. subst (KeepSizes sizes (heap_of before.heap)) same (is sizes)

module _ (row : Row) (at : Setting) (before : World) (sized : Sized before (row at)) (after : World) (locals : List Val) (now : Outside) where
  comes_sized : (result : Result HeldOutcome Halt) → ComesToAnswer (extent_of after.heap) row at (setting_of now after locals) result
      → AnswerKeepsSizes before after result
  comes_sized (Ok outcome) is = outcome_sized before after (setting_of now after locals) outcome refl (subst (Sized before) is sized)
  comes_sized (Err (ErrorHalt number offending)) is = subst (Sized before) is sized
  comes_sized (Err (EndsHalt status)) is = subst (Sized before) is sized
  comes_sized (Err ReadFault) is = tt
  comes_sized (Err WriteFault) is = tt
  comes_sized (Err FileFault) is = tt
  comes_sized (Err NoMemory) is = tt

-- whatever the input tells
pub applies_sized : (row : Row) (before after : CallState) (result : Result HeldOutcome Halt)
    → ((was : Outside) → Sized before.world (row (setting_with was before)))
    → Applies row before after result → AnswerKeepsSizes before.world after.world result
applies_sized row before after (Ok outcome) sized is =
    let was : Outside = outside_told is.meant.had in
    let comes = is.meant.answers was (told_so is.meant.had) in
    comes_sized row (setting_with was before) before.world (sized was) after.world after.locals comes.now (Ok outcome) comes.comes
applies_sized row before after (Err (ErrorHalt number offending)) sized is =
    let was : Outside = outside_told is.meant.had in
    let comes = is.meant.answers was (told_so is.meant.had) in
    comes_sized row (setting_with was before) before.world (sized was) after.world after.locals comes.now (Err (ErrorHalt number offending)) comes.comes
applies_sized row before after (Err (EndsHalt status)) sized is =
    let was : Outside = outside_told is.meant.had in
    let comes = is.meant.answers was (told_so is.meant.had) in
    comes_sized row (setting_with was before) before.world (sized was) after.world after.locals comes.now (Err (EndsHalt status)) comes.comes
applies_sized row before after (Err ReadFault) sized is = tt
applies_sized row before after (Err WriteFault) sized is = tt
applies_sized row before after (Err FileFault) sized is = tt
applies_sized row before after (Err NoMemory) sized is = tt

-- a function of values of a world
pub function_sized : (names : Names) (func : Func) (world : World) (locals : List Val) (was : Outside) (vals : List Val)
    → All (IsLive (extent_of world.heap)) vals
    → Sized world (function_of names func (map (value_in (extent_of world.heap)) vals) (setting_of was world locals))
function_sized names func world locals was vals live = λ sizes.
    rows_keep_sizes.functions sizes names func (map (value_in (extent_of world.heap)) vals) (setting_of was world locals)
    (λ is_copy. first_there world.heap vals live)
