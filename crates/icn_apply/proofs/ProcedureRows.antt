-- What `proc` and `args` come to, by the value that they are given.
use Rattle.std.proofs.Common.{◌≡◌, ◌∙◌, ℕ, List, Option, Some, None, refl, sym, ap}
use Rattle.icn_value.specs.declared.val.Val.{Val}
use Rattle.icn_value.specs.declared.val.Val.TheVariants.{Null as NullVal, Integer as IntegerVal, Text as TextVal, Chars as CharsVal, Std as StdVal, Proc as ProcVal, Rec as RecVal, List as ListVal, Set as SetVal, Table as TableVal, Coexp as CoexpVal}
use Rattle.icn_value.specs.Values.{Value, Integer, Procedure, Val as ItemVal}
use Rattle.icn_value.specs.Store.{Names, Setting}
use Rattle.icn_defs.specs.Arguments.{arg}
use Rattle.icn_defs.specs.NamedValues.{args_row, arguments_of, held_procedure, proc_row, procedure_of}
use Rattle.icn_defs.specs.Rows.{Error, Fails, Gives, gives_value, present, thing_or_failure}
use Rattle.icn_heap.specs.Extents.{Extent, value_in}

module _ (names : Names) (args : List Value) (value : Value) (is : value ≡ arg args 0) (at : Setting) where
  proc_of : (found : Option ℕ) → found ≡ procedure_of names value
      → proc_row names args at ≡ thing_or_failure found (λ number. gives_value (Procedure number)) at
  proc_of found same =
      ap (λ v. thing_or_failure (procedure_of names v) (λ number. gives_value (Procedure number)) at) (sym is)
      ∙ ap (λ o. thing_or_failure o (λ number. gives_value (Procedure number)) at) (sym same)

  -- it is a procedure, or a text that names one
  pub proc_gives : (number : ℕ) → Some number ≡ procedure_of names value → proc_row names args at ≡ Gives (ItemVal (Procedure number)) at
  proc_gives number same = proc_of (Some number) same

  pub proc_fails : None ≡ procedure_of names value → proc_row names args at ≡ Fails at
  proc_fails same = proc_of None same

  args_of : (found : Option ℕ) → found ≡ held_procedure value
      → args_row names args at ≡ present found 106 (Some value) (λ number. gives_value (Integer (arguments_of names number))) at
  args_of found same =
      ap (λ v. present (held_procedure v) 106 (Some v) (λ number. gives_value (Integer (arguments_of names number))) at) (sym is)
      ∙ ap (λ o. present o 106 (Some value) (λ number. gives_value (Integer (arguments_of names number))) at) (sym same)

  pub args_gives : (number : ℕ) → value ≡ Procedure number → args_row names args at ≡ Gives (ItemVal (Integer (arguments_of names number))) at
  args_gives number same = args_of (Some number) (ap held_procedure (sym same))

  pub args_refused : held_procedure value ≡ None → args_row names args at ≡ Error 106 (Some value) at
  args_refused none = args_of None (sym none)

-- a value that is no procedure
pub no_procedure : (all : Extent) (val : Val) → ((number : ℕ) → val ≡ ProcVal number → ⊥) → held_procedure (value_in all val) ≡ None
no_procedure all NullVal none = refl
no_procedure all (IntegerVal n) none = refl
no_procedure all (TextVal span) none = refl
no_procedure all (CharsVal cset) none = refl
no_procedure all (StdVal file) none = refl
no_procedure all (ProcVal number) none = absurd (none number refl)
no_procedure all (RecVal id) none = refl
no_procedure all (ListVal id) none = refl
no_procedure all (SetVal id) none = refl
no_procedure all (TableVal id) none = refl
no_procedure all (CoexpVal id) none = refl
