-- Copies, and sets of lists, by the value that they are made of.
use Rattle.std.proofs.Common.{◌≡◌, refl, ℕ, Option, None, Some}
use Rattle.icn_value.specs.Values.{Value, Null, Integer, Text, Chars, Std, Procedure, ARecord, AList, ASet, ATable, ACoexp}
use Rattle.icn_value.specs.Store.{Setting}
use Rattle.icn_defs.specs.Arguments.{list_of}
use Rattle.icn_defs.specs.Conversions.{group_of}
use Rattle.icn_defs.specs.Rows.{gives_value}
use Rattle.icn_defs.specs.Structures.{copy_of, new_set_by}
use Rattle.icn_structfn.specs.Copies.{copy_of_value, set_by, set_of_value}

-- the row of `copy`
pub copies : (value : Value) (setting : Setting) → copy_of value (group_of value) setting ≡ copy_of_value value gives_value setting
copies Null setting = refl
copies (Integer n) setting = refl
copies (Text bytes) setting = refl
copies (Chars bytes) setting = refl
copies (Std file) setting = refl
copies (Procedure number) setting = refl
copies (ARecord id) setting = refl
copies (AList id) setting = refl
copies (ASet id) setting = refl
copies (ATable id) setting = refl
copies (ACoexp id) setting = refl

-- the row of `set`
pub sets : (value : Value) (setting : Setting) → new_set_by value (list_of value) setting ≡ set_of_value value gives_value setting
sets value setting = by_list (list_of value)
  where
    by_list : (found : Option ℕ) → new_set_by value found setting ≡ set_by value found gives_value setting
    by_list None = refl
    by_list (Some id) = refl
