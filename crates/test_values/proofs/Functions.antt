-- The names of the functions, and how many arguments they take, by their numbers behind the one record.
use Rattle.std.proofs.Common.{◌≡◌, ◌∙◌, sym, subst, ℕ, suc, ◌<◌, ℤ, pos, List, [], length, map, get_or}
use Rattle.std.proofs.lemmas.List.{get_or-map}
use Rattle.std.proofs.lemmas.Option.{unwrap_or-slice_get}
use Rattle.icn_text.specs.declared.func.Func.{Func}
use Rattle.icn_text.specs.Funcs.{func_name}
use Rattle.icn_defs.specs.Images.{functions, procedure_name}
use Rattle.icn_defs.specs.NamedValues.{arguments_of, function_arguments}
use Rattle.test_values.specs.OneRecord.{one_record}

pub function_by : (number place : ℕ) (other : Func) (name : List ℕ) → number ≡ suc place → place < length functions
    → name ≡ func_name (get_or functions place other)
    → name ≡ procedure_name one_record number
function_by number place other name e low named =
    subst (λ n. name ≡ procedure_name one_record n) (sym e)
    (named ∙ (sym (get_or-map func_name functions place other [] low) ∙ sym (unwrap_or-slice_get (map func_name functions) place [])))

pub arguments_by : (number place : ℕ) (other : Func) (count : ℤ) → number ≡ suc place → place < length functions
    → count ≡ function_arguments (get_or functions place other) → count ≡ arguments_of one_record number
arguments_by number place other count e low counted =
    subst (λ n. count ≡ arguments_of one_record n) (sym e)
    (counted ∙ (sym (get_or-map function_arguments functions place other (pos 0) low)
    ∙ sym (unwrap_or-slice_get (map function_arguments functions) place (pos 0))))
