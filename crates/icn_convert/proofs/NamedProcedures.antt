-- The image of a procedure by its kind.
use Rattle.std.proofs.Common.{◌≡◌, ◌∙◌, refl, ap, ℕ, ◌+◌, nat_lt, Bool, true, false, cond, List, ◌++◌, append_assoc, length}
use Rattle.std.specs.Prelude.{codes}
use Rattle.icn_value.specs.Store.{Names}
use Rattle.icn_defs.specs.Images.{procedure_image, procedure_name}
use Rattle.icn_convert.specs.declared.names.ProcKind.TheVariants.{Procedure, Constructor, Function}
use Rattle.icn_convert.specs.ProgramNames.{kind_of, kind_name}

by_tests : (name : List ℕ) (a b : Bool) → kind_name (cond a Procedure (cond b Constructor Function)) ++ name
    ≡ cond a (codes "procedure " ++ name) (cond b (codes "record constructor " ++ name) (codes "function " ++ name))
by_tests name true b = refl
by_tests name false true = refl
by_tests name false false = refl

image_is : (names : Names) (number : ℕ) → kind_name (kind_of names number) ++ procedure_name names number ≡ procedure_image names number
image_is names number =
    by_tests (procedure_name names number) (nat_lt number (length names.procedures)) (nat_lt number (length names.procedures + length names.records))

pub procedure_shown : (names : Names) (number : ℕ) (out : List ℕ)
    → (out ++ kind_name (kind_of names number)) ++ procedure_name names number ≡ out ++ procedure_image names number
procedure_shown names number out =
    append_assoc out (kind_name (kind_of names number)) (procedure_name names number) ∙ ap (λ shown. out ++ shown) (image_is names number)
