-- Functions are found by their names.
use Rattle.std.proofs.Common.{◌≡◌, ◌≢◌, ℕ, Bool, true, false, cond, eqb, List as ListOf, [], ◌∷◌, Option, Some, None, refl, sym, subst}
use Rattle.std.specs.Prelude.{IfSome, IfNone, find}
use Rattle.std.specs.Str.{bytes_eq}
use Rattle.std.proofs.lemmas.Slice.Eq.{bytes_eq-Decides}
use Rattle.std.specs.Option.{option_map_or}
use Rattle.icn_text.specs.Funcs.{func_name, func_number}
use Rattle.icn_text.proofs.FuncNames.{every_func, func_found}
use Rattle.icn_text.specs.declared.func.Func.{Func}
use Rattle.icn_text.specs.declared.func.TheConstants.Func.{ALL as functions}
use Rattle.icn_link.specs.Mentions.{function_named}

-- what is found under the name of a function is this function
found_itself : (f : Func) → function_named (func_name f) ≡ Some f
found_itself f =
    func_found (function_named (func_name f)) f
    (every_func (λ x. option_map_or (λ y. eqb (func_number y) (func_number x)) (function_named (func_name x)) false) refl f)

lacking_by : (name : ListOf ℕ) (f : Func) (others : Option Func) (test : Bool) → bytes_eq name (func_name f) ≡ test
    → func_name f ≢ name → others ≡ None → cond test (Some f) others ≡ None
lacking_by name f others true e apart h = absurd (apart (sym ((bytes_eq-Decides name (func_name f)).0 e)))
lacking_by name f others false e apart h = h

lacking : (name : ListOf ℕ) → ((any : Func) → func_name any ≢ name) → (fs : ListOf Func)
    → find (λ func. bytes_eq name (func_name func)) fs ≡ None
lacking name apart [] = refl
lacking name apart (f ∷ fs) = lacking_by name f _ (bytes_eq name (func_name f)) refl (apart f) (lacking name apart fs)

pub function_found : (found : Option Func) (name : ListOf ℕ) → IfSome found (λ f. func_name f ≡ name)
    → IfNone found ((any : Func) → func_name any ≢ name) → found ≡ function_named name
function_found (Some f) name named none = subst (λ n. Some f ≡ function_named n) named (sym (found_itself f))
function_found None name named none = sym (lacking name none functions)
