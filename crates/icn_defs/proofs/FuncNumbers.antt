-- The number of each leads back to it.
use Rattle.std.proofs.Common.{◌≡◌, eqb, false, Some as Found, refl}
use Rattle.std.specs.Option.{option_map_or}
use Rattle.icn_text.specs.declared.func.Func.{Func}
use Rattle.icn_text.specs.Funcs.{func_number}
use Rattle.icn_text.proofs.FuncNames.{every_func, func_found}
use Rattle.icn_defs.specs.Numbers.{func_of}

pub func_back : (any : Func) → func_of (func_number any) ≡ Found any
func_back any =
    func_found (func_of (func_number any)) any
    (every_func (λ x. option_map_or (λ y. eqb (func_number y) (func_number x)) (func_of (func_number x)) false) refl any)
