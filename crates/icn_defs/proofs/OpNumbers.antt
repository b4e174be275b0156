-- The number of each leads back to it.
use Rattle.std.proofs.Common.{◌≡◌, eqb, false, Some as Found, refl}
use Rattle.std.specs.Option.{option_map_or}
use Rattle.icn_text.specs.declared.op.Op.{Op}
use Rattle.icn_text.specs.Ops.{op_number}
use Rattle.icn_text.proofs.OpNumbers.{every_op, op_found}
use Rattle.icn_defs.specs.Numbers.{op_of}

-- the number of an operation leads back to it
pub op_back : (any : Op) → op_of (op_number any) ≡ Found any
op_back any =
    op_found (op_of (op_number any)) any
    (every_op (λ x. option_map_or (λ y. eqb (op_number y) (op_number x)) (op_of (op_number x)) false) refl any)
