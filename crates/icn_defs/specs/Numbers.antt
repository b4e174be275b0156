-- The operation, the function and the keyword of a number.
use Rattle.std.specs.Prelude.{◌==◌, ℕ, Option, find}
use Rattle.icn_text.specs.Funcs.{func_number}
use Rattle.icn_text.specs.Keywords.{keyword_number}
use Rattle.icn_text.specs.Ops.{op_number}
use Rattle.icn_text.specs.declared.func.Func.{Func}
use Rattle.icn_text.specs.declared.func.TheConstants.Func.{ALL as funcs}
use Rattle.icn_text.specs.declared.keyword.Keyword.{Keyword}
use Rattle.icn_text.specs.declared.keyword.TheConstants.Keyword.{ALL as keywords}
use Rattle.icn_text.specs.declared.op.Op.{Op}
use Rattle.icn_text.specs.declared.op.TheConstants.Op.{ALL as ops}

-- the operation of this number, if there is one
abbrev pub op_of : ℕ → Option Op
op_of n = find (λ op. op_number op == n) ops

-- the function of this number, if there is one
abbrev pub func_of : ℕ → Option Func
func_of n = find (λ func. func_number func == n) funcs

-- the keyword of this number, if there is one
abbrev pub keyword_of : ℕ → Option Keyword
keyword_of n = find (λ keyword. keyword_number keyword == n) keywords
