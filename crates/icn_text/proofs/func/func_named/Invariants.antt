use Rattle.std.proofs.Common.{◌≢◌, ◌≤◌}
use Rattle.icn_text.specs.declared.func.Func.{Func}
use Rattle.icn_text.specs.Funcs.{func_number, func_name}
use Rattle.icn_text.proofs.func.func_named.Given as goal

-- none of those looked at has the name
abbrev pub invariant-loop-found : goal.invariant-loop-found
invariant-loop-found l = (any : Func) → func_number any ≤ l.found-index → func_name any ≢ l.name
