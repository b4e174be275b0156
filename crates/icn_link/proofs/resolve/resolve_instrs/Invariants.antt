use Rattle.std.proofs.Common.{◌≡◌, ◌++◌, drop}
use Rattle.icn_link.specs.Resolving.{resolve}
use Rattle.icn_link.specs.Joined.{scope_with}
use Rattle.icn_link.specs.Views.{gathered_seen, address_in}
use Rattle.icn_link.proofs.resolve.resolve_instrs.Given as goal

abbrev pub invariant-loop-instr : goal.invariant-loop-instr
invariant-loop-instr l = l.code.items ++ resolve (scope_with (gathered_seen l.tables) l.variables (address_in l.labels)) (drop l.instr-index l.instrs)
    ≡ resolve (scope_with (gathered_seen l.tables) l.variables (address_in l.labels)) l.instrs
