use Rattle.std.proofs.Common.{◌≡◌, ◌++◌, drop, map}
use Rattle.icn_translate.specs.ProcCodes.{entry_of}
use Rattle.icn_translate.proofs.procedure.put_entries.Given as goal

abbrev pub invariant-loop-name : goal.invariant-loop-name
invariant-loop-name l = l.entries.items ++ map (λ name. entry_of l.kind name.text) (drop l.name-index l.names) ≡ l.initial.entries.items
    ++ map (λ name. entry_of l.kind name.text) l.names
