use Rattle.std.proofs.Common.{◌≡◌, ◌++◌, drop, map}
use Rattle.icn_unit.specs.declared.unit.NameKind.TheVariants.{Undeclared}
use Rattle.icn_translate.specs.ProcCodes.{entry_of}
use Rattle.icn_translate.proofs.procedure.put_undeclared.Given as goal

abbrev pub invariant-loop-name : goal.invariant-loop-name
invariant-loop-name l = l.entries.items ++ map (entry_of Undeclared) (map (λ name. name.now) (drop l.name-index l.undeclared)) ≡ l.initial.entries.items
    ++ map (entry_of Undeclared) (map (λ name. name.now) l.undeclared)
