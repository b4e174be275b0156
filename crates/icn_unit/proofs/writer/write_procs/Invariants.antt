use Rattle.std.proofs.Common.{◌≡◌, ◌++◌, ◌∷◌, take, map}
use Rattle.std.specs.Prelude.{codes}
use Rattle.std.specs.List.{flat_map}
use Rattle.icn_unit.specs.UnitTexts.{proc_text}
use Rattle.icn_unit.specs.UnitViews.{proc_seen}
use Rattle.icn_unit.proofs.writer.write_procs.Given as goal

abbrev pub invariant-loop-proc : goal.invariant-loop-proc
invariant-loop-proc l = l.text.items ≡ codes "U9.1" ++ 10 ∷ flat_map proc_text (map proc_seen (take l.proc-index l.procs))
