-- A unit as plain lists.
use Rattle.std.specs.Prelude.{map}
use Rattle.icn_unit.specs.declared.unit.Unit.{Unit}
use Rattle.icn_unit.specs.PlainUnits.{UnitRead}
use Rattle.icn_unit.specs.UnitViews.{decl_seen, proc_seen}

-- a unit, as plain lists
abbrev pub unit_seen : Unit → UnitRead
unit_seen unit = record {
  name = unit.name;
  procs = map proc_seen unit.procs.items;
  decls = map decl_seen unit.decls.items;
}
