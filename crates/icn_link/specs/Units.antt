-- Units as plain lists, and all their procedures and declarations.
use Rattle.std.specs.Prelude.{List, map}
use Rattle.std.specs.List.{flat_map}
use Rattle.icn_unit.specs.declared.unit.Unit.{Unit}
use Rattle.icn_unit.specs.PlainUnits.{PlainProc, PlainDecl, UnitRead}
use Rattle.icn_unit.specs.UnitViews.{decl_seen, proc_seen}

-- a unit, as plain lists
abbrev pub unit_seen : Unit → UnitRead
unit_seen unit = record {
  name = unit.name;
  procs = map proc_seen unit.procs.items;
  decls = map decl_seen unit.decls.items;
}

-- the units, as plain lists
abbrev pub units_seen : List Unit → List UnitRead
units_seen units = map unit_seen units

-- those of all units, in their order
abbrev pub all_procs : List UnitRead → List PlainProc
all_procs units = flat_map (λ unit. unit.procs) units

-- the declarations of all units, in their order
abbrev pub all_decls : List UnitRead → List PlainDecl
all_decls units = flat_map (λ unit. unit.decls) units
