-- How contracts see units.
use Rattle.icn_unit.specs.declared.unit.ProcCode.{ProcCode}
use Rattle.icn_unit.specs.declared.unit.UnitDecl.{UnitDecl}
use Rattle.icn_unit.specs.declared.unit.UnitDecl.TheVariants.{Global as GlobalDecl, Proc as ProcDecl, Link as LinkDecl, Invocable as InvocableDecl, Record as RecordDecl}
use Rattle.icn_unit.specs.PlainUnits.{PlainProc, PlainDecl, Global, Procedure, Link, Invocable, Record}

-- the code of a procedure, as plain lists
abbrev pub proc_seen : ProcCode → PlainProc
proc_seen proc = record {
  name = proc.name;
  collects = proc.collects;
  names = proc.names.items;
  instrs = proc.instrs.items;
}

-- a declaration of a unit, as plain lists
abbrev pub decl_seen : UnitDecl → PlainDecl
decl_seen (GlobalDecl name) = Global name
decl_seen (ProcDecl name) = Procedure name
decl_seen (LinkDecl bytes) = Link bytes
decl_seen (InvocableDecl bytes) = Invocable bytes
decl_seen (RecordDecl name fields) = Record name fields.items
