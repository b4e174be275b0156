-- Codes as definitions and laws see them: without the room of their vectors.
use Rattle.std.specs.Prelude.{ℕ, ℤ, Bool, List, map}
use Rattle.icn_value.specs.declared.cset.Cset.{Cset}
use Rattle.icn_code.specs.declared.instr.Instr.{Instr}
use Rattle.icn_code.specs.declared.code.Global.{Global}
use Rattle.icn_code.specs.declared.code.LinkedProcedure.{LinkedProcedure}
use Rattle.icn_code.specs.declared.code.LinkedRecord.{LinkedRecord}

-- a record type: the place of its name among the strings, and those of its fields' names
pub record RecordType : Type 0 where
  pub name : ℕ
  pub fields : List ℕ

-- A procedure: the place of its name among the strings, how many parameters it has and whether the last one collects,
-- how many other locals and statics, and its instructions.
pub record Proc : Type 0 where
  pub name : ℕ
  pub parameters : ℕ
  pub collects : Bool
  pub locals : ℕ
  pub statics : ℕ
  pub instrs : List Instr

-- the tables of a program
pub record Tables : Type 0 where
  pub strings : List (List ℕ)
  pub csets : List Cset
  pub integers : List ℤ
  pub fields : List ℕ
  pub records : List RecordType
  pub globals : List Global
  pub procs : List Proc

-- a record type, with its fields as a plain list
abbrev pub record_of : LinkedRecord → RecordType
record_of kind = record { name = kind.name; fields = kind.fields.items }

-- a procedure, with its instructions as a plain list
abbrev pub proc_of : LinkedProcedure → Proc
proc_of proc = record {
  name = proc.name;
  parameters = proc.parameters;
  collects = proc.collects;
  locals = proc.locals;
  statics = proc.statics;
  instrs = proc.instrs.items;
}

-- the record types, as plain lists
abbrev pub records_of : List LinkedRecord → List RecordType
records_of records = map record_of records

-- the procedures, as plain lists
abbrev pub procs_of : List LinkedProcedure → List Proc
procs_of procs = map proc_of procs
