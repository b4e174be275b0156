-- What an image has in front of its procedures, and what it says of a procedure in front of all instructions.
use Rattle.std.specs.Prelude.{ℕ, ℤ, List, length, ◌+◌}
use Rattle.icn_value.specs.declared.cset.Cset.{Cset}
use Rattle.icn_code.specs.declared.code.Global.{Global}
use Rattle.icn_code.specs.declared.instr.Instr.{Instr}
use Rattle.icn_code.specs.Codes.{RecordType, Proc, Tables, records_of}
use Rattle.icn_image.specs.declared.front.Front.{Front}
use Rattle.icn_image.specs.declared.head.ImageHead.{ImageHead}
use Rattle.icn_image.specs.declared.scope.TableSizes.{TableSizes}

-- the tables in front of the procedures
pub record FrontTables : Type 0 where
  pub strings : List (List ℕ)
  pub csets : List Cset
  pub integers : List ℤ
  pub fields : List ℕ
  pub records : List RecordType
  pub globals : List Global

-- the tables in front of the procedures, as plain lists
abbrev pub tables_in : Front → FrontTables
tables_in front = record {
  strings = front.strings.items;
  csets = front.csets.items;
  integers = front.integers.items;
  fields = front.fields.items;
  records = records_of front.records.items;
  globals = front.globals.items;
}

-- the tables of a code: those in front, and its procedures
abbrev pub with_procs : FrontTables → List Proc → Tables
with_procs front procs = record {
  strings = front.strings;
  csets = front.csets;
  integers = front.integers;
  fields = front.fields;
  records = front.records;
  globals = front.globals;
  procs = procs;
}

-- what an image says of a procedure in front of all instructions
abbrev pub head_of : Proc → ImageHead
head_of proc = record {
  name = proc.name;
  parameters = proc.parameters;
  collects = proc.collects;
  locals = proc.locals;
  statics = proc.statics;
  instrs = length proc.instrs;
}

-- the procedure of a head, with these instructions
abbrev pub with_instrs : ImageHead → List Instr → Proc
with_instrs head instrs = record {
  name = head.name;
  parameters = head.parameters;
  collects = head.collects;
  locals = head.locals;
  statics = head.statics;
  instrs = instrs;
}

-- what an instruction of a procedure may name
abbrev pub scope_of : FrontTables → ImageHead → TableSizes
scope_of front head = record {
  integers = length front.integers;
  strings = length front.strings;
  csets = length front.csets;
  globals = length front.globals;
  fields = length front.fields;
  variables = head.parameters + head.locals;
  statics = head.statics;
  labels = head.instrs;
}
