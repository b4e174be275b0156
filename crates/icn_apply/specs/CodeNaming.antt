-- The names that the tables of a code have.
use Rattle.std.specs.Prelude.{ℕ, ℤ, pos, List, [], ◌++◌, length, map, slice_index_or}
use Rattle.icn_value.specs.Store.{Names}
use Rattle.icn_defs.specs.NamedValues.{arguments_taken}
use Rattle.icn_code.specs.Codes.{Tables, Proc, RecordType}

-- the name of a procedure, which its entry has by its index
abbrev pub procedure_named : Tables → Proc → List ℕ
procedure_named tables entry = slice_index_or tables.strings entry.name []

-- the name of a record, which its entry has by its index
abbrev pub record_named : Tables → RecordType → List ℕ
record_named tables entry = slice_index_or tables.strings entry.name []

-- how many arguments a procedure takes, below 0 where its last parameter collects
abbrev pub proc_arguments : Proc → ℤ
proc_arguments entry = arguments_taken entry.parameters entry.collects

-- a constructor takes as many arguments as its records have fields
abbrev pub record_arguments : RecordType → ℤ
record_arguments entry = pos (length entry.fields)

-- the names of the procedures and of the records; a text names each of them
abbrev pub names_of : Tables → Names
names_of tables = record {
  procedures = map (procedure_named tables) tables.procs;
  records = map (record_named tables) tables.records;
  arguments = map proc_arguments tables.procs ++ map record_arguments tables.records;
  hidden = [];
}
