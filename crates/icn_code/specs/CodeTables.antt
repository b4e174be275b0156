-- The tables of a code.
use Rattle.icn_code.specs.Codes.{Tables, records_of, procs_of}
use Rattle.icn_code.specs.declared.code.Code.{Code}

-- the tables of a code, as plain lists
abbrev pub tables_of : Code → Tables
tables_of code = record {
  strings = code.strings.items;
  csets = code.csets.items;
  integers = code.integers.items;
  fields = code.fields.items;
  records = records_of code.records.items;
  globals = code.globals.items;
  procs = procs_of code.procs.items;
}
