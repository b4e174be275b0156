-- How contracts see kept procedures, and what stays of a table.
use Rattle.std.specs.Prelude.{ℕ, List, map}
use Rattle.std.specs.Borrow.{Bor}
use Rattle.icn_code.specs.declared.code.LinkedProcedure.{LinkedProcedure}
use Rattle.icn_code.specs.declared.instr.Instr.{Instr}
use Rattle.icn_code.specs.Codes.{Proc, proc_of}
use Rattle.icn_prune.specs.declared.entries.CodeTable.{CodeTable}
use Rattle.icn_prune.specs.declared.entries.CodeTable.TheVariants.{Strings, Csets, Integers, Fields, Globals}
use Rattle.icn_prune.specs.declared.surviving.SurvivingPlaces.{SurvivingPlaces}
use Rattle.icn_prune.specs.KeptCode.{global_in}
use Rattle.icn_prune.specs.PrunedCode.{Survivors, cset_in, field_in, integer_in, string_in}

-- the procedures that are kept, as plain lists
abbrev pub procs_seen : List (Bor LinkedProcedure) → List Proc
procs_seen procs = map (λ entry. proc_of entry.now) procs

-- the place of the entry that an instruction takes from a table, if it takes one
abbrev pub taken_from : CodeTable → Instr → List ℕ
taken_from Strings = string_in
taken_from Csets = cset_in
taken_from Integers = integer_in
taken_from Fields = field_in
taken_from Globals = global_in

-- the places that stay of each table, as plain lists
abbrev pub survivors_seen : SurvivingPlaces → Survivors
survivors_seen S = record {
  strings = S.strings.left.items;
  csets = S.csets.left.items;
  integers = S.integers.left.items;
  fields = S.fields.left.items;
  globals = S.globals.left.items;
  procs = S.procs.left.items;
}
