use Rattle.std.proofs.Common.{◌≡◌, ◌++◌, true, length, map}
use Rattle.std.specs.List.{All, list_all}
use Rattle.icn_heap.specs.Extents.{Extent, IsLive, value_in}
use Rattle.icn_code.specs.Rules.{is_global}
use Rattle.icn_code.specs.CodeTables.{tables_of}
use Rattle.icn_run.specs.Step.{first_globals, global_value}
use Rattle.icn_machine.proofs.starting.first_globals.Given as goal

abbrev pub invariant-loop-first : goal.invariant-loop-first
invariant-loop-first l = record {
  values : (all : Extent) → map (value_in all) l.vals.items ++ map (global_value (tables_of l.code)) l.rest ≡ first_globals (tables_of l.code);
  live : (all : Extent) → All (IsLive all) l.vals.items;
  fits : list_all (is_global (length (tables_of l.code).strings) (length (tables_of l.code).records) (length (tables_of l.code).procs)) l.rest ≡ true;
}

abbrev pub decreases-loop-first : goal.decreases-loop-first
decreases-loop-first l = length l.rest
