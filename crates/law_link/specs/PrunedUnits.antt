-- The code of units without the procedures that are not kept.
use Rattle.std.specs.Prelude.{Bool, List}
use Rattle.icn_code.specs.Codes.{Tables}
use Rattle.icn_unit.specs.PlainUnits.{UnitRead}
use Rattle.icn_link.specs.Joined.{joined_code, named_procs, names_all}
use Rattle.icn_prune.specs.KeptCode.{kept_of}
use Rattle.icn_prune.specs.PrunedCode.{pruned_tables}

-- which procedures of units are kept
abbrev pub kept_flags : List UnitRead → List Bool
kept_flags units = kept_of (joined_code units) (named_procs units) (names_all units)

-- the code of units: with the kept procedures alone
abbrev pub pruned_code : List UnitRead → Tables
pruned_code units = pruned_tables (kept_flags units) (joined_code units)
