-- Where a case compares, a mark is open in the procedure that runs.
use Rattle.std.specs.Prelude.{◌≡◌, List, Some, IsSome}
use Rattle.icn_value.specs.Store.{Outside}
use Rattle.icn_code.specs.declared.instr.Instr.TheVariants.{Ccase}
use Rattle.icn_code.specs.Codes.{Tables}
use Rattle.icn_run.specs.Stacks.{Frames, flat, unmark}
use Rattle.icn_run.specs.Step.{State, failing, hopping, instruction_at, over, running, stuck}
use Rattle.icn_run.specs.AnyOutside.{run_over}

-- where the instruction that runs is `ccase`, a mark is open
abbrev pub CaseStands : Tables → State Frames Frames → Type 0
CaseStands tables (running m st) = instruction_at flat tables m ≡ Some Ccase → IsSome (unmark m)
CaseStands tables (failing m st) = Unit {0}
CaseStands tables (hopping m st) = Unit {0}
CaseStands tables (over ending outside) = Unit {0}
CaseStands tables stuck = Unit {0}

-- it is so at each state from here on, whatever the outside is before each step
abbrev pub CasesStandOver : Tables → State Frames Frames → Type 0
CasesStandOver tables state = (outsides : List Outside) → CaseStands tables (run_over tables outsides state)
