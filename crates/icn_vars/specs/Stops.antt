-- Why calls stop, as the definitions have it.
use Rattle.std.specs.Prelude.{None, IfSome, ⊤}
use Rattle.std.specs.Option.{option_map}
use Rattle.icn_value.specs.declared.full.Full.{Full}
use Rattle.icn_value.specs.declared.full.Full.TheVariants.{Strings, Cells, NoMemory as NoRoom}
use Rattle.icn_value.specs.Store.{Setting}
use Rattle.icn_defs.specs.Calls.{ComesTo, Halts}
use Rattle.icn_defs.specs.Rows.{Row, Finds, Error as ErrorOutcome}
use Rattle.icn_heap.specs.Extents.{Extent, IsLive, value_in}
use Rattle.icn_vars.specs.declared.stop.Stop.{Stop}
use Rattle.icn_vars.specs.declared.stop.Stop.TheVariants.{Error, NoMemory}
use Rattle.icn_vars.specs.declared.outcome.Halt.{Halt}
use Rattle.icn_vars.specs.declared.outcome.Halt.TheVariants.{Error as ErrorHalt, NoMemory as NoMemoryHalt}

-- why a call stops where the heap is full: a limit is passed, which is an error, or there is no memory
abbrev pub stop_of : Full → Stop
stop_of (Strings sum limit) = Error 306 None
stop_of (Cells sum limit) = Error 307 None
stop_of NoRoom = NoMemory

-- a stop, as the end of a run
abbrev pub halt_of : Stop → Halt
halt_of (Error number offending) = ErrorHalt number offending
halt_of NoMemory = NoMemoryHalt

-- the value that an error is about is of the heap
abbrev pub IsLiveStop : Extent → Stop → Type 0
IsLiveStop all (Error number offending) = IfSome offending (IsLive all)
IsLiveStop all NoMemory = ⊤

-- what is looked for comes to this error, or memory was wanting
abbrev pub StopsFinding : {A : Type 0} → Extent → Finds A → Setting → Setting → Stop → Type 0
StopsFinding all find before after (Error number offending) =
    ComesTo find before (ErrorOutcome number (option_map (value_in all) offending) after)
StopsFinding all find before after NoMemory = ⊤

-- the part of a row comes to this error, or memory was wanting
abbrev pub StopsPassing : Extent → (Row → Row) → Setting → Setting → Stop → Type 0
StopsPassing all part before after (Error number offending) =
    Halts part before (ErrorOutcome number (option_map (value_in all) offending) after)
StopsPassing all part before after NoMemory = ⊤
