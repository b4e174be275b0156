mod SameShapes
mod ShapeSums
mod InstructionWays
mod ArrivingShapes
mod LeastRules
mod FirstFaults
mod SoundInstructions
mod KeptStacks
mod EntryTests
mod BaseLevels
mod SlotTables
mod RisingCounts
mod TableRules
mod StaticsLoop
mod ProcedureChecks
mod ShapeLaws
pub mod DecidedFaults
