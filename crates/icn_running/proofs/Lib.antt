mod BrokenOff
mod RisenCounts
mod PlainImages
mod WorkLeft
mod LoopSteps
mod NamedOrNot
mod Observations
mod RecordNumbers
mod RunAnswers
mod Starts
mod EndedRuns
mod EndsAtStart
pub mod SettledEnds
mod ReportedRuns
pub mod CollectedMachines
