pub mod BoundedTurns
pub mod PartRuns
