pub mod CallsNamed
mod StepsNamed
mod StepsSized
mod NamedStarts
pub mod RowCounts
mod RowVariables
mod VariablesKept
