pub mod AddedVariables
mod Functions
pub mod NamedValues
