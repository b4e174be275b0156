pub mod KeepingCounts
pub mod StateNames
pub mod KeepingNames
pub mod KeepingSizes
pub mod KeepingVariables
pub mod Starts
