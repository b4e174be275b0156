pub mod Contexts
pub mod Faults
pub mod DistinctNames
pub mod Views
pub mod CheckedTexts
