pub mod Readers
pub mod Operands
pub mod Scopes
pub mod Versions
pub mod Fronts
pub mod Spelling
pub mod Reading
