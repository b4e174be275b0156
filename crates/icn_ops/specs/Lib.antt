pub mod Operands
pub mod Sections
