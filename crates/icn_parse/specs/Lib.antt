pub mod Outcomes
pub mod FileReading
pub mod PartReading
pub mod KeptDeclarations
pub mod Views
pub mod Longest
