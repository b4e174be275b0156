pub mod Literals
pub mod Outcomes
pub mod Reading
