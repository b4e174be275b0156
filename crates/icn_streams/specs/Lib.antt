pub mod Handed
pub mod Answers
pub mod Applies
pub mod Readings
pub mod Settling
