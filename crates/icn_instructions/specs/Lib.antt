pub mod Groups
pub mod Ranges
pub mod InstructionEffects
pub mod FirstStatics
