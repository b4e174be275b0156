pub mod WorldFacts
pub mod Stops
pub mod Worlds
pub mod SettingFacts
pub mod FoundValues
pub mod Outcomes
pub mod Assignments
pub mod NeededItems
