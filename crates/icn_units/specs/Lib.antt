pub mod CodeNames
pub mod Written
pub mod TypeBounds
pub mod UnitSeen
