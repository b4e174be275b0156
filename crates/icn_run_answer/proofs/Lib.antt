pub mod Reports
pub mod CountCauses
pub mod Endings
pub mod CountsRise
pub mod OutsideLeft
