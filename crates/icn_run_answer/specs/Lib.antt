pub mod Reporting
pub mod FaultAnswers
pub mod ToldObjects
pub mod InputLeft
pub mod CountCauses
pub mod CountsRise
pub mod OutsideLeft
pub mod PendingBytes
