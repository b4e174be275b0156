pub mod NoFaults
pub mod FaultCounts
pub mod ToldContent
pub mod TornAnswers
