pub mod OpNumbers
pub mod FuncNumbers
pub mod KeywordNumbers
pub mod FoundFacts
pub mod OneObservation
pub mod Interruptions
pub mod OnErrors
