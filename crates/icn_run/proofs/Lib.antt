pub mod OneObservation
pub mod Errors
pub mod StoreLaws
pub mod NamedCallees
pub mod EveryStep
